-- Save and restore undo each other: no count, half, hidden error, catcher, phase or frozen count is lost on the way.
-- `save_code`, `saved_of` and `restored_of` are what the calls `save` and `restore` promise to answer; `Shaped` is what every record of the
-- device's struct has, its arrays' lengths, and `Bytes` what every slice of bytes has.
-- Assumes nothing.
use Prim.Native.Nat.{ℕ}
use mathlib.Core.Path.{◌≡◌, refl, sym, ap, subst, ◌∙◌}
use mathlib.Core.Bool.{Bool, true, false}
use mathlib.Core.List.{List}
use native.Mathlib.Omega.{arith}
use borrow.Author.Tests.{eq-eqb, eqb-true, eqb-false, le-ltb}
use lib.Dec.{eqb}
use lib.ListN.{length, take, drop}
use Rattle.rules.specs.declared.Device.{Device}
use Rattle.rules.specs.Record.{Shaped, fresh_of}
use Rattle.rules.specs.Interrupts.{lines_of}
use Rattle.rules.specs.Sound.{sound_of}
use Rattle.theorems.proofs.Stored.{sound-lines, sound-relined, fresh_lines}
use Rattle.bodies.specs.Layout.{Layout, layout_of, layout_in, contents_len, length_of, contents_of}
use Rattle.bodies.specs.Written.{image_of}
use Rattle.bodies.specs.Taken.{Bytes}
use Rattle.bodies.proofs.Whole.{image-length, image-contents, image-layout, image-clear, read_back, written_back, shaped}
use Rattle.image.specs.declared.Restored.{Restored}
use Rattle.image.specs.Image.{save_code, saved_of, accepted_of, restored_in, restored_of}
use Rattle.image.proofs.Agree.{alike}
use Rattle.image.proofs.Versions.{sound-versioned}
use Rattle.image.proofs.Answers.{accepted, fresh, saved-sound, saved-image, untouched, rest}

-- a sound record's image restores to that very record, in either version
pub restored-image : (d : Device) → Shaped d → sound_of d ≡ true → restored_of (image_of d) ≡ record { code = 0; device = d }
unfolding restored_of restored_in accepted_of
restored-image d f s =
    let v = sound-versioned d f s in
    let whole = image-length d in
    let long = eq-eqb (length (image_of d)) (length_of (layout_of d)) whole in
    let not_IsShort = le-ltb (length (image_of d)) (contents_len (layout_of d)) (omega arith) in
    let table = alike _ (contents_of (layout_of d)) (image-contents d) in
    let told = read_back d f v ∙ sound-relined d s in
    ap (λ (l : Layout). restored_in l (image_of d)) (image-layout d) ∙ simp (not_IsShort, table, long, image-clear d v, told, s)

-- restoring what save wrote gives code 0 and that very record
pub restored-saved : (d : Device) (e : List ℕ) → Shaped d → save_code d (length e) ≡ 0
    → restored_of (take (length_of (layout_of d)) (saved_of d e)) ≡ record { code = 0; device = d }
restored-saved d e f h = ap restored_of (saved-image d e h) ∙ restored-image d f (saved-sound d (length e) h)

-- an accepted image is, byte for byte, what saving its record writes
pub accepted-written : (s : List ℕ) → Bytes s → (restored_of s).code ≡ 0 → image_of (restored_of s).device ≡ s
accepted-written s b h =
    let a = accepted s h in ap image_of a.is ∙ written_back s a.long b a.clear a.table

-- an accepted image's record is sound, and one that the struct holds
pub accepted-sound : (s : List ℕ) → (restored_of s).code ≡ 0 → sound_of (restored_of s).device ≡ true
accepted-sound s h = let a = accepted s h in ap sound_of a.is ∙ a.sound

pub accepted-shaped : (s : List ℕ) → (restored_of s).code ≡ 0 → Shaped (restored_of s).device
accepted-shaped s h = subst Shaped (sym (accepted s h).is) (shaped (layout_in s) s)

-- two sound records that have one image are equal, also in their version
pub one-record : (d e : Device) → Shaped d → sound_of d ≡ true → Shaped e → sound_of e ≡ true → image_of d ≡ image_of e → d ≡ e
one-record d e f s g t h =
    ap (λ (r : Restored Device). r.device) (sym (restored-image d f s) ∙ ap restored_of h ∙ restored-image e g t)

-- a refused restore gives the fresh device
pub refused-fresh : (s : List ℕ) → ((restored_of s).code ≡ 0 → ⊥) → (restored_of s).device ≡ fresh_of
refused-fresh s h = fresh s h

-- the stored lines of what any restore gives are true
lines-by : (t : Bool) (s : List ℕ) → eqb (restored_of s).code 0 ≡ t → (restored_of s).device.lines ≡ lines_of (restored_of s).device
lines-by true s e = sound-lines (restored_of s).device (accepted-sound s (eqb-true (restored_of s).code 0 e))
lines-by false s e =
    subst (λ (d : Device). d.lines ≡ lines_of d) (sym (fresh s (eqb-false (restored_of s).code 0 e))) fresh_lines

pub restored-lines : (s : List ℕ) → (restored_of s).device.lines ≡ lines_of (restored_of s).device
restored-lines s = lines-by _ s refl

-- a refused save leaves every byte of its buffer, and any save every byte past the image
pub refused-untouched : (d : Device) (e : List ℕ) → (save_code d (length e) ≡ 0 → ⊥) → saved_of d e ≡ e
refused-untouched d e h = untouched d e h

pub saved-rest : (d : Device) (e : List ℕ) → drop (length_of (layout_of d)) (saved_of d e) ≡ drop (length_of (layout_of d)) e
saved-rest d e = rest d e
