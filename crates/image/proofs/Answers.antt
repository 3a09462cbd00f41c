-- What an accepted restore or save has met, and what any of them leaves.
-- Assumes nothing.
use Prim.Native.Nat.{ℕ}
use mathlib.Core.Path.{◌≡◌, refl, ap, ◌∙◌}
use mathlib.Core.Bool.{Bool, true, false, cond}
use mathlib.Core.List.{List, ◌++◌}
use native.Mathlib.Omega.{arith}
use borrow.Author.Tests.{eq-eqb, ne_eqb}
use lib.Dec.{eqb}
use lib.ListN.{length, take, drop, length-append, length-drop}
use lib.Seq.{take_at, drop_at}
use Rattle.rules.specs.declared.Device.{Device}
use Rattle.rules.specs.Record.{fresh_of}
use Rattle.rules.specs.Interrupts.{lines_of}
use Rattle.rules.specs.Sound.{sound_of}
use Rattle.theorems.proofs.Stored.{sound-lines}
use Rattle.bodies.specs.Layout.{layout_of, layout_in, length_of, contents_of}
use Rattle.bodies.specs.Written.{image_of}
use Rattle.bodies.specs.Taken.{clear_in}
use Rattle.basics.proofs.Tests.{both}
use Rattle.bodies.proofs.Whole.{image-length}
use Rattle.image.specs.Image.{save_code, saved_of, accepted_of, restored_in, restored_of}
use Rattle.image.proofs.Agree.{alike}
use Rattle.image.proofs.Codes.{restores, short, table, long, first_bytes, told, good_bodies, enough, restore-0, save-0, save-9}

-- ---- restore
pub record Accepted (s : List ℕ) : Type 0 where
  pub long : length s ≡ length_of (layout_in s)
  pub table : first_bytes s ≡ contents_of (layout_in s)
  pub clear : clear_in (layout_in s) s ≡ true
  pub sound : sound_of (told s) ≡ true
  pub is : (restored_of s).device ≡ told s

pub accepted : (s : List ℕ) → (restored_of s).code ≡ 0 → Accepted s
unfolding restored_of restored_in accepted_of
accepted s h =
    let p = (restore-0 s).0 h in
    let k = both (clear_in (layout_in s) s) (sound_of (told s)) p.2 in
    record {
      long = p.1;
      table = p.0;
      clear = k.0;
      sound = k.1;
      is = simp (enough s p.1, alike _ _ p.0, eq-eqb _ _ p.1, p.2);
    }

failed : (s t l g : Bool) (d : Device) → ((restores s t l g d).code ≡ 0 → ⊥) → (restores s t l g d).device ≡ fresh_of
failed true t l g d h = refl
failed false true true true d h = absurd (h refl)
failed false true true false d h = refl
failed false true false g d h = refl
failed false false l g d h = refl

pub fresh : (s : List ℕ) → ((restored_of s).code ≡ 0 → ⊥) → (restored_of s).device ≡ fresh_of
unfolding restored_of restored_in accepted_of
fresh s h = failed (short s) (table s) (long s) (good_bodies s) (told s) h

-- ---- save
pub saved-sound : (d : Device) (n : ℕ) → save_code d n ≡ 0 → sound_of d ≡ true
saved-sound d n h = ((save-0 d n).0 h).0

not_sound : (t : Bool) → (t ≡ true → ⊥) → t ≡ false
not_sound true f = absurd (f refl)
not_sound false f = refl

-- only soundness refuses where the buffer is long enough
pub unsound : (d : Device) → (save_code d (length_of (layout_of d)) ≡ 0 → ⊥) → sound_of d ≡ false
unsound d h = not_sound (sound_of d) (λ s. h ((save-0 d (length_of (layout_of d))).1 (s, omega arith)))

-- paper 02, W-208: "A record whose stored lines are false is unsound, code 9"
pub false-lines : (d : Device) (n : ℕ) → (d.lines ≡ lines_of d → ⊥) → save_code d n ≡ 9
false-lines d n f = (save-9 d n).1 (not_sound (sound_of d) (λ s. f (sound-lines d s)))

pub saved-whole : (d : Device) (e : List ℕ) → save_code d (length e) ≡ 0 → saved_of d e ≡ image_of d ++ drop (length_of (layout_of d)) e
unfolding saved_of
saved-whole d e h = simp (eq-eqb _ _ h)

pub untouched : (d : Device) (e : List ℕ) → (save_code d (length e) ≡ 0 → ⊥) → saved_of d e ≡ e
unfolding saved_of
untouched d e h = simp (ne_eqb _ _ h)

pub saved-image : (d : Device) (e : List ℕ) → save_code d (length e) ≡ 0 → take (length_of (layout_of d)) (saved_of d e) ≡ image_of d
saved-image d e h = ap (take (length_of (layout_of d))) (saved-whole d e h) ∙ take_at (image_of d) (drop (length_of (layout_of d)) e) (length_of (layout_of d)) (image-length d)

module _ (d : Device) (e : List ℕ) where
  -- the buffer after a save that was accepted, or was not
  abbrev after : Bool → List ℕ
  after ok = cond ok (image_of d ++ drop (length_of (layout_of d)) e) e

  past : (ok : Bool) → drop (length_of (layout_of d)) (after ok) ≡ drop (length_of (layout_of d)) e
  past true = drop_at (image_of d) (drop (length_of (layout_of d)) e) (length_of (layout_of d)) (image-length d)
  past false = refl

  -- past the image the buffer is as it was, whatever the code
  pub rest : drop (length_of (layout_of d)) (saved_of d e) ≡ drop (length_of (layout_of d)) e
  unfolding saved_of
  rest = past (eqb (save_code d (length e)) 0)

  whole : (ok : Bool) → length e ≡ length_of (layout_of d) → length (after ok) ≡ length_of (layout_of d)
  whole true n =
      length-append (image_of d) (drop (length_of (layout_of d)) e) ∙ omega (arith, image-length d, length-drop (length_of (layout_of d)) e)
  whole false n = n

  -- a buffer of an image's length stays one
  pub saved-length : length e ≡ length_of (layout_of d) → length (saved_of d e) ≡ length_of (layout_of d)
  unfolding saved_of
  saved-length n = whole (eqb (save_code d (length e)) 0) n
