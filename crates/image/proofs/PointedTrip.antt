-- Save and restore of a Z8536 undo each other. What its core loses nothing of is told in `RoundTrip`; here are the pointer and its state.
-- `Shaped` is what every record of the core's struct has, and `Bytes` what every slice of bytes has.
-- Assumes nothing.
use Prim.Native.Nat.{ℕ, ◌≤◌}
use mathlib.Core.Path.{◌≡◌, refl, sym, ap, ap₂, subst, ◌∙◌}
use mathlib.Core.Bool.{Bool, true, false}
use mathlib.Core.List.{List, ◌++◌}
use native.Mathlib.Omega.{arith}
use borrow.Author.Tests.{eq-eqb}
use lib.ListN.{length, get_or, take, drop}
use lib.Seq.{take_at, take-add, take_all}
use Rattle.rules.specs.declared.Device.{Device}
use Rattle.rules.specs.Record.{Shaped}
use Rattle.z8536.specs.declared.Z8536.{Z8536}
use Rattle.z8536.specs.Z8536.{sound_z8536}
use Rattle.z8536.proofs.Parts.{parts}
use Rattle.basics.proofs.Tests.{triple}
use Rattle.bodies.specs.Layout.{layout3, contents_of, body_in, part}
use Rattle.bodies.specs.Written.{registers_from, registers_body, counts_body, pins_body, lines_body, transfers_body, pointer_body, image_of}
use Rattle.bodies.specs.Taken.{Bytes, pointer_clear, device_in, clear_in}
use Rattle.bodies.proofs.Entries.{bytes-part, part_length}
use Rattle.bodies.proofs.PointerLaw.{pointer-written}
use Rattle.bodies.proofs.Whole.{shaped}
use Rattle.image.specs.declared.Restored.{Restored}
use Rattle.image.specs.Image.{accepted_of, restored_in, restored_of}
use Rattle.image.specs.Pointed.{image_z8536, saved_z8536, with_pointer, restored_z8536}
use Rattle.image.proofs.Numbers.{begins-3}
use Rattle.image.proofs.RoundTrip.{restored-image as core-restored, accepted-written as core-written}
use Rattle.image.proofs.PointedSaved.{image-length, save-0, saved-whole}
use Rattle.image.proofs.PointedCore.{inner, inner-restored, restored-core, inner-image, outer-image, inner-bytes}
use Rattle.image.proofs.PointedCodes.{told, restore-0, accepted-told}

-- a core and a sixth body beside it
beside : (d : Device) (p : ℕ) (q : Bool) → sound_z8536 (record { core = d; pointer = p; pointed = q }) ≡ true
    → with_pointer (record { code = 0; device = d }) (pointer_body p q) ≡ record { code = 0; device = record { core = d; pointer = p; pointed = q } }
unfolding with_pointer pointer_body
beside d p true s = simp s
beside d p false s = simp s

-- ---- "first bytes 03 and 06", "a sixth of two bytes, pointer and state"
module _ (z : Z8536) where
  pub image-contents : take 26 (image_z8536 z) ≡ contents_of layout3
  unfolding image_z8536
  image-contents = refl

  pub image-first : (get_or (image_z8536 z) 0 0 ≡ 0x03) × (get_or (image_z8536 z) 1 0 ≡ 0x06)
  unfolding image_z8536
  image-first = (refl, refl)

  pub image-sixth : body_in layout3 6 (image_z8536 z) ≡ pointer_body z.pointer z.pointed
  unfolding image_z8536 registers_body registers_from counts_body pins_body lines_body transfers_body pointer_body
  image-sixth = refl

  -- ---- out and in
  image-core : Shaped z.core → sound_z8536 z ≡ true → restored_in layout3 (image_z8536 z) ≡ record { code = 0; device = z.core }
  image-core f s =
      let part = parts z s in
      restored-core (image_z8536 z) image-contents (image-length z) ∙ ap restored_of (inner-image z part.version)
      ∙ core-restored z.core f part.core

  -- a sound record's image restores to that very record
  pub restored-image : Shaped z.core → sound_z8536 z ≡ true → restored_z8536 (image_z8536 z) ≡ record { code = 0; device = z }
  restored-image f s =
      sym (begins-3 (image_z8536 z) (eq-eqb _ _ image-first.0)) ∙ ap₂ with_pointer (image-core f s) image-sixth
      ∙ beside z.core z.pointer z.pointed s

  -- restoring what save wrote gives code 0 and that very record
  pub restored-saved : (e : List ℕ) → Shaped z.core → sound_z8536 z ≡ true → 102 ≤ length e
      → restored_z8536 (take 102 (saved_z8536 z e)) ≡ record { code = 0; device = z }
  restored-saved e f s room =
      ap (λ (b : List ℕ). restored_z8536 (take 102 b)) (saved-whole z e ((save-0 z (length e)).1 (s, room)))
      ∙ ap restored_z8536 (take_at (image_z8536 z) (drop 102 e) 102 (image-length z)) ∙ restored-image f s

-- two sound records that have one image are equal
pub one-record : (z y : Z8536) → Shaped z.core → sound_z8536 z ≡ true → Shaped y.core → sound_z8536 y ≡ true
    → image_z8536 z ≡ image_z8536 y → z ≡ y
one-record z y f s g t h =
    ap (λ (r : Restored Z8536). r.device) (sym (restored-image z f s) ∙ ap restored_z8536 h ∙ restored-image y g t)

-- ---- in and out: what an accepted image has met
module _ (s : List ℕ) (h : (restored_z8536 s).code ≡ 0) where
  met : (take 26 s ≡ contents_of layout3) × (length s ≡ 102) × (clear_in layout3 s ≡ true) × (pointer_clear (body_in layout3 6 s) ≡ true)
      × (sound_z8536 (told s) ≡ true)
  met =
      let p = (restore-0 s).0 h in
      let k = triple (clear_in layout3 s) (pointer_clear (body_in layout3 6 s)) (sound_z8536 (told s)) p.2 in
      (p.0, p.1, k.0, k.1, k.2)

  abbrev d : Device
  d = device_in layout3 s

  abbrev sixth : List ℕ
  sixth = body_in layout3 6 s

  is : (restored_z8536 s).device ≡ told s
  is = accepted-told s h

  -- its record is sound, of version 2, and one that the struct holds
  pub accepted-sound : sound_z8536 (restored_z8536 s).device ≡ true
  accepted-sound = ap sound_z8536 is ∙ met.4

  pub accepted-version : (restored_z8536 s).device.core.version ≡ 2
  accepted-version = (parts (restored_z8536 s).device accepted-sound).version

  pub accepted-shaped : Shaped (restored_z8536 s).device.core
  accepted-shaped = subst (λ (z : Z8536). Shaped z.core) (sym is) (shaped layout3 s)

  -- the core that is told is accepted from the image of version 2 inside
  inside : restored_of (inner s) ≡ record { code = 0; device = d }
  unfolding accepted_of
  inside = inner-restored s (omega (arith, met.1)) ∙ simp (met.2, (parts (told s) met.4).core)

  inner-written : Bytes s → image_of d ≡ inner s
  inner-written b =
      ap (λ (r : Restored Device). image_of r.device) (sym inside)
      ∙ core-written (inner s) (inner-bytes s b) (ap (λ (r : Restored Device). r.code) inside)

  -- contents, five bodies and the sixth are the whole
  pieces : take 26 s ++ part 26 74 s ++ part 100 2 s ≡ s
  pieces =
      ap (λ (l : List ℕ). l ++ part 100 2 s) (sym (take-add 26 74 s)) ∙ sym (take-add 100 2 s)
      ∙ take_all 102 s (omega (arith, met.1))

  -- an accepted image is, byte for byte, what saving its record writes
  pub accepted-written : Bytes s → image_z8536 (restored_z8536 s).device ≡ s
  accepted-written b =
      let last = pointer-written sixth (part_length 100 2 s (omega (arith, met.1))) (bytes-part 100 2 s b) met.3 in
      ap image_z8536 is ∙ sym (outer-image (told s) (parts (told s) met.4).version)
      ∙ ap₂ (λ (i l : List ℕ). contents_of layout3 ++ drop 22 i ++ l) (inner-written b) last
      ∙ ap (λ (t : List ℕ). t ++ part 26 74 s ++ part 100 2 s) (sym met.0) ∙ pieces
