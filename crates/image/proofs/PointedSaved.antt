-- Paper 02, W-209: what save answers for a Z8536, and the buffer after it.
-- Assumes nothing.
use Prim.Native.Nat.{ℕ, ◌<◌, ◌≤◌}
use mathlib.Core.Path.{◌≡◌, refl}
use mathlib.Core.Bool.{Bool, true, false, cond}
use mathlib.Core.List.{List, ◌++◌}
use mathlib.Core.Logic.{◌↔◌}
use borrow.Author.Tests.{eq-eqb, ne_eqb, ltb-true, ltb-false, lt-ltb, le-ltb}
use lib.Dec.{eqb, ltb}
use lib.ListN.{length, drop}
use lib.Seq.{drop_at}
use Rattle.z8536.specs.declared.Z8536.{Z8536}
use Rattle.z8536.specs.Z8536.{sound_z8536}
use Rattle.bodies.specs.Written.{registers_from, registers_body, counts_body, pins_body, lines_body, transfers_body, pointer_body}
use Rattle.image.specs.Pointed.{image_z8536, save_code_z8536, saved_z8536}
use Rattle.image.proofs.Codes.{is-9, is-7, is-0}

-- "102 bytes"
pub image-length : (z : Z8536) → length (image_z8536 z) ≡ 102
unfolding image_z8536 registers_body registers_from counts_body pins_body lines_body transfers_body pointer_body
image-length z = refl

-- ---- its codes, for a buffer of n bytes
module _ (z : Z8536) (n : ℕ) where
  pub save-9 : (save_code_z8536 z n ≡ 9) ↔ (sound_z8536 z ≡ false)
  unfolding save_code_z8536
  save-9 = (is-9 (sound_z8536 z) (ltb n 102), λ h. simp h)

  pub save-7 : (save_code_z8536 z n ≡ 7) ↔ (sound_z8536 z ≡ true) × (n < 102)
  unfolding save_code_z8536
  save-7 = (
    λ h. let p = is-7 (sound_z8536 z) (ltb n 102) h in (p.0, ltb-true n 102 p.1),
    λ h. simp (h.0, lt-ltb n 102 h.1),
  )

  pub save-0 : (save_code_z8536 z n ≡ 0) ↔ (sound_z8536 z ≡ true) × (102 ≤ n)
  unfolding save_code_z8536
  save-0 = (
    λ h. let p = is-0 (sound_z8536 z) (ltb n 102) h in (p.0, ltb-false n 102 p.1),
    λ h. simp (h.0, le-ltb n 102 h.1),
  )

-- ---- the buffer: the image over its first bytes, or nothing at all
module _ (z : Z8536) (e : List ℕ) where
  pub saved-whole : save_code_z8536 z (length e) ≡ 0 → saved_z8536 z e ≡ image_z8536 z ++ drop 102 e
  unfolding saved_z8536
  saved-whole h = simp (eq-eqb _ _ h)

  pub untouched : (save_code_z8536 z (length e) ≡ 0 → ⊥) → saved_z8536 z e ≡ e
  unfolding saved_z8536
  untouched h = simp (ne_eqb _ _ h)

  past : (ok : Bool) → drop 102 (cond ok (image_z8536 z ++ drop 102 e) e) ≡ drop 102 e
  past true = drop_at (image_z8536 z) (drop 102 e) 102 (image-length z)
  past false = refl

  -- past the image it is as it was, whatever the code
  pub saved-rest : drop 102 (saved_z8536 z e) ≡ drop 102 e
  unfolding saved_z8536
  saved-rest = past (eqb (save_code_z8536 z (length e)) 0)
