-- A record that is saved is sound.
-- Assumes nothing.
use Rattle.std.proofs.Common.{ℕ, Bool, true, false, not, if◌then◌else◌, ◌≡◌, refl}
use native.Mathlib.Omega.{arith}
use Rattle.rules.specs.Sound.{sound_of}
use Rattle.z8536.specs.Z8536.{sound_z8536}
use Rattle.image.specs.Image.{save_code}
use Rattle.image.specs.Pointed.{save_code_z8536}
use Rattle.chip.specs.declared.Chip.{Chip}
use Rattle.chip.specs.declared.Chip.TheVariants.{Z8036, Z8536}
use Rattle.chip.specs.Chips.{sound_chip}
use Rattle.chip_image.specs.ChipImage.{save_code_chip}
use Rattle.ctc_rules.specs.declared.Ctc.{Ctc}
use Rattle.ctc_rules.specs.Sound.{sound_ctc}
use Rattle.ctc_image.specs.Image.{save_code_ctc}
use Rattle.ctc_image.proofs.Codes.{save-9}

pub saved_sound : (d : Chip) (n : ℕ) → save_code_chip d n ≡ 0 → sound_chip d ≡ true
unfolding sound_chip save_code_chip save_code save_code_z8536
saved_sound c n e = by-kind c e
  where
    sure : (b : Bool) (m : ℕ) → (if not b then 9 else m) ≡ 0 → b ≡ true
    sure true m k = refl
    sure false m k = absurd (omega arith)

    by-kind : (c : Chip) → save_code_chip c n ≡ 0 → sound_chip c ≡ true
    by-kind (Z8036 d) k = sure (sound_of d) _ k
    by-kind (Z8536 z) k = sure (sound_z8536 z) _ k

pub saved_sound_ctc : (d : Ctc) (n : ℕ) → save_code_ctc d n ≡ 0 → sound_ctc d ≡ true
saved_sound_ctc d n e = by-sound (sound_ctc d) refl
  where
    by-sound : (b : Bool) → sound_ctc d ≡ b → b ≡ true
    by-sound true h = refl
    by-sound false h = let nine = (save-9 d n).1 h in absurd (omega (arith, e, nine))
