-- How long an image is at most.
-- Assumes nothing.
use Rattle.std.proofs.Common.{Bool, true, false, if◌then◌else◌, ◌==◌, ◌≤◌}
use native.Mathlib.Omega.{arith}
use Rattle.bodies.specs.Layout.{layout1, layout2, layout_of, length_of}
use Rattle.chip.specs.declared.Chip.{Chip}
use Rattle.chip.specs.declared.Chip.TheVariants.{Z8036, Z8536}
use Rattle.chip_image.specs.ChipImage.{length_chip}

-- no image is longer than a Z8536's
pub length_within : (c : Chip) → length_chip c ≤ 102
unfolding length_chip layout_of
length_within (Z8536 z) = omega arith
length_within (Z8036 d) = by-version (d.version == 1)
  where
    by-version : (v : Bool) → length_of (if v then layout1 else layout2) ≤ 102
    by-version true = omega arith
    by-version false = omega arith
