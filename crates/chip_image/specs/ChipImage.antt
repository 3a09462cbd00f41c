-- Save and restore of either device. Its image tells by the first byte which it is: paper 02, W-209, "first bytes 03 and 06".
-- Assumes nothing.
use Rattle.std.specs.Prelude.{ℕ, Bool, List, get_or, if◌then◌else◌, ◌==◌}
use Rattle.bodies.specs.Layout.{layout3, layout_of, length_of}
use Rattle.rules.specs.declared.Device.{Device}
use Rattle.z8536.specs.declared.Z8536.{Z8536}
use Rattle.image.specs.declared.Restored.{Restored}
use Rattle.image.specs.Image.{save_code, saved_of, restored_of}
use Rattle.image.specs.Pointed.{save_code_z8536, saved_z8536, restored_z8536}
use Rattle.chip.specs.declared.Chip.{Chip}
use Rattle.chip.specs.declared.Chip.TheVariants.{Z8036 as a_z8036, Z8536 as a_z8536}
use Rattle.chip.specs.Chips.{of_z8036, of_z8536}

-- how long its image is
unfoldable pub length_chip : Chip → ℕ
length_chip (a_z8036 d) = length_of (layout_of d)
length_chip (a_z8536 z) = length_of layout3

-- ---- save, into a buffer of n bytes, and the buffer after it
unfoldable pub save_code_chip : Chip → ℕ → ℕ
save_code_chip (a_z8036 d) n = save_code d n
save_code_chip (a_z8536 z) n = save_code_z8536 z n

unfoldable pub saved_chip : Chip → List ℕ → List ℕ
saved_chip (a_z8036 d) e = saved_of d e
saved_chip (a_z8536 z) e = saved_z8536 z e

-- ---- restore: an image that begins with 03 is a Z8536's
abbrev pub tells_z8536 : List ℕ → Bool
tells_z8536 s = get_or s 0 0 == 3

abbrev pub restored_as_z8036 : Restored Device → Restored Chip
restored_as_z8036 r = record { code = r.code; device = of_z8036 r.device }

abbrev pub restored_as_z8536 : Restored Z8536 → Restored Chip
restored_as_z8536 r = record { code = r.code; device = of_z8536 r.device }

unfoldable pub restored_chip : List ℕ → Restored Chip
restored_chip s = if tells_z8536 s then restored_as_z8536 (restored_z8536 s) else restored_as_z8036 (restored_of s)
