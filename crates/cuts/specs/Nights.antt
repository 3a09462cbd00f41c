-- A night: the record is saved into the host's buffer in the evening, and restored in the morning from the bytes that the save wrote.
-- Assumes nothing.
use Rattle.std.specs.Prelude.{ℕ, ◌≤◌, List, length, take}
use Rattle.rules.specs.declared.Device.{Device}
use Rattle.z8536.specs.declared.Z8536.{Z8536}
use Rattle.ctc_rules.specs.declared.Ctc.{Ctc}
use Rattle.bodies.specs.Layout.{layout3, layout_of, length_of}
use Rattle.image.specs.Image.{saved_of, restored_of}
use Rattle.image.specs.Pointed.{saved_z8536, restored_z8536}
use Rattle.ctc_image.specs.Layout.{layout_ctc}
use Rattle.ctc_image.specs.Image.{saved_ctc, restored_ctc}

-- a buffer that has room for the image of any record
abbrev pub Roomy : List ℕ → Type 0
Roomy buffer = (d : Device) → length_of (layout_of d) ≤ length buffer

-- the record in the morning: what is restored from the bytes that the save wrote
unfoldable pub night_of : List ℕ → Device → Device
night_of buffer d = (restored_of (take (length_of (layout_of d)) (saved_of d buffer))).device

-- and of a Z8536, with a buffer of 102 bytes or more
unfoldable pub night_z8536 : List ℕ → Z8536 → Z8536
night_z8536 buffer z = (restored_z8536 (take (length_of layout3) (saved_z8536 z buffer))).device

-- W-213: and of a CTC, with a buffer of 41 bytes or more
unfoldable pub night_ctc : List ℕ → Ctc → Ctc
night_ctc buffer d = (restored_ctc (take (length_of layout_ctc) (saved_ctc d buffer))).device
