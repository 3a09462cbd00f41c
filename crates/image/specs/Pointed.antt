-- Paper 02, W-209: what save and restore of a Z8536 answer.
-- Assumes nothing.
use Rattle.std.specs.Prelude.{ℕ, not, ◌&&◌, List, ◌++◌, ltb, length, get_or, drop, if◌then◌else◌, ◌==◌}
use Rattle.z8536.specs.declared.Z8536.{Z8536}
use Rattle.z8536.specs.Z8536.{fresh_z8536, sound_z8536}
use Rattle.bodies.specs.Layout.{layout1, layout3, contents_len, length_of, body_in}
use Rattle.bodies.specs.Written.{pointer_body, body_of, image_in}
use Rattle.bodies.specs.Taken.{pointer_in, pointed_in, pointer_clear}
use Rattle.rules.specs.declared.Device.{Device}
use Rattle.image.specs.declared.Restored.{Restored}
use Rattle.image.specs.Image.{restored_in}

-- "version 2's bodies .. and a sixth of two bytes, pointer and state"
abbrev pub body_z8536 : Z8536 → ℕ → List ℕ
body_z8536 z id = if id == 6 then pointer_body z.pointer z.pointed else body_of z.core id

unfoldable pub image_z8536 : Z8536 → List ℕ
image_z8536 z = image_in layout3 (body_z8536 z)

-- ---- save: "9, then 7", for a buffer of n bytes
unfoldable pub save_code_z8536 : Z8536 → ℕ → ℕ
save_code_z8536 z n =
    if not (sound_z8536 z) then 9 else
    if ltb n (length_of layout3) then 7 else
    0

-- the buffer after it
unfoldable pub saved_z8536 : Z8536 → List ℕ → List ℕ
saved_z8536 z e = if save_code_z8536 z (length e) == 0 then image_z8536 z ++ drop (length_of layout3) e else e

-- ---- restore: "A refused restore gives the fresh device."
abbrev pub refused_z8536 : ℕ → Restored Z8536
refused_z8536 c = record { code = c; device = fresh_z8536 }

-- "an unknown first byte counts as version 1", and to this device all but 03 are unknown: "7 for an image shorter than its version's
-- table .., then 8"
unfoldable pub other_code : List ℕ → ℕ
other_code s = if ltb (length s) (contents_len layout1) then 7 else 8

-- what the sixth body tells beside a core
abbrev pub told_z8536 : Restored Device → List ℕ → Z8536
told_z8536 r b = record { core = r.device; pointer = pointer_in b; pointed = pointed_in b }

-- a core that was restored, with the sixth body beside it: "then 9"
unfoldable pub with_pointer : Restored Device → List ℕ → Restored Z8536
with_pointer r b =
    if not (r.code == 0) then refused_z8536 r.code else
    if not (pointer_clear b && sound_z8536 (told_z8536 r b)) then refused_z8536 9 else
    record { code = 0; device = told_z8536 r b }

-- "first bytes 03 and 06": an image with the first is read in the layout of these devices
unfoldable pub restored_z8536 : List ℕ → Restored Z8536
restored_z8536 s =
    if not (get_or s 0 0 == 3) then refused_z8536 (other_code s) else
    with_pointer (restored_in layout3 s) (body_in layout3 6 s)
