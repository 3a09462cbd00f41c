-- The code of an event where it is known that the record is sound.
-- Assumes nothing.
use Rattle.std.specs.Prelude.{ℕ, ◌&&◌, if◌then◌else◌, ◌==◌}
use Rattle.rules.specs.declared.Device.{Device}
use Rattle.rules.specs.declared.Event.{Event}
use Rattle.rules.specs.Registers.{read_only, later}
use Rattle.rules.specs.Interrupts.{requester}
use Rattle.rules.specs.Events.{is_w, is_k, unknown, no_register, too_large, held, no_byte, no_room}

-- "Order: 9, 1, 2, 5, reset hold, 3, 4, 6.", 11 "after 3", 10 "after 11": from 1 on
unfoldable pub known_code : Device → Event → ℕ
known_code d e =
    if unknown e then 1 else
    if no_register e then 2 else
    if too_large e then 5 else
    if held d e then 0 else
    if is_w e && read_only e.a then 3 else
    if no_byte d e then 11 else
    if no_room d e then 10 else
    if is_w e && later d e.a e.b then 4 else
    if is_k e && requester d == 5 then 6 else
    0
