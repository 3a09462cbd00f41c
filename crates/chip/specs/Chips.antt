-- Either device: a Z8036 or, paper 02, W-209, a Z8536. Which of the two it is stays as it is.
-- Assumes nothing.
use Rattle.std.specs.Prelude.{Bool, true}
use Rattle.rules.specs.declared.Device.{Device}
use Rattle.rules.specs.declared.Event.{Event}
use Rattle.rules.specs.declared.Answer.{Answer}
use Rattle.rules.specs.declared.Outcome.{Outcome}
use Rattle.rules.specs.Sound.{sound_of}
use Rattle.rules.specs.Events.{event_of}
use Rattle.event.specs.Known.{known_of}
use Rattle.z8536.specs.declared.Z8536.{Z8536}
use Rattle.z8536.specs.Z8536.{sound_z8536, event_z8536}
use Rattle.chip.specs.declared.Chip.{Chip}
use Rattle.chip.specs.declared.Chip.TheVariants.{Z8036 as a_z8036, Z8536 as a_z8536}

-- the Z8036 of a record
abbrev pub of_z8036 : Device → Chip
of_z8036 d = a_z8036 d

-- likewise the Z8536
abbrev pub of_z8536 : Z8536 → Chip
of_z8536 z = a_z8536 z

-- the Z8036's record in it
abbrev pub core_of : Chip → Device
core_of (a_z8036 d) = d
core_of (a_z8536 z) = z.core

unfoldable pub sound_chip : Chip → Bool
sound_chip (a_z8036 d) = sound_of d
sound_chip (a_z8536 z) = sound_z8536 z

-- ---- the event
abbrev pub from_z8036 : Outcome Device Answer → Outcome Chip Answer
from_z8036 o = record { device = of_z8036 o.device; answer = o.answer }

abbrev pub from_z8536 : Outcome Z8536 Answer → Outcome Chip Answer
from_z8536 o = record { device = of_z8536 o.device; answer = o.answer }

unfoldable pub event_chip : Chip → Event → Outcome Chip Answer
event_chip (a_z8036 d) e = from_z8036 (event_of d e)
event_chip (a_z8536 z) e = from_z8536 (event_z8536 z e)

-- the same, where `sure` says that the record is known to be sound: then of a Z8036 nothing asks again
unfoldable pub known_chip : Bool → Chip → Event → Outcome Chip Answer
known_chip true (a_z8036 d) e = from_z8036 (known_of d e)
known_chip sure c e = event_chip c e
