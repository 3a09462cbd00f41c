-- An event of a record that is known to be sound: what every event of such a record is, without asking again.
-- Assumes nothing.
use Rattle.std.specs.Prelude.{if◌then◌else◌, ◌==◌}
use Rattle.rules.specs.declared.Device.{Device}
use Rattle.rules.specs.declared.Event.{Event}
use Rattle.rules.specs.declared.Answer.{Answer}
use Rattle.rules.specs.declared.Outcome.{Outcome}
use Rattle.rules.specs.Events.{effect, effect_of, relit, outcome_of}
use Rattle.refusals.specs.Known.{known_code}

-- "an event is a code, an effect, an answer", with the lines worked out after it: of a sound record they are the stored ones where it is refused
unfoldable pub known_of : Device → Event → Outcome Device Answer
known_of d e =
    if known_code d e == 0 then outcome_of 0 (relit (effect_of d e)) else
    outcome_of (known_code d e) (relit (effect d 0))
