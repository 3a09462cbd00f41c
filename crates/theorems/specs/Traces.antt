-- Events one after the other, each in the record that the one before it left.
-- Assumes nothing.
use Rattle.std.specs.Prelude.{List}
use Rattle.basics.specs.Runs.{Course, record_through, answers_through, course_of, course_on, course_cut}
use Rattle.rules.specs.declared.Device.{Device}
use Rattle.rules.specs.declared.Event.{Event}
use Rattle.rules.specs.declared.Answer.{Answer}
use Rattle.rules.specs.Events.{event_of}

-- the record after an event, and its answer
abbrev pub next_of : Device → Event → Device
next_of d e = (event_of d e).device

abbrev pub answer_to : Device → Event → Answer
answer_to d e = (event_of d e).answer

-- the answers to a list of events, and the record at the end
abbrev pub answers_of : Device → List Event → List Answer
answers_of = answers_through next_of answer_to

abbrev pub record_after : Device → List Event → Device
record_after = record_through next_of

-- both
abbrev pub Traced : Type 0
Traced = Course Answer Device

abbrev pub traced_of : Device → List Event → Traced
traced_of = course_of next_of answer_to

-- a trace, and then more events
abbrev pub followed_by : Traced → List Event → Traced
followed_by = course_on next_of answer_to

-- a list of events cut into a first part and others, where f is done to the record at each cut (a save and its restore)
abbrev pub cut_by : (Device → Device) → Device → List Event → List (List Event) → Traced
cut_by = course_cut next_of answer_to
