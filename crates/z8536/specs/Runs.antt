-- Events of a Z8536 one after the other, each in the record that the one before it left.
-- Assumes nothing.
use Rattle.std.specs.Prelude.{List}
use Rattle.basics.specs.Runs.{Course, record_through, answers_through, course_of, course_on, course_cut}
use Rattle.rules.specs.declared.Event.{Event}
use Rattle.rules.specs.declared.Answer.{Answer}
use Rattle.theorems.specs.Ticks.{answers_as_one}
use Rattle.z8536.specs.declared.Z8536.{Z8536}
use Rattle.rules.specs.declared.Outcome.{Outcome}
use Rattle.z8536.specs.Z8536.{event_z8536}

-- the record after an event, and its answer
abbrev pub next_z8536 : Z8536 → Event → Z8536
next_z8536 z e = (event_z8536 z e).device

abbrev pub answer_z8536 : Z8536 → Event → Answer
answer_z8536 z e = (event_z8536 z e).answer

-- the answers to a list of events, and the record at the end
abbrev pub answers_z8536 : Z8536 → List Event → List Answer
answers_z8536 = answers_through next_z8536 answer_z8536

abbrev pub record_z8536 : Z8536 → List Event → Z8536
record_z8536 = record_through next_z8536

-- both
abbrev pub RunZ8536 : Type 0
RunZ8536 = Course Answer Z8536

abbrev pub run_z8536 : Z8536 → List Event → RunZ8536
run_z8536 = course_of next_z8536 answer_z8536

-- a run, and then more events
abbrev pub followed_z8536 : RunZ8536 → List Event → RunZ8536
followed_z8536 = course_on next_z8536 answer_z8536

-- a list of events cut into a first part and others, where f is done to the record at each cut (a save and its restore)
abbrev pub cut_z8536 : (Z8536 → Z8536) → Z8536 → List Event → List (List Event) → RunZ8536
cut_z8536 = course_cut next_z8536 answer_z8536

-- events one after the other as one: the record at the end, and their answers as one
abbrev pub one_of : RunZ8536 → Outcome Z8536 Answer
one_of t = record { device = t.device; answer = answers_as_one t.answers }
