-- Events of a row one after the other, each in the row that the one before it left.
-- Assumes nothing.
use Rattle.std.specs.Prelude.{List}
use Rattle.basics.specs.Runs.{Course, record_through, answers_through, course_of, course_cut}
use Rattle.rules.specs.declared.Device.{Device}
use Rattle.rows.specs.declared.RowEvent.{RowEvent}
use Rattle.rows.specs.declared.RowAnswer.{RowAnswer}
use Rattle.rows.specs.Rows.{row_answer, row_after}

-- the answers to a list of events, and the row at the end
abbrev pub row_answers : List Device → List RowEvent → List RowAnswer
row_answers = answers_through row_after row_answer

abbrev pub row_through : List Device → List RowEvent → List Device
row_through = record_through row_after

-- both
abbrev pub RowRun : Type 0
RowRun = Course RowAnswer (List Device)

abbrev pub row_run : List Device → List RowEvent → RowRun
row_run = course_of row_after row_answer

-- a list of events cut into a first part and others, where f is done to the row at each cut (a save and a restore of each device)
abbrev pub row_cut : (List Device → List Device) → List Device → List RowEvent → List (List RowEvent) → RowRun
row_cut = course_cut row_after row_answer
