-- Paper 02, W-212: "Demand 3 holds for a sound row of one to eight, counts per device." T's of a row one after the other as one.
-- Assumes nothing.
use Rattle.std.specs.Prelude.{List, [], ◌∷◌, map}
use Rattle.rules.specs.declared.Device.{Device}
use Rattle.rules.specs.declared.Event.{Event}
use Rattle.rules.specs.Report.{reports_added}
use Rattle.rows.specs.declared.RowEvent.{RowEvent}
use Rattle.rows.specs.declared.Shown.{Shown}
use Rattle.rows.specs.declared.RowAnswer.{RowAnswer}
use Rattle.rows.specs.Rows.{dark_answer, row_answer, row_after}
use Rattle.rows.specs.Runs.{RowRun}

-- the events without the numbers of the devices, which T ignores
abbrev pub events_of : List RowEvent → List Event
events_of l = map (λ e. e.event) l

-- "counts per device": of one device pins and lines of the second, and the reports of both
abbrev pub shown_added : Shown → Shown → Shown
shown_added x y = record { a = y.a; b = y.b; c = y.c; int = y.int; ieo = y.ieo; report = reports_added x.report y.report }

unfoldable pub each_added : List Shown → List Shown → List Shown
each_added [] m = []
each_added (x ∷ l) [] = []
each_added (x ∷ l) (y ∷ m) = shown_added x y ∷ each_added l m

-- two answers of a row, one after the other, as one: code and value of the second, and each device by itself
abbrev pub row_answers_added : RowAnswer → RowAnswer → RowAnswer
row_answers_added x y = record { code = y.code; value = y.value; devices = each_added x.devices y.devices }

-- and any number of them; of no event there is no answer
unfoldable pub row_answers_as_one : List RowAnswer → RowAnswer
row_answers_as_one [] = dark_answer 0
row_answers_as_one (x ∷ []) = x
row_answers_as_one (x ∷ y ∷ l) = row_answers_added x (row_answers_as_one (y ∷ l))

-- an event of a row: the row after it, and the answer
pub record RowTurn : Type 0 where
  pub row : List Device
  pub answer : RowAnswer

abbrev pub row_turn : List Device → RowEvent → RowTurn
row_turn ds e = record { row = row_after ds e; answer = row_answer ds e }

-- events one after the other as one: the row at the end, and their answers as one
abbrev pub row_as_one : RowRun → RowTurn
row_as_one t = record { row = t.device; answer = row_answers_as_one t.answers }
