-- A board by value: room for eight devices, of which the first are its row.
-- Assumes nothing.
use Rattle.std.specs.Prelude.{ℕ, List, ◌++◌, ltb, take, drop, if◌then◌else◌}
use Rattle.rules.specs.declared.Device.{Device}
use Rattle.rows.specs.declared.RowEvent.{RowEvent}
use Rattle.rows.specs.Rows.{row_answer, row_after}
use Rattle.row_bridge.specs.declared.Boarded.{Boarded}

-- "A board has up to eight devices": a count above eight says eight
unfoldable pub few_of : ℕ → ℕ
few_of n = if ltb n 8 then n else 8

-- an event of the row of the first k devices, which leaves those past it
abbrev pub boarded_at : List Device → RowEvent → ℕ → Boarded
boarded_at ds e k = record { devices = row_after (take k ds) e ++ drop k ds; answer = row_answer (take k ds) e }

-- and of a board
unfoldable pub boarded : List Device → ℕ → RowEvent → Boarded
boarded ds count e = boarded_at ds e (few_of count)
