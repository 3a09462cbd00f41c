-- What the numbers of a report leave room for. Each is at most the timer clocks so far, so `T n` always has the room that it needs.
-- Assumes nothing.
use Rattle.std.specs.Prelude.{ℕ, ◌+◌, ◌≤◌, List, get_or}
use Rattle.rules.specs.declared.Report.{Report}

-- n more, each: of a row of numbers, and of a report
abbrev pub RoomIn : ℕ → List ℕ → Type 0
RoomIn n ns = (i : ℕ) → get_or ns i 0 + n ≤ 4294967295

pub record Room (n : ℕ) (r : Report) : Type 0 where
  pub terminals : RoomIn n r.terminals
  pub lost : RoomIn n r.lost

-- another, number by number
abbrev pub BothIn : List ℕ → List ℕ → Type 0
BothIn ns ms = (i : ℕ) → get_or ns i 0 + get_or ms i 0 ≤ 4294967295

pub record Both (r s : Report) : Type 0 where
  pub terminals : BothIn r.terminals s.terminals
  pub lost : BothIn r.lost s.lost
