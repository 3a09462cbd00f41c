-- What is still to come of the pass, from the row as it stands, comes to what the whole pass would.
use Rattle.std.proofs.Common.{◌≡◌}
use Rattle.row.specs.Passes.{pass_along, row_along}
use Rattle.row.proofs.Along.{later-pass, later-row}
use Rattle.row.proofs.act.Given as goal

abbrev pub invariant-loop-d : goal.invariant-loop-d
invariant-loop-d l =
    (later-pass l.d-index l.row l.t ≡ pass_along l.initial.row l.fn.s) × (later-row l.d-index l.row l.t ≡ row_along l.initial.row l.fn.s)
