use mathlib.Core.Path.{◌≡◌}
use Rattle.rules.specs.Record.{transfer_at}
use Rattle.texts.specs.Kept.{typed}
use Rattle.words.specs.Shown.{transfer_cell}
use Rattle.words.proofs.Columns.{columns}
use Rattle.words.proofs.ports_shown.transfer_line.Given as goal

abbrev pub invariant-loop-h : goal.invariant-loop-h
invariant-loop-h l = l.t ≡ typed l.initial.t (columns (λ k. transfer_cell (transfer_at l.fn.d k) l.row) l.h-index)
