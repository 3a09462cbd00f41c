use mathlib.Core.Path.{◌≡◌}
use Rattle.rules.specs.Record.{source_at}
use Rattle.texts.specs.Kept.{typed}
use Rattle.words.specs.Shown.{source_cell}
use Rattle.words.proofs.Columns.{columns}
use Rattle.words.proofs.sources_shown.source_line.Given as goal

abbrev pub invariant-loop-s : goal.invariant-loop-s
invariant-loop-s l = l.t ≡ typed l.initial.t (columns (λ k. source_cell (source_at l.fn.d k) l.row) l.s-index)
