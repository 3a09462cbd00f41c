use mathlib.Core.Path.{◌≡◌}
use Rattle.texts.specs.Kept.{typed}
use Rattle.words.specs.Shown.{pattern_cell}
use Rattle.words.proofs.Columns.{columns}
use Rattle.words.proofs.ports_shown.pattern_line.Given as goal

abbrev pub invariant-loop-at : goal.invariant-loop-at
invariant-loop-at l = l.t ≡ typed l.initial.t (columns (λ k. pattern_cell l.d k l.row) l.at)
