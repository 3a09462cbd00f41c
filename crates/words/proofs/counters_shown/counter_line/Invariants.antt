use mathlib.Core.Path.{◌≡◌}
use Rattle.texts.specs.Kept.{typed}
use Rattle.words.specs.Shown.{counter_column}
use Rattle.words.proofs.Columns.{columns}
use Rattle.words.proofs.counters_shown.counter_line.Given as goal

abbrev pub invariant-loop-at : goal.invariant-loop-at
invariant-loop-at l = l.t ≡ typed l.initial.t (columns (λ k. counter_column l.d k l.row) l.at)
