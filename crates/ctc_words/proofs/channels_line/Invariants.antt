use mathlib.Core.Path.{◌≡◌}
use Rattle.texts.specs.Kept.{typed}
use Rattle.words.proofs.Columns.{columns}
use Rattle.ctc_rules.specs.Record.{channel_at}
use Rattle.ctc_words.specs.Shown.{channel_cell}
use Rattle.ctc_words.proofs.channels_line.Given as goal

abbrev pub invariant-loop-c : goal.invariant-loop-c
invariant-loop-c l = l.t ≡ typed l.initial.t (columns (λ k. channel_cell (channel_at l.fn.d k) l.row) l.c-index)
