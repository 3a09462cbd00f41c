use lib.ListN.{drop}
use mathlib.Core.Path.{◌≡◌}
use Rattle.texts.specs.Kept.{typed}
use Rattle.texts.proofs.Text.word.Given as goal

abbrev pub invariant-loop-b : goal.invariant-loop-b
invariant-loop-b l = typed l.t (drop l.b-index l.w) ≡ typed l.fn.self l.fn.w
