use mathlib.Core.Path.{sym, ◌∙◌}
use Rattle.linked.proofs.Leaping.{same-pairs}
use Rattle.linked.proofs.chase.only_moved.Goals as goal

pub returns : goal.returns
returns c = λ e. same-pairs _ _ (sym c.eq.ensures ∙ e) ∙ c.lowered.ensures
