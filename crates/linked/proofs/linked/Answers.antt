use mathlib.Core.Path.{ap₂, ◌∙◌}
use Rattle.basics.specs.Iterate.{iterate}
use Rattle.theorems.specs.declared.Pair.{Pair}
use Rattle.linked.specs.declared.stage.Stage.{Stage}
use Rattle.linked.specs.Stage.{paired_on}
use Rattle.linked.proofs.Bridge.{bridge}
use Rattle.linked.proofs.linked.Goals as goal

pub returns : goal.returns
returns c =
    let s = c.args in
    c.run.ensures ∙ ap₂ (λ (f : Stage) (x : Pair). iterate s.k (paired_on f) x) c.of.ensures c.pair.ensures ∙ bridge s.d s.k
