use Rattle.rules.specs.Sound.{pmf_only}
use Rattle.basics.proofs.Laws.{nonzero}
use Rattle.refusals.proofs.soundness.pmf_only.Goals as goal

pub returns : goal.returns
unfolding pmf_only
returns c = simp (c.on.ensures, nonzero)
