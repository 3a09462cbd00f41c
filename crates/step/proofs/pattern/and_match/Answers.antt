use Rattle.rules.specs.Patterns.{and_match}
use Rattle.basics.proofs.Laws.{nonzero}
use Rattle.ports.proofs.Masks.{missed-none}
use Rattle.step.proofs.pattern.and_match.Goals as goal

pub returns : goal.returns
unfolding and_match
returns c = simp (c.on-o.ensures, c.hits-h.ensures, nonzero, missed-none)
