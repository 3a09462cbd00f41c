use borrow.Author.Rules.{rules}
use Rattle.rules.specs.PortData.{caught_of}
use Rattle.ports.proofs.Masks.{caught-bits}
use Rattle.step.proofs.caught.Goals as goal

pub returns : goal.returns
unfolding caught_of
returns c = simp c.places.ensures (caught-bits _ _ _ (search rules) (search rules))
