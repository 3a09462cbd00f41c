use borrow.Author.Rules.{rules}
use Rattle.rules.specs.PortData.{catches_at}
use Rattle.ports.proofs.Masks.{places-bits}
use Rattle.ports.proofs.places.Goals as goal

pub returns : goal.returns
unfolding catches_at
returns c = simp c.spread.ensures (places-bits _ _ _ (search rules) (search rules))
