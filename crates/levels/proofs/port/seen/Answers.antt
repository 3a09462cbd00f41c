use borrow.Author.Rules.{rules}
use Rattle.rules.specs.PortData.{seen_of}
use Rattle.ports.proofs.Masks.{seen-bits}
use Rattle.levels.proofs.port.seen.Goals as goal

pub returns : goal.returns
unfolding seen_of
returns c = simp c.places-m.ensures (seen-bits _ _ _ (search rules) (search rules))
