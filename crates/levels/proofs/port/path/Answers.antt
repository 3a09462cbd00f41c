use borrow.Author.Rules.{rules}
use Rattle.rules.specs.PortData.{path_of}
use Rattle.ports.proofs.Masks.{path-bits}
use Rattle.levels.proofs.port.path.Goals as goal

pub returns : goal.returns
unfolding path_of
returns c = path-bits _ _ _ _ (search rules) (search rules) (search rules) (search rules)
