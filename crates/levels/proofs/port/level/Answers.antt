use borrow.Author.Rules.{rules}
use Rattle.rules.specs.PortData.{level_of}
use Rattle.ports.proofs.Masks.{level-bits}
use Rattle.levels.proofs.port.level.Goals as goal

pub returns : goal.returns
unfolding level_of
returns c = level-bits _ _ (search rules) (search rules)
