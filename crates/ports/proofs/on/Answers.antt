use borrow.Author.Rules.{rules}
use Rattle.rules.specs.Patterns.{on_at}
use Rattle.ports.proofs.Masks.{on-bits}
use Rattle.ports.proofs.on.Goals as goal

pub returns : goal.returns
unfolding on_at
returns c = on-bits _ _ (search rules) (search rules)
