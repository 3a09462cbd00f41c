use borrow.Author.Rules.{rules}
use Rattle.rules.specs.Patterns.{hit_at}
use Rattle.ports.proofs.Masks.{hits-bits}
use Rattle.ports.proofs.hits.Goals as goal

pub returns : goal.returns
unfolding hit_at
returns c = hits-bits _ _ _ _ _ (search rules) (search rules) (search rules) (search rules) (search rules)
