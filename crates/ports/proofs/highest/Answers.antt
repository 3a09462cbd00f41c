use Rattle.rules.specs.Patterns.{highest_match}
use Rattle.ports.proofs.Priority.{highest-bits}
use Rattle.ports.proofs.highest.Goals as goal

pub returns : goal.returns
unfolding highest_match
returns c = simp (c.highest_bit.ensures, c.hits.ensures, c.spread.ensures) (highest-bits _ _)
