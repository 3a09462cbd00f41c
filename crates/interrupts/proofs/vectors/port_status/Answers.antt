use Prim.Native.Nat.{ℕ, ◌<◌}
use mathlib.Core.Path.{sym, subst}
use Rattle.rules.specs.Patterns.{highest_match}
use Rattle.rules.specs.Interrupts.{highest_at}
use Rattle.ports.proofs.Priority.{highest-lt}
use Rattle.interrupts.proofs.vectors.port_status.Goals as goal

pub priority_vector-requires : goal.priority_vector-requires
unfolding highest_at highest_match
priority_vector-requires c = subst (λ (n : ℕ). n < 8) (sym c.highest_at.ensures) (highest-lt _)
