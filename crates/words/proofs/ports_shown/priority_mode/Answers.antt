use Prim.Native.Nat.{ℕ, ◌<◌}
use mathlib.Core.Path.{sym, subst}
use native.Mathlib.Omega.{arith}
use Rattle.rules.specs.Patterns.{highest_match}
use Rattle.ports.proofs.Priority.{highest-lt}
use Rattle.words.proofs.ports_shown.priority_mode.Goals as goal

pub overflow_add-highest : goal.overflow_add-highest
unfolding highest_match
overflow_add-highest c =
    let h : c.highest.result < 8 = subst (λ (n : ℕ). n < 8) (sym c.highest.ensures) (highest-lt _) in
    omega arith
