use Rattle.linked.specs.Chase.{end_of, Holds}
use mathlib.Core.Path.{◌≡◌}
use Rattle.linked.proofs.chase.by_rounds.Given as goal

abbrev pub invariant-loop-c : goal.invariant-loop-c
invariant-loop-c l = Holds l.f l.c × (end_of l.f l.c ≡ end_of l.f l.initial.c)

abbrev pub decreases-loop-c : goal.decreases-loop-c
decreases-loop-c l = l.c.left
