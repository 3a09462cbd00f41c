use Prim.Native.Nat.{◌-◌, ◌≤◌}
use Rattle.agreement.proofs.parting.onward_all.Given as goal

abbrev pub invariant-loop-next : goal.invariant-loop-next
invariant-loop-next l = l.initial.a.agreed ≤ l.a.agreed

abbrev pub decreases-loop-next : goal.decreases-loop-next
decreases-loop-next l = 18446744073709551615 - l.a.agreed
