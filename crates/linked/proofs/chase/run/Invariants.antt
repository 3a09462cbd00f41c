use Rattle.linked.specs.Stage.{paired_on}
use Rattle.basics.specs.Iterate.{iterate}
use Prim.Native.Nat.{◌+◌, ◌≤◌}
use mathlib.Core.Path.{◌≡◌}
use Rattle.linked.proofs.chase.run.Given as goal

abbrev pub invariant-loop : goal.invariant-loop
invariant-loop l = (iterate l.left (paired_on l.f) l.now ≡ iterate l.initial.left (paired_on l.f) l.initial.now) × (l.now.terminals + l.left ≤ 4294967295)
