use Prim.Native.Nat.{◌-◌}
use lib.ListN.{length}
use Rattle.session.specs.Sessions.{fed_of}
use Rattle.session.proofs.Feeding.{SoFar}
use Rattle.session.proofs.feed.Given as goal

abbrev pub invariant-loop-f : goal.invariant-loop-f
invariant-loop-f l = SoFar l.fn.s l.piece l.at l.initial.out (fed_of l.f) l.out

abbrev pub decreases-loop-f : goal.decreases-loop-f
decreases-loop-f l = length l.piece - l.f.next
