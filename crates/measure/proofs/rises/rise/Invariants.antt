use Rattle.measure.specs.Rise.{Between}
use Rattle.measure.proofs.rises.rise.Given as goal

abbrev pub invariant-loop-s : goal.invariant-loop-s
invariant-loop-s l = Between l.k l.initial.s.device l.n l.s

abbrev pub decreases-loop-s : goal.decreases-loop-s
decreases-loop-s l = l.s.left
