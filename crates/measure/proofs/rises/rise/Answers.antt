use Rattle.measure.proofs.Search.{starts}
use Rattle.measure.proofs.rises.rise.Goals as goal

pub loop-s-init : goal.loop-s-init
loop-s-init c = let p = c.requires in starts _ _ _ p.0 p.1 p.2

pub loop-s-preserved : goal.loop-s-preserved
loop-s-preserved c = c.halved-s.ensures.0 _ _ c.loop-s.invariant
