use Rattle.linked.proofs.Moments.{rest, rest-room}
use mathlib.Core.Path.{◌∙◌}
use Rattle.linked.proofs.chase.run.Goals as goal

pub loop-preserved : goal.loop-preserved
loop-preserved c =
    let f = c.args.f in
    let s = c.loop in
    let l = c.leapt-l in (
      rest f s.left _ s.now _ l.ensures.within l.ensures.pair ∙ s.invariant.0,
      rest-room f s.left _ s.now _ l.ensures.within l.ensures.pair s.invariant.1,
    )
