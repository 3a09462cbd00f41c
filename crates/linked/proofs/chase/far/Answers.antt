use Rattle.linked.proofs.Leaping.{far-leaps}
use Rattle.linked.proofs.chase.far.Goals as goal

pub returns : goal.returns
returns c =
    let p = c.requires in
    far-leaps c.args.f c.args.m c.args.x c.args.left _ _ c.room.ensures c.room-clocks.ensures p.0 p.1 p.2 _ c.lowered.ensures
