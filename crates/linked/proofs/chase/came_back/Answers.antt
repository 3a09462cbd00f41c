use Rattle.linked.proofs.Leaping.{back-pairs}
use Rattle.linked.proofs.chase.came_back.Goals as goal

pub returns : goal.returns
returns c =
    back-pairs c.args.x c.args.y _ _ _
    c.same_counter.ensures c.same_counter-2.ensures c.same_side.ensures
