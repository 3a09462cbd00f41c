use Rattle.linked.proofs.Leaping.{same-sides}
use Rattle.linked.proofs.chase.same_side.Goals as goal

pub returns : goal.returns
returns c = same-sides c.args.x c.args.y _ c.same_source.ensures
