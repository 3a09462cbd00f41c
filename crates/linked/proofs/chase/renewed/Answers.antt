use Rattle.linked.proofs.Moments.{anew}
use mathlib.Core.Path.{refl}
use Rattle.linked.proofs.chase.renewed.Goals as goal

pub returns : goal.returns
returns c = anew c.args.f c.args.c _ c.requires refl refl refl refl
