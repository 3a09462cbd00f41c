use Rattle.linked.proofs.Moments.{stays}
use mathlib.Core.Path.{refl}
use Rattle.linked.proofs.chase.turned.Goals as goal

pub returns-then-c : goal.returns-then-c
returns-then-c c =
    stays c.args.f c.args.c _ c.requires.0 refl refl refl refl
