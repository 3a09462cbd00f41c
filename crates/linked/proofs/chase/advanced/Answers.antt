use Rattle.linked.proofs.Moments.{later}
use mathlib.Core.Path.{refl}
use native.Mathlib.Omega.{arith}
use Rattle.linked.proofs.chase.advanced.Goals as goal

pub returns : goal.returns
returns c =
    let l = c.leapt-l.ensures in
    (later c.args.f c.args.c _ _ c.requires.0 l.within l.pair refl refl refl, omega (arith, l.some, l.within, c.requires.1), omega (arith, l.some))
