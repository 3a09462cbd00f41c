use Rattle.linked.proofs.Moments.{started, ended}
use mathlib.Core.Path.{refl}
use native.Mathlib.Omega.{arith}
use Rattle.linked.proofs.chase.by_rounds.Goals as goal

pub loop-c-init : goal.loop-c-init
loop-c-init c = (started c.args.f c.args.k c.args.x (omega arith) c.requires, refl)

pub returns : goal.returns
returns c = ended _ _ _ _ c.loop-c.invariant.1 (omega (arith, c.loop-c-test.false))
