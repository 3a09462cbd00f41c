-- Once more, or the loop ends.
-- Assumes nothing.
use native.Mathlib.Omega.{arith}
use Rattle.agreement.proofs.Onward.{once}
use Rattle.agreement.proofs.parting.onward_all.Goals as goal

pub loop-next-smaller : goal.loop-next-smaller
loop-next-smaller c =
    let h = once c.loop-next.a c.args.read.now c.args.measured.now c.in-Some.ensures in
    omega (arith, h.0, h.1)

pub loop-next-preserved : goal.loop-next-preserved
loop-next-preserved c =
    let h = once c.loop-next.a c.args.read.now c.args.measured.now c.in-Some.ensures in
    let k = c.loop-next.invariant in
    omega (arith, h.0, k)
