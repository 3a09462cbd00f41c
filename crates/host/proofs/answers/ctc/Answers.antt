use mathlib.Core.Path.{refl, ap, ◌∙◌}
use lib.Dec.{lit≤}
use lib.ListN.{length, replicate}
use Rattle.bodies.proofs.Laid.{none, more}
use Rattle.host.specs.Bytes.{count_bytes, ctc_bytes}
use Rattle.host.proofs.answers.ctc.Goals as goal

pub returns : goal.returns
unfolding ctc_bytes count_bytes
returns c =
    let k1 = c.count in
    let k2 = c.count-2 in
    let k3 = c.count-3 in
    let k4 = c.count-4 in
    let l0 = more _ 5 refl (lit≤ tt) (none (replicate 21 0)) c.lay.ensures.0 in
    let l1 = more k1.result 4 (ap length k1.ensures) (lit≤ tt) l0 c.lay-2.ensures.0 in
    let l2 = more k2.result 4 (ap length k2.ensures) (lit≤ tt) l1 c.lay-3.ensures.0 in
    let l3 = more k3.result 4 (ap length k3.ensures) (lit≤ tt) l2 c.lay-4.ensures.0 in
    let l4 = more k4.result 4 (ap length k4.ensures) (lit≤ tt) l3 c.lay-5.ensures.0 in
    l4.holds ∙ (simp (k1.ensures, k2.ensures, k3.ensures, k4.ensures))
