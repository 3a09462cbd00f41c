use mathlib.Core.Path.{refl, ap, ◌∙◌}
use lib.Dec.{lit≤}
use lib.ListN.{length, replicate}
use Rattle.bodies.proofs.Laid.{none, more}
use Rattle.host.specs.Bytes.{count_bytes, reply_bytes}
use Rattle.host.proofs.answers.answer.Goals as goal

pub returns : goal.returns
unfolding reply_bytes count_bytes
returns c =
    let k1 = c.count in
    let k2 = c.count-2 in
    let k3 = c.count-3 in
    let k4 = c.count-4 in
    let k5 = c.count-5 in
    let k6 = c.count-6 in
    let l0 = more _ 7 refl (lit≤ tt) (none (replicate 31 0)) c.lay.ensures.0 in
    let l1 = more k1.result 4 (ap length k1.ensures) (lit≤ tt) l0 c.lay-2.ensures.0 in
    let l2 = more k2.result 4 (ap length k2.ensures) (lit≤ tt) l1 c.lay-3.ensures.0 in
    let l3 = more k3.result 4 (ap length k3.ensures) (lit≤ tt) l2 c.lay-4.ensures.0 in
    let l4 = more k4.result 4 (ap length k4.ensures) (lit≤ tt) l3 c.lay-5.ensures.0 in
    let l5 = more k5.result 4 (ap length k5.ensures) (lit≤ tt) l4 c.lay-6.ensures.0 in
    let l6 = more k6.result 4 (ap length k6.ensures) (lit≤ tt) l5 c.lay-7.ensures.0 in
    l6.holds ∙ (simp (k1.ensures, k2.ensures, k3.ensures, k4.ensures, k5.ensures, k6.ensures))
