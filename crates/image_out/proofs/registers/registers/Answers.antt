use mathlib.Core.Path.{ap, ◌∙◌}
use lib.Dec.{lit≤}
use lib.ListN.{length, replicate}
use Rattle.bodies.proofs.Laid.{none, more}
use Rattle.bodies.specs.Written.{registers_body, registers_from}
use Rattle.image_out.proofs.registers.registers.Goals as goal

pub returns : goal.returns
unfolding registers_body registers_from
returns c =
    let f = c.front in
    let m = c.middle in
    let b = c.back in
    let l1 = more f.result 16 (ap length f.ensures) (lit≤ tt) (none (replicate 48 0)) c.lay.ensures.0 in
    let l2 = more m.result 16 (ap length m.ensures) (lit≤ tt) l1 c.lay-2.ensures.0 in
    let l3 = more b.result 16 (ap length b.ensures) (lit≤ tt) l2 c.lay-3.ensures.0 in
    l3.holds ∙ (simp (f.ensures, m.ensures, b.ensures))
