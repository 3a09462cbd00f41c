use mathlib.Core.Path.{refl, ap, ◌∙◌}
use lib.Dec.{lit≤}
use lib.ListN.{length, replicate}
use Rattle.bodies.proofs.Laid.{none, more}
use Rattle.bodies.specs.Written.{registers_from, saved_byte}
use Rattle.rules.specs.Access.{read_of}
use Rattle.rules.specs.Registers.{kind_of, kind_in}
use Rattle.image_out.proofs.registers.front.Goals as goal

pub returns : goal.returns
unfolding registers_from saved_byte read_of kind_of kind_in
returns c =
    let k = c.commands in
    let l1 = more _ 8 refl (lit≤ tt) (none (replicate 16 0)) c.lay.ensures.0 in
    let l2 = more k.result 5 (ap length k.ensures) (lit≤ tt) l1 c.lay-2.ensures.0 in
    let l3 = more _ 3 refl (lit≤ tt) l2 c.lay-3.ensures.0 in
    l3.holds ∙ (simp k.ensures)
