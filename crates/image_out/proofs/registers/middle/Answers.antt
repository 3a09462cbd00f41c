use mathlib.Core.Path.{refl, ap, ◌∙◌}
use lib.Dec.{lit≤}
use lib.ListN.{length, replicate}
use Rattle.bodies.proofs.Laid.{none, more}
use Rattle.bodies.specs.Written.{registers_from, saved_byte}
use Rattle.rules.specs.Access.{read_of}
use Rattle.rules.specs.Registers.{kind_of, kind_in}
use Rattle.image_out.proofs.registers.middle.Goals as goal

pub returns : goal.returns
unfolding registers_from saved_byte read_of kind_of kind_in
returns c =
    let f = c.words in
    let k = c.words-2 in
    let l1 = more f.result 6 (ap length f.ensures) (lit≤ tt) (none (replicate 16 0)) c.lay.ensures.0 in
    let l2 = more k.result 6 (ap length k.ensures) (lit≤ tt) l1 c.lay-2.ensures.0 in
    let l3 = more _ 4 refl (lit≤ tt) l2 c.lay-3.ensures.0 in
    l3.holds ∙ (simp (f.ensures, k.ensures))
