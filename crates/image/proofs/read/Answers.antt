use mathlib.Core.Path.{sym, ◌∙◌}
use borrow.Author.Tests.{eq-eqb, ne_eqb}
use Rattle.bodies.specs.Layout.{layout_in}
use Rattle.image.specs.Image.{restored_of}
use Rattle.image.proofs.Numbers.{by-1, by_2}
use Rattle.image.proofs.read.Goals as goal

pub returns-then-byte_at-eq2 : goal.returns-then-byte_at-eq2
unfolding restored_of layout_in
returns-then-byte_at-eq2 c =
    let first = eq-eqb _ 2 (sym c.byte_at.ensures ∙ c.if-byte_at-eq2.true) in
    c.read_by.ensures ∙ by_2 _ ∙ simp first

pub returns : goal.returns
unfolding restored_of layout_in
returns c =
    let first = ne_eqb _ 2 (λ e. c.if-byte_at-eq2.false (c.byte_at.ensures ∙ e)) in
    c.read_by-2.ensures ∙ by-1 _ ∙ simp first
