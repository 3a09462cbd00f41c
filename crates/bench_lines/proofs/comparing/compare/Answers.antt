use mathlib.Core.Path.{sym, ◌∙◌}
use native.Mathlib.Omega.{arith}
use Rattle.bench_lines.proofs.Thirteen.{upto-none, upto-more, upto-unreadable, upto-read, upto-not}
use Rattle.bench_lines.proofs.comparing.compare.Goals as goal

pub loop-i-init : goal.loop-i-init
loop-i-init c = let f = c.first_field-at in upto-none _ _ _ f.ensures.value f.ensures.in_bounds

pub returns-in_err-d : goal.returns-in_err-d
returns-in_err-d c =
    let f = c.next_field-field in
    c.from_residual.ensures
    ∙ upto-unreadable _ _ _ _ _ _ c.loop-i.invariant _ c.loop-i-test.true f.ensures.says_value _ (sym c.differs_from.ensures ∙ c.in_err-d.was)

pub loop-i-preserved : goal.loop-i-preserved
loop-i-preserved c =
    let f = c.next_field-field in
    upto-more _ _ _ _ _ _ c.loop-i.invariant _ c.loop-i-test.true f.ensures.says_value _ _ (sym c.differs_from.ensures ∙ c.in_ok-d.was)
    f.ensures.next_value f.ensures.next_in_bounds

pub returns-then-is_some : goal.returns-then-is_some
returns-then-is_some c =
    upto-not _ _ _ _ _ _ c.loop-i.invariant _ c.numbers-n.ensures (omega arith) (sym c.is_some.ensures ∙ c.if-is_some.true)

pub returns : goal.returns
returns c =
    upto-read _ _ _ _ _ _ c.loop-i.invariant _ c.numbers-n.ensures (omega arith) (sym c.is_some.ensures ∙ c.if-is_some.false)
