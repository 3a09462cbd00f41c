use mathlib.Core.Path.{sym}
use borrow.Author.Tests.{ne_eqb}
use native.Mathlib.Omega.{arith}
use Rattle.rules.specs.Events.{effect_of}
use Rattle.rules.specs.Refusals.{code_in}
use Rattle.refusals.specs.Known.{known_code}
use Rattle.event.specs.Known.{known_of}
use Rattle.event.proofs.Accepted.{known_small, a_byte}
use Rattle.event.proofs.known.Goals as goal

pub overflow_cast-e : goal.overflow_cast-e
unfolding code_in
overflow_cast-e c = record { fits = a_byte _ (known_small _ _ (sym (c.in_default.ensures))) c.if-e-eq-W.true }

pub effect_of-requires : goal.effect_of-requires
unfolding code_in
effect_of-requires c = known_small _ _ (sym (c.in_default.ensures))

pub returns-in-Err : goal.returns-in-Err
unfolding known_of code_in
returns-in-Err c =
    let h = c.in-Err.ensures in
    let n = c.number.ensures.value in
    let z = ne_eqb (known_code c.args.d c.args.e) 0 (λ e. omega (arith, e, h, n, c.number.ensures.nonzero)) in
    simp (z, c.outcome.ensures, c.effect.ensures, n, h)

pub returns-then-e-eq-W : goal.returns-then-e-eq-W
unfolding known_of code_in effect_of
returns-then-e-eq-W c =
    let h = c.in_default.ensures in
    simp (← h, c.if-e-eq-W.true, c.write_effect.ensures, c.outcome-then-e-eq-W.ensures)

pub returns : goal.returns
unfolding known_of code_in
returns c =
    let h = c.in_default.ensures in
    simp (← h, c.effect_of.ensures, c.outcome-2.ensures)
