use Prim.Native.Nat.{ℕ}
use mathlib.Core.Path.{sym, ap, ◌∙◌}
use lib.Dec.{eqb}
use borrow.Author.Tests.{ne_eqb}
use native.Mathlib.Omega.{arith}
use Rattle.rules.specs.Events.{code_of, event_of}
use Rattle.rules.specs.Refusals.{code_in}
use Rattle.event.proofs.Accepted.{accepted-small}
use Rattle.event.proofs.Refused.{as_it_was, is-nine}
use Rattle.event.proofs.event.Goals as goal

pub effect_of-requires : goal.effect_of-requires
unfolding code_in
effect_of-requires c = accepted-small _ _ (sym (c.in-Ok.ensures))

pub returns-in-Ok : goal.returns-in-Ok
unfolding event_of code_in
returns-in-Ok c = simp (← (c.in-Ok.ensures), c.outcome.ensures, c.effect_of.ensures)

pub returns-in-Err : goal.returns-in-Err
unfolding event_of code_in
returns-in-Err c =
    let nine = ap (λ (n : ℕ). eqb n 9) (sym c.in-Err.ensures) ∙ sym (is-nine c.in-Err.r) ∙ sym c.if-eq.ensures in
    simp (nine, c.unsound.ensures)

pub returns-in-Err-2 : goal.returns-in-Err-2
unfolding event_of code_in
returns-in-Err-2 c =
    let a = c.args in
    let n = c.number.ensures.value ∙ c.in-Err.ensures in
    let sound = ap (λ (n : ℕ). eqb n 9) (sym c.in-Err.ensures) ∙ sym (is-nine c.in-Err.r) ∙ sym c.eq.ensures ∙ c.if-eq.false in
    let refused = ne_eqb (code_of a.d a.e) 0 (λ e. omega (arith, e, n, c.number.ensures.nonzero)) in
    simp (sound, refused, c.outcome-in-Err-2.ensures, c.effect.ensures, n, as_it_was a.d a.e sound)
