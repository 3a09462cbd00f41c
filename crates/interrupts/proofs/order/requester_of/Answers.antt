use borrow.Author.Rules.{rules}
use borrow.Author.Tests.{tests}
use Prim.Native.Nat.{ℕ}
use mathlib.Core.Path.{◌≡◌, sym, ap, subst, ◌∙◌}
use mathlib.Core.Bool.{Bool, true, false, ◌&&◌, ◌||◌, cond}
use native.Mathlib.Omega.{arith}
use lib.ListN.{length}
use Rattle.std.specs.Prelude.{Some, None}
use Rattle.std.proofs.lemmas.Iterator.{YieldsList-from_slice}
use Rattle.std.proofs.lemmas.Iterator.Search.{position_from_yields_List}
use Rattle.std.proofs.lemmas.Option.{cond_some}
use Rattle.basics.proofs.Lists.{length-mapped}
use Rattle.rules.specs.declared.Device.{Device}
use Rattle.rules.specs.declared.Source.{Source}
use Rattle.rules.specs.Record.{quiet, source_at}
use Rattle.rules.specs.Registers.{mie}
use Rattle.interrupts.proofs.Scanned.{position-is, requester-none, requester-at, requester-off}
use Rattle.interrupts.proofs.order.requester_of.Goals as goal
use Rattle.interrupts.proofs.order.requester_of.Goals.{After-iter}

five : (c : After-iter) → length c.args.d.sources ≡ 5
five c = search (rules, length-mapped)

waiting : (d : Device) (m b : Bool) → m ≡ mie d → (m && d.iei) ≡ b → (mie d && d.iei) ≡ b
waiting d m b p q = ap (λ (m : Bool). m && d.iei) (sym p) ∙ q

pub returns-then-not-mie-d : goal.returns-then-not-mie-d
returns-then-not-mie-d c = requester-off _ (waiting c.args.d _ _ c.mie.ensures c.if-not-mie-d.true)

pub returns-in_err-position : goal.returns-in_err-position
returns-in_err-position c =
    let on = waiting c.args.d _ _ c.mie.ensures c.if-not-mie-d.false in
    let at = position_from_yields_List (λ (s : Source). s.ius || s.ie && s.ip) _ _ c.position.result c.position.ensures.ran (YieldsList-from_slice c.args.d.sources cc) (λ x b q k. search (rules, tests)) in
    c.from_residual.ensures ∙ requester-none _ on (sym c.in_err-position.was ∙ at ∙ position-is _ quiet _ (five c.before.before.before.before.before))

pub returns-then-d-index : goal.returns-then-d-index
returns-then-d-index c =
    let d = c.args.d in
    let on = waiting c.args.d _ _ c.mie.ensures c.if-not-mie-d.false in
    let at = position_from_yields_List (λ (s : Source). s.ius || s.ie && s.ip) _ _ c.position.result c.position.ensures.ran (YieldsList-from_slice d.sources cc) (λ x b q k. search (rules, tests)) in
    let found = cond_some _ _ _ (sym c.of.ensures ∙ c.in_ok-k.was) in
    let k = c.in_ok-k.k in
    let served = subst (λ (i : ℕ). (source_at d i).ius ≡ true) c.index.ensures.same c.if-d-index.true in
    let p = ap (λ (i : ℕ). Some i) (sym found.1) ∙ sym c.in_ok-position.was ∙ at ∙ position-is _ quiet _ (five c.before.before.before.before.before.before.before.before.before.before) in
    ap (λ (b : Bool). cond b None (Some k)) (sym served) ∙ requester-at d on k p (omega (arith, c.index.ensures.same, c.index.ensures.below))

pub returns : goal.returns
returns c =
    let d = c.args.d in
    let on = waiting c.args.d _ _ c.mie.ensures c.if-not-mie-d.false in
    let at = position_from_yields_List (λ (s : Source). s.ius || s.ie && s.ip) _ _ c.position.result c.position.ensures.ran (YieldsList-from_slice d.sources cc) (λ x b q k. search (rules, tests)) in
    let found = cond_some _ _ _ (sym c.of.ensures ∙ c.in_ok-k.was) in
    let k = c.in_ok-k.k in
    let served = subst (λ (i : ℕ). (source_at d i).ius ≡ false) c.index.ensures.same c.if-d-index.false in
    let p = ap (λ (i : ℕ). Some i) (sym found.1) ∙ sym c.in_ok-position.was ∙ at ∙ position-is _ quiet _ (five c.before.before.before.before.before.before.before.before.before.before) in
    ap (λ (b : Bool). cond b None (Some k)) (sym served) ∙ requester-at d on k p (omega (arith, c.index.ensures.same, c.index.ensures.below))
