use Rattle.std.proofs.Common.{◌≡◌, ℕ, ◌+◌, Bool, false, true, sym, ap, ◌∙◌}
use Rattle.rules.specs.declared.Device.{Device}
use Rattle.rules.specs.Record.{source_at}
use Rattle.rules.specs.Interrupts.{relined}
use Rattle.measure.specs.Wait.{begun, dropped}
use Rattle.measure.specs.Measure.{wait_at}
use Rattle.measure.proofs.Over.{at_first, over-standing, over-rise, over_none}
use Rattle.measure.proofs.steps.over.Goals as goal

-- an IP of source k, from that of the source at its index
at-place : (d : Device) {i k : ℕ} {v : Bool} → i ≡ k → (source_at d i).ip ≡ v → (source_at d k).ip ≡ v
at-place d same h = ap (λ (j : ℕ). (source_at d j).ip) (sym same) ∙ h

pub returns-then-d-i : goal.returns-then-d-i
returns-then-d-i c =
    let a = c.args in
    let same = c.index-i.ensures.same in
    ap (wait_at a.m) same
    ∙ sym (over-standing a.k a.d a.m.clocks (wait_at a.m a.k) a.n (at_first a.k a.d ∙ at-place a.d same c.if-d-i.true))

pub rise-r-requires : goal.rise-r-requires
unfolding relined
rise-r-requires c =
    let a = c.args in
    let p = c.requires in
    let same = c.index-i.ensures.same in
    (p.0, at_first a.k a.d ∙ at-place a.d same c.if-d-i.false, ap (λ (e : Device). (source_at e a.k).ip) (sym p.1) ∙ at-place a.f same c.if-f-i.true)

pub returns-then-f-i : goal.returns-then-f-i
returns-then-f-i c =
    let a = c.args in
    c.begun.ensures ∙ ap (λ (j : ℕ). begun (a.m.clocks + c.rise-r.result) (wait_at a.m j)) c.index-i.ensures.same
    ∙ sym (over-rise a.k a.d a.m.clocks (wait_at a.m a.k) a.n _ c.rise-r.ensures)

pub returns : goal.returns
unfolding relined
returns c =
    let a = c.args in
    let p = c.requires in
    let same = c.index-i.ensures.same in
    c.dropped.ensures ∙ ap (λ (j : ℕ). dropped (wait_at a.m j)) same
    ∙ sym (over_none a.k a.d a.m.clocks (wait_at a.m a.k) a.n p.0
    (ap (λ (e : Device). (source_at e a.k).ip) (sym p.1) ∙ at-place a.f same c.if-f-i.false))
