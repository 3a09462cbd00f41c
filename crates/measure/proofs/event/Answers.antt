use Rattle.std.proofs.Common.{sym, ap, ◌∙◌}
use Rattle.rules.specs.declared.Device.{Device}
use Rattle.rules.specs.declared.Answer.{Answer}
use Rattle.rules.specs.declared.Outcome.{Outcome}
use Rattle.measure.specs.declared.Measure.{Measure}
use Rattle.measure.specs.Measure.{beside}
use Rattle.measure.proofs.Answers.{code-of, measured-0, measured-n}
use Rattle.measure.proofs.event.Goals as goal

pub accepted-requires : goal.accepted-requires
accepted-requires c =
    let p = sym c.is_past.ensures ∙ c.if-is_past.false in
    let q = c.event-o.ensures in
    (code-of _ _ _ q ∙ c.if-o-eq0.true, p, ap (λ (o : Outcome Device Answer). o.device) q)

pub returns-then-o-eq0 : goal.returns-then-o-eq0
returns-then-o-eq0 c =
    let p = sym c.is_past.ensures ∙ c.if-is_past.false in
    ap (λ (m : Measure). beside m c.event-o.result) c.accepted.ensures
    ∙ sym (measured-0 _ _ _ c.event-o.ensures _ p c.if-o-eq0.true)

pub returns : goal.returns
returns c =
    let p = sym c.is_past.ensures ∙ c.if-is_past.false in
    sym (measured-n _ _ _ c.event-o.ensures _ p c.if-o-eq0.false)
