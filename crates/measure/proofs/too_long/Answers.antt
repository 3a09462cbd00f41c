use Rattle.std.proofs.Common.{ℕ, ap, ◌∙◌}
use Rattle.rules.specs.Refusals.{refusal_number}
use Rattle.measure.specs.declared.Measured.{Measured}
use Rattle.measure.proofs.Answers.{with_code, late-12, late-9}
use Rattle.measure.proofs.too_long.Goals as goal

pub returns-then-answer-eq0 : goal.returns-then-answer-eq0
unfolding refusal_number
returns-then-answer-eq0 c =
    let a = c.args in
    ap {B = Measured} (λ (n : ℕ). record { measure = a.measure; device = a.device; answer = with_code c.event.result.answer n }) c.number.ensures.value
    ∙ late-12 _ _ _ c.requires _ c.event.ensures c.if-answer-eq0.true

pub returns-else-answer-eq0 : goal.returns-else-answer-eq0
returns-else-answer-eq0 c =
    late-9 _ _ _ c.requires _ c.event.ensures c.if-answer-eq0.false
