-- The answers of the measuring call, from those of the event call.
-- Assumes nothing.
use Rattle.std.proofs.Common.{◌≡◌, ℕ, Bool, true, false, sym, refl, ap, ◌∙◌, arith, ne_eqb}
use Rattle.basics.proofs.Tests.{left, so-not}
use Rattle.rules.specs.declared.Device.{Device}
use Rattle.rules.specs.declared.Event.{Event}
use Rattle.rules.specs.declared.Answer.{Answer}
use Rattle.rules.specs.declared.Outcome.{Outcome}
use Rattle.rules.specs.Sound.{sound_of}
use Rattle.rules.specs.Events.{is_t, code_of, effect, answer_of, unsound_answer, outcome_of, event_of}
use Rattle.theorems.specs.Ticks.{tick}
use Rattle.theorems.proofs.Demand3.{none, refused}
use Rattle.theorems.proofs.Refusals.{code_is, code-9}
use Rattle.measure.specs.declared.Measure.{Measure}
use Rattle.measure.specs.Measure.{past, measure_of, beside, measured_of}
use Rattle.measure.proofs.Measuring.{sound-tick}

-- an answer with another code
abbrev pub with_code : Answer → ℕ → Answer
with_code a n = record { code = n; value = a.value; a = a.a; b = a.b; c = a.c; int = a.int; ieo = a.ieo; report = a.report }

module _ (m : Measure) (d : Device) (e : Event) (p : past m e ≡ true) where
  late : sound_of d ≡ true → measured_of m d e ≡ beside m (outcome_of 12 (effect d 0))
  unfolding measured_of
  late s = simp (sound-tick d e s (left (is_t e) _ p), p)

  unsound : sound_of d ≡ false → measured_of m d e ≡ record { measure = m; device = d; answer = unsound_answer }
  unfolding measured_of event_of
  unsound s = simp ((code-9 d e).1 (so-not s))

  -- from the answer to a T of no clocks
  module _ (o : Outcome Device Answer) (q : o ≡ event_of d (tick 0)) where
    sound-code : sound_of d ≡ true → o.answer.code ≡ 0
    unfolding outcome_of answer_of
    sound-code s = ap (λ (o : Outcome Device Answer). o.answer.code) (q ∙ none d (tick 0) refl refl s)

    unsound-answer : sound_of d ≡ false → o.answer ≡ unsound_answer
    unsound-answer s = ap (λ (o : Outcome Device Answer). o.answer) (q ∙ refused d (tick 0) refl s)

    late_by : (v : Bool) → sound_of d ≡ v → o.answer.code ≡ 0 → record { measure = m; device = d; answer = with_code o.answer 12 } ≡ measured_of m d e
    unfolding outcome_of answer_of
    late_by true s z =
        ap (λ (o : Outcome Device Answer). record { measure = m; device = d; answer = with_code o.answer 12 }) (q ∙ none d (tick 0) refl refl s) ∙ sym (late s)
    late_by false s z = absurd (omega (arith, sym z ∙ ap (λ (a : Answer). a.code) (unsound-answer s)))

    pub late-12 : o.answer.code ≡ 0 → record { measure = m; device = d; answer = with_code o.answer 12 } ≡ measured_of m d e
    late-12 = late_by _ refl

    other-by : (v : Bool) → sound_of d ≡ v → (o.answer.code ≡ 0 → ⊥) → record { measure = m; device = d; answer = o.answer } ≡ measured_of m d e
    other-by true s n = absurd (n (sound-code s))
    other-by false s n = ap (λ (a : Answer). record { measure = m; device = d; answer = a }) (unsound-answer s) ∙ sym (unsound s)

    pub late-9 : (o.answer.code ≡ 0 → ⊥) → record { measure = m; device = d; answer = o.answer } ≡ measured_of m d e
    late-9 = other-by _ refl

-- ---- an event that is no T past the limit, from the event call's outcome
module _ (d : Device) (e : Event) (o : Outcome Device Answer) (q : o ≡ event_of d e) where
  pub code-of : code_of d e ≡ o.answer.code
  code-of = sym (code_is d e) ∙ ap (λ (o : Outcome Device Answer). o.answer.code) (sym q)

  module _ (m : Measure) (p : past m e ≡ false) where
    pub measured-0 : o.answer.code ≡ 0 → measured_of m d e ≡ beside (measure_of m d e) o
    unfolding measured_of
    measured-0 z = simp (code-of ∙ z, p, q)

    pub measured-n : (o.answer.code ≡ 0 → ⊥) → measured_of m d e ≡ beside m o
    unfolding measured_of
    measured-n n = simp (ne_eqb (code_of d e) 0 (λ z. n (sym code-of ∙ z)), q)
