-- W-201, the measuring call beside the event call, and its refusal.
-- Assumes nothing.
use Rattle.std.proofs.Common.{◌≡◌, ℕ, Bool, true, false, cond, not, ◌&&◌, eqb, ◌↔◌, sym, refl, ◌∙◌, arith, eqb-true}
use mathlib.Core.Bool.{So, and-false}
use Rattle.basics.proofs.Tests.{so-both, left, right, so-not, never}
use Rattle.rules.specs.declared.Device.{Device}
use Rattle.rules.specs.declared.Event.{Event}
use Rattle.rules.specs.Sound.{sound_of}
use Rattle.rules.specs.Registers.{read_only, later}
use Rattle.rules.specs.Interrupts.{requester}
use Rattle.rules.specs.Events.{is_w, is_t, is_k, unknown, no_register, too_large, held, no_byte, no_room, code_of, effect, answer_of, outcome_of, event_of}
use Rattle.theorems.proofs.Refusals.{code_is, code-9}
use Rattle.measure.specs.declared.Measure.{Measure}
use Rattle.measure.specs.declared.Measured.{Measured}
use Rattle.measure.specs.Measure.{past, beside, measured_of}
use Rattle.measure.proofs.Calls.{measured-ways, refused-device}

-- T has no refusal but 9
pub sound-tick : (d : Device) (e : Event) → sound_of d ≡ true → is_t e ≡ true → code_of d e ≡ 0
unfolding code_of unknown no_register too_large held no_byte no_room
sound-tick d e s t = simp (s, eqb-true e.kind 4 t, and-false)

-- the event call never gives 12
or-not : (t : Bool) (x y : ℕ) → (x ≡ 12 → ⊥) → (y ≡ 12 → ⊥) → cond t x y ≡ 12 → ⊥
or-not true x y p q = p
or-not false x y p q = q

never-12 : (d : Device) (e : Event) → code_of d e ≡ 12 → ⊥
unfolding code_of
never-12 d e =
    or-not (not (sound_of d)) 9 _ (λ p. omega arith)
    (or-not (unknown e) 1 _ (λ p. omega arith)
    (or-not (no_register e) 2 _ (λ p. omega arith)
    (or-not (too_large e) 5 _ (λ p. omega arith)
    (or-not (held d e) 0 _ (λ p. omega arith)
    (or-not (is_w e && read_only e.a) 3 _ (λ p. omega arith)
    (or-not (no_byte d e) 11 _ (λ p. omega arith)
    (or-not (no_room d e) 10 _ (λ p. omega arith)
    (or-not (is_w e && later d e.a e.b) 4 _ (λ p. omega arith)
    (or-not (is_k e && eqb (requester d) 5) 6 0 (λ p. omega arith) (λ p. omega arith))))))))))

accepted-sound : (d : Device) (e : Event) → code_of d e ≡ 0 → So (sound_of d)
accepted-sound d e z = by (sound_of d) refl
  where
    by : (v : Bool) → sound_of d ≡ v → So (sound_of d)
    by true s = s
    by false s = absurd (omega (arith, sym z ∙ (code-9 d e).1 (so-not s)))

module _ (m : Measure) (d : Device) (e : Event) where
  abbrev answered : ℕ
  answered = (measured_of m d e).answer.code

  event-code : code_of d e ≡ 0 → (event_of d e).answer.code ≡ 0
  event-code z = code_is d e ∙ z

  tick-accepted : So (sound_of d && past m e) → code_of d e ≡ 0
  tick-accepted s = sound-tick d e (left (sound_of d) (past m e) s) (left (is_t e) _ (right (sound_of d) (past m e) s))

  -- but for 12 the device and the answer are the event call's
  pub as-event : (answered ≡ 12 → ⊥) → ((measured_of m d e).device ≡ (event_of d e).device) × ((measured_of m d e).answer ≡ (event_of d e).answer)
  unfolding outcome_of answer_of
  as-event =
      measured-ways m d e
      (λ (r : Measured). (r.answer.code ≡ 12 → ⊥) → (r.device ≡ (event_of d e).device) × (r.answer ≡ (event_of d e).answer))
      (λ _ _. (refl, refl)) (λ _ _ ne. absurd (ne refl)) (λ _ _ _. (refl, refl))

  -- a refused event leaves the measure and the record
  pub refused-leaves : (answered ≡ 0 → ⊥) → ((measured_of m d e).measure ≡ m) × ((measured_of m d e).device ≡ d)
  unfolding outcome_of answer_of
  refused-leaves =
      measured-ways m d e (λ (r : Measured). (r.answer.code ≡ 0 → ⊥) → (r.measure ≡ m) × (r.device ≡ d))
      (λ ne _. (refl, refused-device d e ne)) (λ _ _ _. (refl, refl)) (λ z _ ne. absurd (ne (event-code z)))

  -- 12 is given exactly to a T of a sound record that would take the trace's clocks past the limit, with the lines as they stand
  pub code-12 : (answered ≡ 12) ↔ So (sound_of d && past m e)
  unfolding outcome_of answer_of
  code-12 =
      measured-ways m d e (λ (r : Measured). (r.answer.code ≡ 12) ↔ So (sound_of d && past m e))
      (λ ne. (λ n. absurd (never-12 d e (sym (code_is d e) ∙ n)), λ s. absurd (ne (tick-accepted s))))
      (λ z p. (λ _. so-both (accepted-sound d e z) p, λ _. refl))
      (λ z p. (λ n. absurd (never-12 d e (sym (code_is d e) ∙ n)), λ s. never p (right (sound_of d) (past m e) s)))

  pub twelve : answered ≡ 12 → measured_of m d e ≡ beside m (outcome_of 12 (effect d 0))
  unfolding outcome_of answer_of
  twelve =
      measured-ways m d e (λ (r : Measured). r.answer.code ≡ 12 → r ≡ beside m (outcome_of 12 (effect d 0)))
      (λ _ n. absurd (never-12 d e (sym (code_is d e) ∙ n))) (λ _ _ _. refl) (λ _ _ n. absurd (never-12 d e (sym (code_is d e) ∙ n)))
