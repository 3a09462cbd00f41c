-- The ways of the measuring call, and what an accepted event does by its kind.
-- Assumes nothing.
use Rattle.std.proofs.Common.{◌≡◌, true, false, not, eqb, sym, ◌∙◌, eqb-true}
use borrow.Author.Tests.{eqb-false, not-false, not-true}
use Rattle.basics.proofs.Tests.{by-test}
use Rattle.rules.specs.declared.Device.{Device}
use Rattle.rules.specs.declared.Event.{Event}
use Rattle.rules.specs.Interrupts.{relined, acknowledged}
use Rattle.rules.specs.Step.{ran_of}
use Rattle.rules.specs.Events.{is_t, is_k, code_of, effect, clocks_effect, acknowledge_effect, effect_of, relit, outcome_of, event_of}
use Rattle.theorems.proofs.Refusals.{code_is, refused-keeps}
use Rattle.measure.specs.declared.Measure.{Measure}
use Rattle.measure.specs.declared.Measured.{Measured}
use Rattle.measure.specs.Measure.{ticked, taken, stepped, clears, past, measure_of, beside, measured_of}

module _ (m : Measure) (d : Device) (e : Event) where
  -- the three ways: refused as by the event call, a T past the limit, accepted
  pub measured-ways : (P : Measured → Type 0) → ((code_of d e ≡ 0 → ⊥) → P (beside m (event_of d e)))
      → (code_of d e ≡ 0 → past m e ≡ true → P (beside m (outcome_of 12 (effect d 0))))
      → (code_of d e ≡ 0 → past m e ≡ false → P (beside (measure_of m d e) (event_of d e))) → P (measured_of m d e)
  unfolding measured_of
  measured-ways P f g h =
      let zero = eqb (code_of d e) 0 in
      by-test P (not zero) _ _ (λ t. f (eqb-false (code_of d e) 0 (not-true zero t)))
      (λ t.
      let z = eqb-true (code_of d e) 0 (not-false zero t) in
      by-test P (past m e) _ _ (g z) (h z))

  -- the accepted event, by its kind
  pub kinds : (P : Measure → Type 0) → (is_t e ≡ true → P (ticked e.a d m)) → (is_k e ≡ true → P (taken d m))
      → P (stepped (clears d e) d (event_of d e).device m) → P (measure_of m d e)
  unfolding measure_of
  kinds P f g h = by-test P (is_t e) _ _ f (λ _. by-test P (is_k e) _ _ g (λ _. h))

module _ (d : Device) (e : Event) where
  pub refused-device : (code_of d e ≡ 0 → ⊥) → (event_of d e).device ≡ d
  refused-device n = refused-keeps d e (λ z. n (sym (code_is d e) ∙ z))

  module _ (z : code_of d e ≡ 0) where
    pub ticks-device : is_t e ≡ true → (event_of d e).device ≡ relined (ran_of e.a d).device
    unfolding event_of outcome_of relit effect_of clocks_effect
    ticks-device t = simp (z, eqb-true e.kind 4 t)

    pub takes-device : is_k e ≡ true → (event_of d e).device ≡ relined (acknowledged d)
    unfolding event_of outcome_of relit effect_of acknowledge_effect
    takes-device t = simp (z, eqb-true e.kind 5 t)
