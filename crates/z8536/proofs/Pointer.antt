-- Paper 02, W-209: what becomes of the pointer and its state.
-- Assumes nothing.
use Prim.Native.Nat.{ℕ}
use mathlib.Core.Path.{◌≡◌, refl, sym, ap, subst, ◌∙◌}
use mathlib.Core.Bool.{Bool, true, false, not, ◌&&◌, ◌||◌, So, and-true, and-false}
use native.Mathlib.Omega.{arith}
use lib.Dec.{eqb}
use borrow.Author.Tests.{eqb-true}
use Rattle.rules.specs.declared.Device.{Device}
use Rattle.rules.specs.declared.Event.{Event}
use Rattle.rules.specs.declared.Answer.{Answer}
use Rattle.rules.specs.declared.Outcome.{Outcome}
use Rattle.rules.specs.Record.{reset_of}
use Rattle.rules.specs.Registers.{reset}
use Rattle.rules.specs.Interrupts.{relined}
use Rattle.rules.specs.Sound.{sound_of}
use Rattle.rules.specs.Events.{is_x, unknown, no_register, too_large, held, no_byte, no_room, code_of, effect_of, relit, answer_of, outcome_of, event_of}
use Rattle.basics.proofs.Tests.{never, by-test}
use Rattle.theorems.proofs.Refusals.{refused-keeps as core-keeps}
use Rattle.z8536.specs.declared.Z8536.{Z8536}
use Rattle.z8536.specs.Z8536.{sound_z8536, controls, at_register, points, ends, after_core, code_z8536, stands, accessed, event_z8536}
use Rattle.z8536.proofs.Parts.{parts, Clear, clear}
use Rattle.z8536.proofs.Access.{ways, pointing-core, pointing-ways, points-awake, others-as-core}
use Rattle.z8536.proofs.Codes.{or-so, code_is}

-- 9, 1, 2 and 5 are no codes that end the state
abbrev pub passes : ℕ → Bool
passes n = eqb n 9 || eqb n 1 || eqb n 2 || eqb n 5

passed : (C : ℕ → Type 0) (n : ℕ) → C 9 → C 1 → C 2 → C 5 → So (passes n) → C n
passed C n f g h k =
    or-so (eqb n 9 || eqb n 1 || eqb n 2) (eqb n 5)
    (or-so (eqb n 9 || eqb n 1) (eqb n 2) (or-so (eqb n 9) (eqb n 1) (at 9 f) (at 1 g)) (at 2 h))
    (at 5 k)
  where
    at : (m : ℕ) → C m → So (eqb n m) → C n
    at m c t = subst C (sym (eqb-true n m t)) c

pub passes_on : (e : Event) (n : ℕ) → So (passes n) → ends e n ≡ false
unfolding ends
passes_on e n = passed (λ m. ends e m ≡ false) n (simp and-false) (simp and-false) (simp and-false) (simp and-false)

refusal : (n : ℕ) → So (passes n) → n ≡ 0 → ⊥
refusal n = passed (λ m. m ≡ 0 → ⊥) n (λ q. omega (arith, q)) (λ q. omega (arith, q)) (λ q. omega (arith, q)) (λ q. omega (arith, q))

module _ (z : Z8536) (e : Event) where
  -- ---- "and the pointer state returns"; "A control access refused with 3, 4, 10 or 11 also ends the pointer state."
  abbrev Ended : Outcome Z8536 Answer → Type 0
  Ended o = So (ends e o.answer.code) → o.device.pointed ≡ false

  pub state-ends : points z e ≡ false → So (ends e (code_z8536 z e)) → (event_z8536 z e).device.pointed ≡ false
  unfolding stands answer_of accessed after_core
  state-ends n h =
      let o = event_of z.core (at_register z e) in
      ways z e Ended (λ _. never (passes_on e 9 refl)) (λ _ _. never (passes_on e 2 refl)) (λ _ _ p. never n p)
      (λ _ _ _ t. by-test (λ (y : Z8536). y.pointed ≡ false) (reset o.device) _ _ (λ _. refl) (λ _. simp (t, and-false)))
      (subst (λ (c : ℕ). So (ends e c)) (sym (code_is z e)) h)

  -- ---- but for a pointer write and a reset, the pointer is kept; and the state too where it is not ended
  module _ (n : points z e ≡ false) (r : reset (event_z8536 z e).device.core ≡ false) where
    abbrev Stays : Outcome Z8536 Answer → Type 0
    Stays o = reset o.device.core ≡ false → o.device.pointer ≡ z.pointer

    pub pointer-kept : (event_z8536 z e).device.pointer ≡ z.pointer
    unfolding stands accessed after_core
    pointer-kept =
        let o = event_of z.core (at_register z e) in
        ways z e Stays (λ _ _. refl) (λ _ _ _. refl) (λ _ _ p. never n p)
        (λ _ _ _.
        by-test (λ (y : Z8536). reset y.core ≡ false → y.pointer ≡ z.pointer) (reset o.device) _ _ (λ t f. never f t) (λ _ _. refl))
        r

    abbrev Lasts : Outcome Z8536 Answer → Type 0
    Lasts o = ends e o.answer.code ≡ false → reset o.device.core ≡ false → o.device.pointed ≡ z.pointed

    pub state-kept : ends e (code_z8536 z e) ≡ false → (event_z8536 z e).device.pointed ≡ z.pointed
    unfolding stands accessed after_core
    state-kept h =
        let o = event_of z.core (at_register z e) in
        ways z e Lasts (λ _ _ _. refl) (λ _ _ _ _. refl) (λ _ _ p. never n p)
        (λ _ _ _ t.
        by-test (λ (y : Z8536). reset y.core ≡ false → y.pointed ≡ z.pointed) (reset o.device) _ _ (λ r f. never f r) (λ _ _. simp (t, and-true)))
        (ap (ends e) (code_is z e) ∙ h) r

    -- all but a control access
    pub others_keep : controls e ≡ false → (event_z8536 z e).device.pointed ≡ z.pointed
    unfolding ends
    others_keep c = state-kept (simp c)

  -- ---- a refusal leaves the record as it came, but for the state that it ends
  abbrev pub left_by : ℕ → Z8536
  left_by code = record { core = z.core; pointer = z.pointer; pointed = z.pointed && not (ends e code) }

  unended : (code : ℕ) → ends e code ≡ false → left_by code ≡ z
  unended code h = simp (h, and-true)

  after-refused : (o : Outcome Device Answer) → sound_z8536 z ≡ true → o.device ≡ z.core → after_core z e o ≡ left_by o.answer.code
  unfolding after_core
  after-refused o s q =
      by-test (λ (y : Z8536). y ≡ left_by o.answer.code) (reset o.device) _ _
      (λ r.
      let c = clear z s (sym (ap (λ (d : Device). reset d) q) ∙ r) in
      λ i. record { core = q i; pointer = sym c.pointer i; pointed = sym (ap (λ (b : Bool). b && not (ends e o.answer.code)) c.pointed) i })
      (λ _. ap (λ (d : Device). record { core = d; pointer = z.pointer; pointed = z.pointed && not (ends e o.answer.code) }) q)

  abbrev Left : Outcome Z8536 Answer → Type 0
  Left o = (o.answer.code ≡ 0 → ⊥) → o.device ≡ left_by o.answer.code

  pub refused : (code_z8536 z e ≡ 0 → ⊥) → (event_z8536 z e).device ≡ left_by (code_z8536 z e)
  unfolding stands answer_of accessed
  refused ne =
      let f = at_register z e in
      let two = sym (unended 2 (passes_on e 2 refl)) in
      let kept =
      ways z e Left (λ _ _. sym (unended 9 (passes_on e 9 refl))) (λ _ _ _. two)
      (λ _ _ _. pointing-ways z e Left (λ _ _. sym (unended 5 (passes_on e 5 refl))) (λ _ _ _. two) (λ _ _ no. absurd (no refl)))
      (λ s _ _ no. after-refused (event_of z.core f) s (core-keeps z.core f no))
      (λ q. ne (sym (code_is z e) ∙ q)) in
      kept ∙ ap left_by (code_is z e)

  -- with 9, 1, 2 or 5 it is as it came
  pub refused-keeps : So (passes (code_z8536 z e)) → (event_z8536 z e).device ≡ z
  refused-keeps h = refused (refusal _ h) ∙ unended (code_z8536 z e) (passes_on e _ h)

  -- ---- "Reset clears pointer and state."
  pub reset-clears : sound_z8536 z ≡ true → reset (event_z8536 z e).device.core ≡ true → Clear (event_z8536 z e).device
  unfolding stands accessed after_core
  reset-clears s r =
      let o = event_of z.core (at_register z e) in
      ways z e (λ (o : Outcome Z8536 Answer). reset o.device.core ≡ true → Clear o.device) (λ u. never u s) (λ _ _. clear z s)
      (λ _ _ p t. never (ap (λ (d : Device). reset d) (pointing-core z e) ∙ points-awake z e p) t)
      (λ _ _ _.
      by-test (λ (y : Z8536). reset y.core ≡ true → Clear y) (reset o.device) _ _ (λ _ _. record { pointer = refl; pointed = refl }) (λ f t. never f t))
      r

-- and X is one
x-resets : (d : Device) (e : Event) → So (is_x e) → sound_of d ≡ true → reset (event_of d e).device ≡ true
unfolding event_of code_of unknown no_register too_large held no_byte no_room effect_of relit outcome_of relined reset_of
x-resets d e x s = simp (eqb-true e.kind 0 x, s, and-false)

pub x-clears : (z : Z8536) (e : Event) → sound_z8536 z ≡ true → So (is_x e) → Clear (event_z8536 z e).device
x-clears z e s x =
    let other = ap (λ (k : ℕ). eqb k 1 || eqb k 2) (eqb-true e.kind 0 x) in
    reset-clears z e s (ap (λ (d : Device). reset d) (others-as-core z e s other).core ∙ x-resets z.core e x (parts z s).core)
