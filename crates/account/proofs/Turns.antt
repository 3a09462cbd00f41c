-- What an event is to a port with handshake that it does not reset, disable or set up again: it leaves the port as it is; or it is a step
-- whose direct effect keeps it; or it stores a byte in an output port; or it reads one from an input port.
-- Assumes nothing.
use Prim.Native.Nat.{ℕ, ◌+◌, ◌-◌, ◌<◌}
use mathlib.Core.Path.{◌≡◌, refl, sym, ap, subst, ◌∙◌}
use mathlib.Core.Bool.{Bool, true, false, So, and-false}
use mathlib.Core.List.{[], ◌∷◌}
use native.Mathlib.Omega.{arith}
use borrow.Author.Tests.{eqb-true, eqb-false, le-leb}
use Rattle.rules.specs.declared.Device.{Device}
use Rattle.rules.specs.declared.Event.{Event}
use Rattle.rules.specs.declared.Effect.{Effect}
use Rattle.rules.specs.declared.Answer.{Answer}
use Rattle.rules.specs.declared.Outcome.{Outcome}
use Rattle.rules.specs.declared.Kind.TheVariants.{Data}
use Rattle.basics.specs.Signs.{within}
use Rattle.rules.specs.Record.{Shaped, pattern_at, transfer_at}
use Rattle.rules.specs.Registers.{reset, kind_in, kind_of, port_enabled}
use Rattle.rules.specs.Handshakes.{inputs, outputs, handshakes, irf_at, ore_at}
use Rattle.rules.specs.Moves.{moves_of, given_at, stored_at}
use Rattle.rules.specs.Step.{step_of}
use Rattle.rules.specs.Sound.{sound_of}
use Rattle.rules.specs.Interrupts.{relined}
use Rattle.rules.specs.Events.{is_w, is_r, code_of, effect}
use Rattle.rules.specs.Events.{effect_of, relit, answer_of, outcome_of, event_of}
use Rattle.basics.proofs.Tests.{so-both}
use Rattle.basics.proofs.Places.{each2}
use Rattle.theorems.proofs.Parts.{handshake-awake}
use Rattle.theorems.proofs.Clauses.{sound-parts}
use Rattle.theorems.proofs.Refusals.{code_is, refused-keeps}
use Rattle.account.specs.Account.{after, is_accepted, data_written_by, read_by}
use Rattle.account.proofs.Kept.{Kept, Alike, alike_refl, alike-trans, Around, step-around, relined-alike, relined-transfer, relined-around}

-- by a test, and by its value
pub either : {C : Type 0} (t : Bool) → (So t → C) → (t ≡ false → C) → C
either true f g = f refl
either false f g = g refl

-- nothing is written into an output port, or read from an input port
pub record Quiet (p : ℕ) (d : Device) (e : Event) : Type 0 where
  pub written : So (outputs (pattern_at d p)) → data_written_by p d e ≡ []
  pub read : So (inputs (pattern_at d p)) → read_by p d e ≡ []

pub data Turn (p : ℕ) (d : Device) (e : Event) : Type 0 where
  rests : Alike d (after d e) → transfer_at (after d e) p ≡ transfer_at d p → Quiet p d e → Turn p d e
  steps : (d1 : Device) → Kept p d d1 → Around p d d1 (after d e) → Quiet p d e → Turn p d e
  stores : So (outputs (pattern_at d p)) → So (ore_at d p) → e.b < 256 → Around p d (stored_at d p e.b) (after d e)
      → data_written_by p d e ≡ e.b ∷ [] → Turn p d e
  gives : So (inputs (pattern_at d p)) → So (irf_at d p) → after d e ≡ relined (given_at d p) → read_by p d e ≡ (transfer_at d p).front ∷ [] → Turn p d e

-- ---- refused, or no write and no read
module _ (p : ℕ) (d : Device) (e : Event) where
  pub unwritten : is_w e ≡ false → data_written_by p d e ≡ []
  unfolding data_written_by
  unwritten z = simp z

  pub unread : is_r e ≡ false → read_by p d e ≡ []
  unfolding read_by
  unread z = simp z

  pub neither : is_w e ≡ false → is_r e ≡ false → Quiet p d e
  neither w r = record { written = λ _. unwritten w; read = λ _. unread r }

  unaccepted : is_accepted d e ≡ false → Quiet p d e
  unfolding data_written_by read_by
  unaccepted z = record { written = λ _. simp (z, and-false); read = λ _. simp (z, and-false) }

  pub refused : is_accepted d e ≡ false → Turn p d e
  refused z =
      let same : after d e ≡ d = refused-keeps d e (eqb-false (event_of d e).answer.code 0 z) in
      rests (subst (λ (f : Device). Alike d f) (sym same) (alike_refl d)) (ap (λ (f : Device). transfer_at f p) same) (unaccepted z)

-- the data of port p
pub data-kind : (p : ℕ) → p < 2 → kind_of (0x0D + p) ≡ Data p
unfolding kind_of kind_in
data-kind = each2 (λ p. kind_of (0x0D + p) ≡ Data p) refl refl

pub data-within : (p a : ℕ) → p < 2 → a ≡ 0x0D + p → So (within 0x0D 0x0E a)
data-within p a l q = so-both (le-leb 0x0D a (omega (arith, l, q))) (le-leb a 0x0E (omega (arith, l, q)))

pub data-port : (p a : ℕ) → a ≡ 0x0D + p → a - 0x0D ≡ p
data-port p a q = omega (arith, q)

-- ---- a port with handshake that is enabled, in a sound record
pub record Standing (p : ℕ) (d : Device) : Type 0 where
  pub shaped : Shaped d
  pub sound : sound_of d ≡ true
  pub enabled : port_enabled d p ≡ true
  pub shaken : handshakes (pattern_at d p) ≡ true

pub awake : (p : ℕ) → p < 2 → (d : Device) → Standing p d → reset d ≡ false
awake p l d h = handshake-awake d p l (sound-parts d h.sound).base h.shaken

-- ---- accepted
module _ (p : ℕ) (d : Device) (e : Event) (taken : is_accepted d e ≡ true) where
  pub code : code_of d e ≡ 0
  code = sym (code_is d e) ∙ eqb-true (event_of d e).answer.code 0 taken

  outcome : event_of d e ≡ outcome_of 0 (relit (effect_of d e))
  unfolding event_of
  outcome = simp code

  -- the record and the value, where the effect is known
  pub after-by : (r : Effect) → effect_of d e ≡ r → after d e ≡ relined r.device
  unfolding outcome_of relit
  after-by r q = ap (λ (o : Outcome Device Answer). o.device) outcome ∙ ap (λ (r : Effect). relined r.device) q

  pub value-by : (r : Effect) → effect_of d e ≡ r → (event_of d e).answer.value ≡ r.value
  unfolding outcome_of answer_of relit
  value-by r q = ap (λ (o : Outcome Device Answer). o.answer.value) outcome ∙ ap (λ (r : Effect). r.value) q

  pub rests-by : (r : Effect) → effect_of d e ≡ r → Alike d r.device → transfer_at r.device p ≡ transfer_at d p → Quiet p d e
      → Turn p d e
  rests-by r q a t quiet =
      let f = after-by r q in
      rests (subst (λ (f : Device). Alike d f) (sym f) (alike-trans a (relined-alike r.device)))
      (ap (λ (f : Device). transfer_at f p) f ∙ relined-transfer r.device p ∙ t) quiet

  pub around-by : p < 2 → (d1 : Device) → Shaped d1 → effect_of d e ≡ effect (step_of false d (moves_of d d1)).device 0
      → Around p d d1 (after d e)
  around-by l d1 k1 q = subst (λ (f : Device). Around p d d1 f) (sym (after-by _ q)) (relined-around (step-around d d1 k1 p l))
