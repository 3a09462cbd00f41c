-- Paper 02, W-209: "each access answers as the Z8036 event at that register", every other event is the core's own, and a pointer write
-- "steps nothing".
-- Assumes nothing.
use Prim.Native.Nat.{ℕ, ◌-◌, ◌<◌}
use mathlib.Core.Path.{◌≡◌, refl, sym, ap, subst, ◌∙◌}
use mathlib.Core.Bool.{Bool, true, false, not, ◌&&◌, ◌||◌, So, cond, and-false}
use native.Mathlib.Omega.{arith}
use lib.Dec.{eqb, ltb, leb}
use borrow.Author.Tests.{eqb-true, leb-false, le-ltb, ne_eqb, not-false}
use Rattle.rules.specs.declared.Event.{Event}
use Rattle.rules.specs.declared.Device.{Device}
use Rattle.rules.specs.declared.Answer.{Answer}
use Rattle.rules.specs.declared.Outcome.{Outcome}
use Rattle.rules.specs.Record.{register_count}
use Rattle.rules.specs.Registers.{reset}
use Rattle.rules.specs.Events.{is_w, is_r, answer_of, unsound_answer, event_of}
use Rattle.basics.proofs.Places.{each3}
use Rattle.basics.proofs.Tests.{left, right, not_so, never, by-test}
use Rattle.z8536.specs.declared.Z8536.{Z8536}
use Rattle.z8536.specs.Z8536.{sound_z8536, accesses, controls, register_of, at_register, points, pointer_of, after_core, no_address, no_pointer}
use Rattle.z8536.specs.Z8536.{stands, pointing, accessed, event_z8536}
use Rattle.z8536.proofs.Parts.{parts, whole, no-reset-clear}

-- a pointer set just now
abbrev pub pointed_to : Z8536 → ℕ → Z8536
pointed_to z p = record { core = z.core; pointer = p; pointed = true }

none_of : (a b : Bool) → (a || b) ≡ false → a ≡ false
none_of true b h = h
none_of false b h = refl

module _ (z : Z8536) (e : Event) where
  -- the four ways of an event: an unsound record, no address, a pointer write, and all others
  pub ways : (P : Outcome Z8536 Answer → Type 0)
      → (sound_z8536 z ≡ false → P (record { device = z; answer = unsound_answer }))
      → (sound_z8536 z ≡ true → So (no_address e) → P (stands 2 z))
      → (sound_z8536 z ≡ true → no_address e ≡ false → So (points z e) → P (pointing z e))
      → (sound_z8536 z ≡ true → no_address e ≡ false → points z e ≡ false → P (accessed z e))
      → P (event_z8536 z e)
  unfolding event_z8536
  ways P f g h k =
      by-test P (not (sound_z8536 z)) (record { device = z; answer = unsound_answer })
      (cond (no_address e) (stands 2 z) (cond (points z e) (pointing z e) (accessed z e))) (λ u. f (not_so _ u))
      (λ u.
      let s = not-false _ u in
      by-test P (no_address e) (stands 2 z) (cond (points z e) (pointing z e) (accessed z e)) (g s)
      (λ a. by-test P (points z e) (pointing z e) (accessed z e) (h s a) (k s a)))

  -- ---- an access
  pub reaches : sound_z8536 z ≡ true → no_address e ≡ false → points z e ≡ false → event_z8536 z e ≡ accessed z e
  unfolding event_z8536
  reaches s a p = simp (s, a, p)

  -- what came of an event in the core
  pub record AsCore (o : Outcome Device Answer) : Type 0 where
    pub answer : (event_z8536 z e).answer ≡ o.answer
    pub core : (event_z8536 z e).device.core ≡ o.device

  pub core-after : (o : Outcome Device Answer) → (after_core z e o).core ≡ o.device
  unfolding after_core
  core-after o = by-test (λ (y : Z8536). y.core ≡ o.device) (reset o.device) _ _ (λ _. refl) (λ _. refl)

  -- the answer of the Z8036 event at that register, and in the core its record
  pub answers-as-core : sound_z8536 z ≡ true → no_address e ≡ false → points z e ≡ false → AsCore (event_of z.core (at_register z e))
  unfolding accessed
  answers-as-core s a p =
      let q = reaches s a p in
      record {
        answer = ap (λ (o : Outcome Z8536 Answer). o.answer) q;
        core = ap (λ (o : Outcome Z8536 Answer). o.device.core) q ∙ core-after (event_of z.core (at_register z e));
      }

  -- every event other than W and R is the core's own
  pub itself : accesses e ≡ false → at_register z e ≡ e
  unfolding at_register
  itself n = simp n

  pub others-as-core : sound_z8536 z ≡ true → accesses e ≡ false → AsCore (event_of z.core e)
  unfolding no_address points
  others-as-core s n =
      let w = none_of (is_w e) (is_r e) n in
      let h = answers-as-core s (simp n) (simp w) in
      let q = ap (event_of z.core) (itself n) in
      record { answer = h.answer ∙ ap (λ (o : Outcome Device Answer). o.answer) q; core = h.core ∙ ap (λ (o : Outcome Device Answer). o.device) q }

  -- ---- a pointer write leaves the core as it is
  -- the three ways of one: a byte too large, no such register, and a pointer
  pub pointing-ways : (P : Outcome Z8536 Answer → Type 0) → (So (ltb 255 e.b) → P (stands 5 z)) → (ltb 255 e.b ≡ false → So (no_pointer e) → P (stands 2 z))
      → (ltb 255 e.b ≡ false → pointer_of e < register_count → P (stands 0 (pointed_to z (pointer_of e)))) → P (pointing z e)
  unfolding pointing no_pointer
  pointing-ways P f g h =
      by-test P (ltb 255 e.b) _ _ f (λ t. by-test P (leb register_count (pointer_of e)) _ _ (g t) (λ n. h t (leb-false _ _ n)))

  pub pointing-core : (pointing z e).device.core ≡ z.core
  unfolding stands
  pointing-core = pointing-ways (λ (o : Outcome Z8536 Answer). o.device.core ≡ z.core) (λ _. refl) (λ _ _. refl) (λ _ _. refl)

  pub steps-nothing : So (points z e) → (event_z8536 z e).device.core ≡ z.core
  unfolding stands
  steps-nothing p =
      ways (λ (o : Outcome Z8536 Answer). o.device.core ≡ z.core) (λ _. refl) (λ _ _. refl) (λ _ _ _. pointing-core) (λ _ _ n. never n p)

  -- ---- one that is accepted sets the pointer, to one of the 48; one that is refused leaves all as it came (`Pointer.refused-keeps`)
  abbrev pub Sets : Outcome Z8536 Answer → Type 0
  Sets o = (o.device ≡ pointed_to z (pointer_of e)) × (pointer_of e < register_count)

  pub sets : So (points z e) → (event_z8536 z e).answer.code ≡ 0 → Sets (event_z8536 z e)
  unfolding stands answer_of
  sets p =
      ways Accepted (λ _ q. absurd (omega (arith, q))) (λ _ _ q. absurd (omega (arith, q)))
      (λ _ _ _. pointing-ways Accepted (λ _ q. absurd (omega (arith, q))) (λ _ _ q. absurd (omega (arith, q))) (λ _ n _. (refl, n)))
      (λ _ _ n. never n p)
    where
      Accepted : Outcome Z8536 Answer → Type 0
      Accepted o = o.answer.code ≡ 0 → Sets o

  -- a device that takes a pointer is not in reset
  pub points-awake : So (points z e) → reset z.core ≡ false
  unfolding points
  points-awake p = not_so (reset z.core) (right (is_w e && eqb e.a 3 && not z.pointed) (not (reset z.core)) p)

  pub pointed-sound : sound_z8536 z ≡ true → So (points z e) → pointer_of e < register_count → sound_z8536 (pointed_to z (pointer_of e)) ≡ true
  pointed-sound s p h =
      let part = parts z s in
      let z' = pointed_to z (pointer_of e) in
      whole z' (record { core = part.core; version = part.version; pointer = h; clear = no-reset-clear z' (points-awake p) })

-- ---- which register
-- the event at a register
abbrev pub event_at : ℕ → Event → Event
event_at n e = record { kind = e.kind; a = n; b = e.b; c = e.c }

module _ (z : Z8536) (e : Event) (s : sound_z8536 z ≡ true) where
  to-register : (n : ℕ) → no_address e ≡ false → points z e ≡ false → So (accesses e) → register_of z e.a ≡ n
      → AsCore z e (event_of z.core (event_at n e))
  unfolding at_register
  to-register n a p h r =
      subst (λ (f : Event). AsCore z e (event_of z.core f)) {x = at_register z e} {y = event_at n e} (simp (h, r)) (answers-as-core z e s a p)

  -- "Address 0 is Port C, 1 Port B, 2 Port A": registers 0FH, 0EH and 0DH
  pub data-goes : So (accesses e) → e.a < 3 → AsCore z e (event_of z.core (event_at (0x0F - e.a) e))
  unfolding no_address points register_of
  data-goes h l =
      to-register (0x0F - e.a) (simp (le-ltb 3 e.a (omega (arith, l)), and-false)) (simp (ne_eqb e.a 3 (λ q. omega (arith, l, q)), and-false)) h
      (each3 (λ n. register_of z n ≡ 0x0F - n) refl refl refl e.a l)

  -- "3 control": the register pointed to
  module _ (h : So (controls e)) (p : points z e ≡ false) where
    at-control : e.a ≡ 3
    at-control = eqb-true e.a 3 (right (accesses e) (eqb e.a 3) h)

    to-control : (n : ℕ) → register_of z 3 ≡ n → AsCore z e (event_of z.core (event_at n e))
    unfolding no_address
    to-control n r =
        to-register n (simp (at-control, and-false)) p (left (accesses e) (eqb e.a 3) h) (ap (register_of z) at-control ∙ r)

    pub control-goes : reset z.core ≡ false → AsCore z e (event_of z.core (event_at z.pointer e))
    unfolding register_of
    control-goes r = to-control z.pointer (simp r)

    -- "While RESET is 1 control accesses go to register 00."
    pub reset-goes : reset z.core ≡ true → AsCore z e (event_of z.core (event_at 0x00 e))
    unfolding register_of
    reset-goes r = to-control 0x00 (simp r)

-- no pointer write comes in reset, nor where a pointer was set just now
pub reset-points : (z : Z8536) (e : Event) → reset z.core ≡ true → points z e ≡ false
unfolding points
reset-points z e r = simp (r, and-false)

pub pointed_points : (z : Z8536) (e : Event) → z.pointed ≡ true → points z e ≡ false
unfolding points
pointed_points z e p = simp (p, and-false)

-- "the next control access goes to that register"
pub next-goes : (z : Z8536) (e f : Event) → sound_z8536 z ≡ true → So (points z e) → (event_z8536 z e).answer.code ≡ 0 → So (controls f)
    → AsCore (event_z8536 z e).device f (event_of z.core (event_at (pointer_of e) f))
next-goes z e f s p c h =
    let t = sets z e p c in
    let z' = pointed_to z (pointer_of e) in
    subst (λ (y : Z8536). AsCore y f (event_of z.core (event_at (pointer_of e) f))) (sym t.0)
    (control-goes z' f (pointed-sound z e s p t.1) h (pointed_points z' f refl) (points-awake z e p))
