-- Paper 02, W-209: the answer's code is that of the order of the refusals, and when 9, 1, 2 and 5 are given; the others are the core's.
-- Assumes nothing.
use Prim.Native.Nat.{ℕ, ◌<◌}
use mathlib.Core.Path.{◌≡◌, refl, sym, ◌∙◌}
use mathlib.Core.Bool.{Bool, true, false, not, ◌&&◌, ◌||◌, beq, cond, So, and-true, and-false, or-false}
use mathlib.Core.Logic.{◌↔◌}
use native.Mathlib.Omega.{arith}
use lib.Dec.{T, eqb, ltb}
use borrow.Author.Tests.{eqb-true, eq-eqb, lt-leb}
use Rattle.rules.specs.declared.Event.{Event}
use Rattle.rules.specs.Record.{register_count}
use Rattle.rules.specs.Registers.{reset}
use Rattle.rules.specs.Events.{is_w, is_r, unknown, no_register, too_large, code_of, answer_of}
use Rattle.basics.proofs.Truth.{rows, all6, same}
use Rattle.basics.proofs.Tests.{left, right, by-test}
use Rattle.theorems.proofs.Codes.{write_known, too-large-known, test-9, test-1, test-2, test-5}
use Rattle.theorems.proofs.Refusals.{code_is as core-code}
use Rattle.z8536.specs.declared.Z8536.{Z8536}
use Rattle.rules.specs.declared.Answer.{Answer}
use Rattle.rules.specs.declared.Outcome.{Outcome}
use Rattle.z8536.specs.Z8536.{sound_z8536, accesses, register_of, at_register, points, no_address, no_pointer, code_z8536, stands, pointing, accessed, event_z8536}
use Rattle.z8536.proofs.Parts.{parts}
use Rattle.z8536.proofs.Access.{ways}

-- ---- the Z8036 event at a register has the refusals of the event, but for its address, which is one of the 48
either : (P : Event → Type 0) (z : Z8536) (e : Event) → (So (accesses e) → P (record { kind = e.kind; a = register_of z e.a; b = e.b; c = e.c }))
    → (accesses e ≡ false → P e) → P (at_register z e)
unfolding at_register
either P z e = by-test P (accesses e) (record { kind = e.kind; a = register_of z e.a; b = e.b; c = e.c }) e

pub at-unknown : (z : Z8536) (e : Event) → unknown (at_register z e) ≡ unknown e
unfolding unknown
at-unknown z e = either (λ f. unknown f ≡ unknown e) z e (λ _. refl) (λ _. refl)

-- one of two; an access is a W or an R
pub or-so : {C : Type 0} (a b : Bool) → (So a → C) → (So b → C) → So (a || b) → C
or-so true b f g h = f refl
or-so false b f g h = g h

accessed-by : {C : Type 0} (e : Event) → (e.kind ≡ 1 → C) → (e.kind ≡ 2 → C) → So (accesses e) → C
accessed-by e f g h = or-so (is_w e) (is_r e) (λ t. f (eqb-true e.kind 1 t)) (λ t. g (eqb-true e.kind 2 t)) h

pub at-large : (z : Z8536) (e : Event) → too_large (at_register z e) ≡ too_large e
unfolding too_large
at-large z e = either (λ f. too_large f ≡ too_large e) z e (accessed-by e (λ k. simp k) (λ k. simp k)) (λ _. refl)

register-within : (z : Z8536) (n : ℕ) → z.pointer < register_count → register_of z n < register_count
unfolding register_of
register-within z n h =
    by-test Within (eqb n 0) 0x0F _ (λ _. omega arith)
    (λ _.
    by-test Within (eqb n 1) 0x0E _ (λ _. omega arith)
    (λ _.
    by-test Within (eqb n 2) 0x0D _ (λ _. omega arith) (λ _. by-test Within (reset z.core) 0x00 z.pointer (λ _. omega arith) (λ _. h))))
  where
    Within : ℕ → Type 0
    Within r = r < register_count

pub at_register_lem : (z : Z8536) (e : Event) → sound_z8536 z ≡ true → no_register (at_register z e) ≡ false
unfolding no_register
at_register_lem z e s =
    either (λ f. no_register f ≡ false) z e
    (λ _. simp (lt-leb register_count (register_of z e.a) (register-within z e.a (parts z s).pointer), and-false)) (λ n. simp n)

-- ---- the kind is known where an access is
pub access-known : (e : Event) → So (accesses e) → unknown e ≡ false
unfolding unknown
access-known e = accessed-by e (λ k. simp k) (λ k. simp k)

pub address-known : (e : Event) → So (no_address e) → unknown e ≡ false
unfolding no_address
address-known e h = access-known e (left (accesses e) (ltb 3 e.a) h)

pub points-write : (z : Z8536) (e : Event) → So (points z e) → So (is_w e)
unfolding points
points-write z e p =
    let w = is_w e in
    let a = eqb e.a 3 in
    let n = not z.pointed in
    left w a (left (w && a) n (left (w && a && n) (not (reset z.core)) p))

-- of a write only its byte may be too large
write-large : (e : Event) → So (is_w e) → too_large e ≡ ltb 255 e.b
unfolding too_large
write-large e w = simp (eqb-true e.kind 1 w, or-false)

module _ (z : Z8536) (e : Event) where
  -- ---- the answer's code
  pointing-code : (t n : Bool) → ltb 255 e.b ≡ t → no_pointer e ≡ n → (pointing z e).answer.code ≡ cond (ltb 255 e.b) 5 (cond (no_pointer e) 2 0)
  unfolding pointing stands answer_of
  pointing-code true n p q = simp p
  pointing-code false true p q = simp (p, q)
  pointing-code false false p q = simp (p, q)

  by-core : (u t : Bool) → unknown e ≡ u → too_large e ≡ t → sound_z8536 z ≡ true → no_address e ≡ false → points z e ≡ false
      → code_of z.core (at_register z e) ≡ code_z8536 z e
  unfolding code_of code_z8536
  by-core true t p q s a n = simp (s, (parts z s).core, at-unknown z e, p)
  by-core false true p q s a n = simp (s, (parts z s).core, at-unknown z e, p, a, at_register_lem z e s, at-large z e, q)
  by-core false false p q s a n = simp (s, p, a, q, n)

  -- past the address and the pointer the code is the core's
  pub core-code-is : sound_z8536 z ≡ true → no_address e ≡ false → points z e ≡ false → code_z8536 z e ≡ code_of z.core (at_register z e)
  core-code-is s a p = sym (by-core _ _ refl refl s a p)

  pub code_is : (event_z8536 z e).answer.code ≡ code_z8536 z e
  unfolding code_z8536 stands answer_of accessed
  code_is =
      ways z e (λ (o : Outcome Z8536 Answer). o.answer.code ≡ code_z8536 z e) (λ s. simp s) (λ s a. simp (s, address-known e a, a))
      (λ s a p.
      let w = points-write z e p in
      pointing-code _ _ refl refl ∙ simp (s, write_known e w, a, write-large e w, p))
      (λ s a p. core-code z.core (at_register z e) ∙ by-core _ _ refl refl s a p)

-- ---- when each of 9, 1, 2 and 5 is given
-- the code by its tests, in their order, and then the core's
abbrev chain : Bool → Bool → Bool → Bool → Bool → Bool → ℕ → ℕ
chain s u n t p q c = cond (not s) 9 (cond u 1 (cond n 2 (cond t 5 (cond p (cond q 2 0) c))))

-- a core's code that is not m might be 0, which is not m
past : (m c : ℕ) (s u n t p q : Bool) → eqb 0 m ≡ false → (So s → u ≡ false → n ≡ false → t ≡ false → eqb c m ≡ false)
    → eqb (chain s u n t p q c) m ≡ eqb (chain s u n t p q 0) m
past m c false u n t p q z h = refl
past m c true true n t p q z h = refl
past m c true false true t p q z h = refl
past m c true false false true p q z h = refl
past m c true false false false true q z h = refl
past m c true false false false false q z h = h refl refl refl refl ∙ sym z

-- a test that knows the kind asks for no known kind
known_of : (s u x : Bool) → (So x → u ≡ false) → (s && not u && x) ≡ (s && x)
known_of s u true h = simp (h refl, and-true)
known_of s u false h = simp and-false

exactly : (n m : ℕ) (x : Bool) → eqb n m ≡ x → (n ≡ m) ↔ So x
exactly n m x p = (λ q. sym p ∙ eq-eqb n m q, λ s. eqb-true n m (p ∙ s))

-- past the tests of 9, 1, 2 and 5 the core's code is none of them
module _ (z : Z8536) (e : Event) (s : sound_z8536 z ≡ true) (u : unknown e ≡ false) (t : too_large e ≡ false) where
  core-9 : eqb (code_of z.core (at_register z e)) 9 ≡ false
  core-9 = test-9 z.core (at_register z e) ∙ simp (parts z s).core

  core-1 : eqb (code_of z.core (at_register z e)) 1 ≡ false
  core-1 = test-1 z.core (at_register z e) ∙ simp ((parts z s).core, at-unknown z e, u)

  core-2 : eqb (code_of z.core (at_register z e)) 2 ≡ false
  core-2 = test-2 z.core (at_register z e) ∙ simp (at_register_lem z e s, and-false)

  core-5 : eqb (code_of z.core (at_register z e)) 5 ≡ false
  core-5 = test-5 z.core (at_register z e) ∙ simp (at-large z e, t, and-false)

module _ (z : Z8536) (e : Event) where
  by-table : (m : ℕ) (x : Bool → Bool → Bool → Bool → Bool → Bool → Bool)
      → T (rows (λ s. rows (λ u. rows (λ n. rows (λ t. rows (λ p. rows (λ q. beq (eqb (chain s u n t p q 0) m) (x s u n t p q))))))))
      → eqb 0 m ≡ false → (sound_z8536 z ≡ true → unknown e ≡ false → too_large e ≡ false → eqb (code_of z.core (at_register z e)) m ≡ false)
      → eqb (code_z8536 z e) m ≡ x (sound_z8536 z) (unknown e) (no_address e) (too_large e) (points z e) (no_pointer e)
  unfolding code_z8536
  by-table m x p o h =
      past m (code_of z.core (at_register z e)) (sound_z8536 z) (unknown e) (no_address e) (too_large e) (points z e) (no_pointer e) o (λ s u _ t. h s u t)
      ∙ same _ _
      (all6 (λ s u n t p q. beq (eqb (chain s u n t p q 0) m) (x s u n t p q)) p (sound_z8536 z) (unknown e) (no_address e) (too_large e) (points z e)
      (no_pointer e))

  -- "Otherwise it is a version 2 device"
  pub code-9 : (code_z8536 z e ≡ 9) ↔ So (not (sound_z8536 z))
  code-9 = exactly _ 9 _ (by-table 9 (λ s u n t p q. not s) tt refl (core-9 z e))

  pub code-1 : (code_z8536 z e ≡ 1) ↔ So (sound_z8536 z && unknown e)
  code-1 = exactly _ 1 _ (by-table 1 (λ s u n t p q. s && u) tt refl (core-1 z e))

  -- "2 for an address above 3 and, after 5 and never under RESET, for a pointer above 47"
  abbrev pub no_such : Bool
  no_such = no_address e || (not (too_large e) && points z e && no_pointer e)

  no-such-known : So no_such → unknown e ≡ false
  no-such-known =
      let n = not (too_large e) && points z e in
      or-so (no_address e) (n && no_pointer e) (address-known e)
      (λ h. write_known e (points-write z e (right (not (too_large e)) (points z e) (left n (no_pointer e) h))))

  pub code-2 : (code_z8536 z e ≡ 2) ↔ So (sound_z8536 z && no_such)
  code-2 =
      exactly _ 2 _
      (by-table 2 (λ s u n t p q. s && not u && (n || (not t && p && q))) tt refl (core-2 z e) ∙ known_of (sound_z8536 z) (unknown e) no_such no-such-known)

  -- "a byte, a or b above 255, c above 15, v above 1", where there is the address
  pub code-5 : (code_z8536 z e ≡ 5) ↔ So (sound_z8536 z && (not (no_address e) && too_large e))
  code-5 =
      exactly _ 5 _
      (by-table 5 (λ s u n t p q. s && not u && (not n && t)) tt refl (core-5 z e)
      ∙ known_of (sound_z8536 z) (unknown e) (not (no_address e) && too_large e) (λ h. too-large-known e (right (not (no_address e)) (too_large e) h)))
