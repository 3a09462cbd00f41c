-- Which events are refused and with which code: each code exactly when its test passes and none before it does; and what a refusal leaves.
-- Assumes nothing.
use Prim.Native.Nat.{ℕ}
use mathlib.Core.Path.{◌≡◌, refl, sym, ◌∙◌}
use mathlib.Core.Bool.{Bool, true, false, not, ◌&&◌, ◌||◌, beq, cond, So, and-true, and-false, true≢false}
use mathlib.Core.Logic.{◌↔◌}
use native.Mathlib.Omega.{arith}
use lib.Dec.{T, eqb, ltb}
use borrow.Author.Tests.{eqb-true, eqb-false, eq-eqb}
use Rattle.basics.proofs.Truth.{rows, all5, same}
use Rattle.basics.proofs.Tests.{left, right, by-test}
use Rattle.rules.specs.declared.Event.{Event}
use Rattle.rules.specs.Events.{is_w, is_r, is_p, is_k, is_e, unknown}
use Rattle.ctc_rules.specs.declared.Ctc.{Ctc}
use Rattle.ctc_rules.specs.declared.CtcAnswer.{CtcAnswer}
use Rattle.rules.specs.declared.Outcome.{Outcome}
use Rattle.ctc_rules.specs.Interrupts.{requester_ctc}
use Rattle.ctc_rules.specs.Sound.{sound_ctc}
use Rattle.ctc_rules.specs.Events.{no_channel, too_large_ctc, code_ctc, plain_ctc, effect_ctc, outcome_ctc, unsound_ctc, event_ctc, end_of_service}

-- ---- the kind is known where a test names it
one_of : {C : Type 0} (a b : Bool) → (So a → C) → (So b → C) → So (a || b) → C
one_of true b f g h = f refl
one_of false b f g h = g h

kind-known : (e : Event) (k : ℕ) → ltb 6 k ≡ false → So (eqb e.kind k) → unknown e ≡ false
unfolding unknown
kind-known e k n h = simp (eqb-true e.kind k h) n

channel-known : (e : Event) → So (no_channel e) → unknown e ≡ false
unfolding no_channel
channel-known e h = one_of (is_w e) (is_r e) (kind-known e 1 refl) (kind-known e 2 refl) (left (is_w e || is_r e) (ltb 3 e.a) h)

large-known : (e : Event) → So (too_large_ctc e) → unknown e ≡ false
unfolding too_large_ctc
large-known e =
    let w = is_w e && ltb 255 e.b in
    let p = is_p e && ltb 255 e.a in
    one_of (w || p) (is_e e && ltb 1 e.a)
    (one_of w p (λ h. kind-known e 1 refl (left (is_w e) (ltb 255 e.b) h)) (λ h. kind-known e 3 refl (left (is_p e) (ltb 255 e.a) h)))
    (λ h. kind-known e 6 refl (left (is_e e) (ltb 1 e.a) h))

-- K has no channel and no number
none-of-k : (e : Event) → So (is_k e) → (unknown e ≡ false) × (no_channel e ≡ false) × (too_large_ctc e ≡ false)
unfolding unknown no_channel too_large_ctc
none-of-k e h = let k = eqb-true e.kind 5 h in (simp k, simp k, simp k)

-- ---- the code by its five tests, in their order
abbrev pub idle_k : Ctc → Event → Bool
idle_k d e = is_k e && eqb (requester_ctc d) 4

abbrev chain : Bool → Bool → Bool → Bool → Bool → ℕ
chain s u n t k = cond (not s) 9 (cond u 1 (cond n 2 (cond t 5 (cond k 6 0))))

known_of : (s u x : Bool) → (So x → u ≡ false) → (s && not u && x) ≡ (s && x)
known_of s u true h = simp (h refl, and-true)
known_of s u false h = simp and-false

all_known : (s u n t x : Bool) → (So x → (u ≡ false) × (n ≡ false) × (t ≡ false)) → (s && not u && not n && not t && x) ≡ (s && x)
all_known s u n t true h = let k = h refl in simp (k.0, k.1, k.2, and-true)
all_known s u n t false h = simp and-false

exactly : (n m : ℕ) (x : Bool) → eqb n m ≡ x → (n ≡ m) ↔ So x
exactly n m x p = (λ q. sym p ∙ eq-eqb n m q, λ s. eqb-true n m (p ∙ s))

module _ (d : Ctc) (e : Event) where
  by-table : (m : ℕ) (x : Bool → Bool → Bool → Bool → Bool → Bool)
      → T (rows (λ s. rows (λ u. rows (λ n. rows (λ t. rows (λ k. beq (eqb (chain s u n t k) m) (x s u n t k)))))))
      → eqb (code_ctc d e) m ≡ x (sound_ctc d) (unknown e) (no_channel e) (too_large_ctc e) (idle_k d e)
  unfolding code_ctc
  by-table m x p =
      same _ _ (all5 (λ s u n t k. beq (eqb (chain s u n t k) m) (x s u n t k)) p (sound_ctc d) (unknown e) (no_channel e) (too_large_ctc e) (idle_k d e))

  -- "record not sound"
  pub code-9 : (code_ctc d e ≡ 9) ↔ So (not (sound_ctc d))
  code-9 = exactly _ 9 _ (by-table 9 (λ s u n t k. not s) tt)

  -- "kind above 6"
  pub code-1 : (code_ctc d e ≡ 1) ↔ So (sound_ctc d && unknown e)
  code-1 = exactly _ 1 _ (by-table 1 (λ s u n t k. s && u) tt)

  -- "W or R, channel above 3"
  pub code-2 : (code_ctc d e ≡ 2) ↔ So (sound_ctc d && no_channel e)
  code-2 = exactly _ 2 _ (by-table 2 (λ s u n t k. s && not u && n) tt ∙ known_of (sound_ctc d) (unknown e) (no_channel e) (channel-known e))

  -- "a byte or a above 255, v above 1", where there is the channel
  pub code-5 : (code_ctc d e ≡ 5) ↔ So (sound_ctc d && (not (no_channel e) && too_large_ctc e))
  code-5 =
      exactly _ 5 _
      (by-table 5 (λ s u n t k. s && not u && (not n && t)) tt
      ∙ known_of (sound_ctc d) (unknown e) (not (no_channel e) && too_large_ctc e) (λ h. large-known e (right (not (no_channel e)) (too_large_ctc e) h)))

  -- "K, no channel requests"
  pub code-6 : (code_ctc d e ≡ 6) ↔ So (sound_ctc d && idle_k d e)
  code-6 =
      exactly _ 6 _
      (by-table 6 (λ s u n t k. s && not u && not n && not t && k) tt
      ∙ all_known (sound_ctc d) (unknown e) (no_channel e) (too_large_ctc e) (idle_k d e) (λ h. none-of-k e (left (is_k e) (eqb (requester_ctc d) 4) h)))

  -- accepted
  pub code-0 : (code_ctc d e ≡ 0) ↔ So (sound_ctc d && not (unknown e) && not (no_channel e) && not (too_large_ctc e) && not (idle_k d e))
  code-0 = exactly _ 0 _ (by-table 0 (λ s u n t k. s && not u && not n && not t && not k) tt)

  -- there is no other code: "3 and 4 never"
  pub no-other-code : So (eqb (code_ctc d e) 0 || eqb (code_ctc d e) 1 || eqb (code_ctc d e) 2 || eqb (code_ctc d e) 5 || eqb (code_ctc d e) 6 || eqb (code_ctc d e) 9)
  unfolding code_ctc
  no-other-code =
      same _ true
      (all5 (λ s u n t k. let c = chain s u n t k in beq (eqb c 0 || eqb c 1 || eqb c 2 || eqb c 5 || eqb c 6 || eqb c 9) true) tt (sound_ctc d) (unknown e)
      (no_channel e) (too_large_ctc e) (idle_k d e))

  -- ---- the answer, by the code
  pub ways : (P : Outcome Ctc CtcAnswer → Type 0) → (code_ctc d e ≡ 9 → P (unsound_ctc d)) → (code_ctc d e ≡ 0 → P (outcome_ctc 0 (effect_ctc d e)))
      → ((code_ctc d e ≡ 9 → ⊥) → (code_ctc d e ≡ 0 → ⊥) → P (outcome_ctc (code_ctc d e) (plain_ctc d 0))) → P (event_ctc d e)
  unfolding event_ctc
  ways P f g h =
      by-test P (eqb (code_ctc d e) 9) _ _ (λ n. f (eqb-true (code_ctc d e) 9 n))
      (λ n.
      by-test P (eqb (code_ctc d e) 0) _ _ (λ z. g (eqb-true (code_ctc d e) 0 z)) (λ z. h (eqb-false (code_ctc d e) 9 n) (eqb-false (code_ctc d e) 0 z)))

  pub code_is : (event_ctc d e).answer.code ≡ code_ctc d e
  unfolding outcome_ctc
  code_is = ways (λ o. o.answer.code ≡ code_ctc d e) sym sym (λ _ _. refl)

  -- "A refused event hands its record back as it came."
  pub refused-keeps : ((event_ctc d e).answer.code ≡ 0 → ⊥) → (event_ctc d e).device ≡ d
  unfolding outcome_ctc
  refused-keeps ne = ways (λ o. o.device ≡ d) (λ _. refl) (λ z. absurd (ne (code_is ∙ z))) (λ _ _. refl)

  -- "with another refusal the value and the counts are 0, and the lines are as they stand"
  pub refused-answer : ((event_ctc d e).answer.code ≡ 0 → ⊥) → ((event_ctc d e).answer.code ≡ 9 → ⊥)
      → (event_ctc d e).answer ≡ (outcome_ctc (code_ctc d e) (plain_ctc d 0)).answer
  refused-answer ne nine =
      ways (λ o. o.answer ≡ (outcome_ctc (code_ctc d e) (plain_ctc d 0)).answer) (λ n. absurd (nine (code_is ∙ n))) (λ z. absurd (ne (code_is ∙ z))) (λ _ _. refl)

  -- "With code 9 value, levels, lines and counts are all 0"
  pub unsound : sound_ctc d ≡ false → event_ctc d e ≡ unsound_ctc d
  unfolding event_ctc code_ctc
  unsound s = simp s

  pub accepted : code_ctc d e ≡ 0 → event_ctc d e ≡ outcome_ctc 0 (effect_ctc d e)
  unfolding event_ctc
  accepted z = simp z

-- ---- the end of service: 9 or 0
module _ (d : Ctc) where
  pub ended-unsound : sound_ctc d ≡ false → end_of_service d ≡ unsound_ctc d
  unfolding end_of_service
  ended-unsound s = simp s

  ended-code : (v : Bool) → sound_ctc d ≡ v → (end_of_service d).answer.code ≡ cond (sound_ctc d) 0 9
  unfolding end_of_service outcome_ctc
  ended-code true s = simp s
  ended-code false s = simp s

  pub ended-9 : ((end_of_service d).answer.code ≡ 9) ↔ So (not (sound_ctc d))
  ended-9 = by_bool (sound_ctc d) _ (ended-code _ refl)
    where
      by_bool : (s : Bool) (n : ℕ) → n ≡ cond s 0 9 → (n ≡ 9) ↔ So (not s)
      by_bool true n p = (λ q. absurd (omega (arith, p, q)), λ h. absurd (true≢false (sym h)))
      by_bool false n p = (λ q. refl, λ h. p)
