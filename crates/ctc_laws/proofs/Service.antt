-- The acknowledge and the end of service: K puts the highest requester in service above all others, and the end of service that follows it
-- ends that one.
-- Assumes nothing.
use Prim.Native.Nat.{ℕ, ◌+◌, ◌*◌, ◌/◌, ◌%◌, ◌<◌, ◌≤◌}
use mathlib.Core.Path.{◌≡◌, refl, sym, ap, ◌∙◌}
use mathlib.Core.List.{List}
use mathlib.Core.Bool.{Bool, true, false, ◌&&◌, ◌||◌, beq, true≢false}
use native.Mathlib.Omega.{arith}
use lib.Dec.{eqb, ltb, lit<}
use lib.ListN.{get_or, set, length}
use lib.Seq.{set-set, get_or-set_same}
use borrow.Author.Tests.{eqb-true, eqb-false, ne_eqb}
use Rattle.basics.proofs.Truth.{rows, all1, all8, same}
use Rattle.basics.proofs.Tests.{by-test}
use Rattle.ctc_rules.specs.declared.Channel.{Channel}
use Rattle.ctc_rules.specs.declared.Ctc.{Ctc}
use Rattle.ctc_rules.specs.Set.{set_ip, set_ius, set_channels, set_channel}
use Rattle.ctc_rules.specs.Record.{blank_channel, channel_at, FourChannels}
use Rattle.ctc_rules.specs.Interrupts.{first_test, first_four, pending_at, serving_ctc, requests_at, requester_ctc, acknowledged_ctc, vector_ctc, released_ctc}
use Rattle.ctc_laws.proofs.Kept.{set-kept}

-- ---- a table of the nine bits: IEI, four requests pending, four channels in service
abbrev asks : (v p q r s a b c d : Bool) → ℕ
asks v p q r s a b c d =
    let h = first_test a b c d in first_test (v && p && ltb 0 h) (v && q && ltb 1 h) (v && r && ltb 2 h) (v && s && ltb 3 h)

-- where one requests, it is the highest in service once it is put there
abbrev after : (v p q r s a b c d : Bool) → Bool
after v p q r s a b c d =
    let k = asks v p q r s a b c d in eqb k 4 || eqb (first_test (eqb k 0 || a) (eqb k 1 || b) (eqb k 2 || c) (eqb k 3 || d)) k

highest : (v p q r s a b c d : Bool) → after v p q r s a b c d ≡ true
unfolding first_test
highest v p q r s a b c d =
    same _ true
    (all8 (λ p q r s a b c d. beq (after v p q r s a b c d) true)
    (all1 (λ v. rows (λ p. rows (λ q. rows (λ r. rows (λ s. rows (λ a. rows (λ b. rows (λ c. rows (λ d. beq (after v p q r s a b c d) true))))))))) tt v)
    p q r s a b c d)

second : (a b : Bool) → a ≡ false → (a || b) ≡ true → b ≡ true
second false b n h = h
second true b n h = absurd (true≢false n)

first-most : (a b c d : Bool) → first_test a b c d ≤ 4
unfolding first_test
first-most a b c d =
    by-test Most a 0 _ (λ _. omega arith)
    (λ _. by-test Most b 1 _ (λ _. omega arith) (λ _. by-test Most c 2 _ (λ _. omega arith) (λ _. by-test Most d 3 4 (λ _. omega arith) (λ _. omega arith))))
  where
    Most : ℕ → Type 0
    Most n = n ≤ 4

-- ---- a channel of a list replaced
ius-by : (l : List Channel) (k i : ℕ) (x y : Channel) (v : Bool) → eqb k i ≡ v → i < length l → x.ius ≡ true
    → (get_or (set l k x) i y).ius ≡ (eqb k i || (get_or l i y).ius)
ius-by l k i x y true e h t =
    let at = eqb-true k i e in
    ap (λ (n : ℕ). (get_or (set l n x) i y).ius) at ∙ ap (λ (c : Channel). c.ius) (get_or-set_same l i x y h) ∙ t
    ∙ ap (λ (v : Bool). v || (get_or l i y).ius) (sym e)
ius-by l k i x y false e h t =
    set-kept (λ (c : Channel). c.ius ≡ (get_or l i y).ius) l k i x y refl (λ q. absurd (eqb-false k i e q))
    ∙ ap (λ (v : Bool). v || (get_or l i y).ius) (sym e)

module _ (d : Ctc) (four : FourChannels d) (asked : requester_ctc d ≡ 4 → ⊥) where
  abbrev k : ℕ
  k = requester_ctc d

  abbrev served : Channel
  served = set_ius (set_ip (channel_at d k) false) true

  first : k ≤ 4
  unfolding requester_ctc first_four
  first = first-most (requests_at d 0) (requests_at d 1) (requests_at d 2) (requests_at d 3)

  within : k < 4
  within = omega (arith, first, asked)

  -- IUS of each channel after K
  ius-after : (i : ℕ) → i < 4 → (channel_at (acknowledged_ctc d) i).ius ≡ (eqb k i || (channel_at d i).ius)
  unfolding acknowledged_ctc
  ius-after i h = ius-by d.channels k i served blank_channel _ refl (omega (arith, four)) refl

  abbrev ius : ℕ → Bool
  ius i = (channel_at d i).ius

  serves-after : serving_ctc (acknowledged_ctc d) ≡ first_test (eqb k 0 || ius 0) (eqb k 1 || ius 1) (eqb k 2 || ius 2) (eqb k 3 || ius 3)
  unfolding serving_ctc first_four
  serves-after =
      λ j. first_test (ius-after 0 (lit< tt) j) (ius-after 1 (lit< tt) j) (ius-after 2 (lit< tt) j) (ius-after 3 (lit< tt) j)

  table : (eqb k 4 || eqb (first_test (eqb k 0 || ius 0) (eqb k 1 || ius 1) (eqb k 2 || ius 2) (eqb k 3 || ius 3)) k) ≡ true
  unfolding requester_ctc first_four requests_at serving_ctc
  table = highest d.iei (pending_at d 0) (pending_at d 1) (pending_at d 2) (pending_at d 3) (ius 0) (ius 1) (ius 2) (ius 3)

  -- the acknowledged channel replaced once more
  over : set_channel (acknowledged_ctc d) k (set_ius (channel_at (acknowledged_ctc d) k) false) ≡ set_channel d k (set_ius (set_ip (channel_at d k) false) false)
  unfolding acknowledged_ctc
  over =
      ap (λ (c : Channel). set_channel (acknowledged_ctc d) k (set_ius c false)) (get_or-set_same d.channels k served blank_channel (omega (arith, four, within)))
      ∙ ap (set_channels d) (set-set d.channels k served (set_ius (set_ip (channel_at d k) false) false))

  -- "K sets IUS of the highest requester": then it is the highest in service
  pub acknowledged-serves : serving_ctc (acknowledged_ctc d) ≡ requester_ctc d
  acknowledged-serves = serves-after ∙ eqb-true _ k (second (eqb k 4) _ (ne_eqb k 4 asked) table)

  -- "The end of service clears IUS of the highest channel that has it": right after K that is the one acknowledged, which is left as it
  -- was but for its IP
  pub ends-what-began : released_ctc (acknowledged_ctc d) ≡ set_channel d (requester_ctc d) (set_ius (set_ip (channel_at d (requester_ctc d)) false) false)
  unfolding released_ctc
  ends-what-began =
      ap (λ (i : ℕ). set_channel (acknowledged_ctc d) i (set_ius (channel_at (acknowledged_ctc d) i) false)) acknowledged-serves ∙ over

  -- "gives the vector with the channel's number in D2-D1"
  pub names : vector_ctc d ≡ d.vector / 8 * 8 + 2 * requester_ctc d
  unfolding vector_ctc
  names = simp (ne_eqb k 4 asked)

  pub named : vector_ctc d / 2 % 4 ≡ requester_ctc d
  named = ap (λ (n : ℕ). n / 2 % 4) names ∙ omega (arith, within)
