-- One counter some counts later: while its count stays above 1 it shows the same, and counts as it did.
-- Assumes nothing.
use Prim.Native.Nat.{ℕ, suc, ◌+◌, ◌-◌, ◌≤◌, ◌<◌}
use mathlib.Core.Path.{◌≡◌, refl, sym, ap, ◌∙◌}
use mathlib.Core.Bool.{Bool, true, false, cond, and-false, not-and_self}
use native.Mathlib.Nat.{sub-zero}
use native.Mathlib.Omega.{arith}
use borrow.Author.Tests.{ne_eqb}
use Rattle.rules.specs.declared.Counter.{Counter}
use Rattle.rules.specs.declared.Counted.{Counted}
use Rattle.rules.specs.declared.Link.{Link}
use Rattle.rules.specs.With.{with_count, with_pulse}
use Rattle.rules.specs.Counters.{less_one, count_of, pulse_of, output_of, reach_of, clocks, clocked_by, turn_of}
use Rattle.theorems.specs.Stretch.{lower_of}

-- a turn without a terminal
abbrev pub quietly : Counter → Counted
quietly c = record { counter = c; terminal = false }

-- it moves, and j counts leave it above 1
abbrev pub Room : ℕ → Bool → Counter → Type 0
Room j moves c = moves ≡ true → j + 2 ≤ c.count

-- ---- what it shows: its mode and its output, in version n
pub record Like (n : ℕ) (b c : Counter) : Type 0 where
  pub mode : c.mode ≡ b.mode
  pub output : output_of n c ≡ output_of n b

lower-mode : (j : ℕ) (v : Bool) (c : Counter) → (lower_of j v c).mode ≡ c.mode
unfolding lower_of
lower-mode j true c = refl
lower-mode j false c = refl

pub lower-output : (n j : ℕ) (v : Bool) (c : Counter) → Room j v c → output_of n (lower_of j v c) ≡ output_of n c
unfolding lower_of output_of pulse_of
lower-output n j true c r =
    let h = r refl in
    simp (ne_eqb (c.count - j) 1 (λ e. omega arith), ne_eqb c.count 1 (λ e. omega arith))
lower-output n j false c r = refl

pub like-lower : (n j : ℕ) (v : Bool) (c : Counter) → Room j v c → Like n c (lower_of j v c)
like-lower n j v c r = record { mode = lower-mode j v c; output = lower-output n j v c r }

pub like-both : (n i j : ℕ) (v : Bool) (c : Counter) → Room i v c → Room j v c → Like n (lower_of i v c) (lower_of j v c)
like-both n i j v c r s =
    record { mode = lower-mode j v c ∙ sym (lower-mode i v c); output = lower-output n j v c s ∙ sym (lower-output n i v c r) }

pub lower-zero : (v : Bool) (c : Counter) → lower_of 0 v c ≡ c
unfolding lower_of
lower-zero true c = ap (with_count c) (sub-zero c.count)
lower-zero false c = refl

-- ---- its turn: where no line moves, it is loaded by a link alone
pub not-loaded : (n : ℕ) (on : Bool) (k : Link) (w : ℕ) (c : Counter) → k.trigger ≡ false
    → turn_of n on (reach_of c k true w w) c ≡ cond (clocks on (reach_of c k true w w) c) (clocked_by n c) (quietly c)
unfolding turn_of reach_of
not-loaded n on k w c t = simp (t, not-and_self, and-false)

-- else it goes by whether a clock reaches it, and whether it runs
turn_by_lem : (n : ℕ) (on : Bool) (k : Link) (w : ℕ) (c : Counter) (b r : Bool) → k.trigger ≡ false → clocks on (reach_of c k true w w) c ≡ b → c.cip ≡ r
    → turn_of n on (reach_of c k true w w) c ≡ cond b (cond r (count_of n c) (quietly (with_pulse c false))) (quietly c)
unfolding clocked_by
turn_by_lem n on k w c b r t e f = not-loaded n on k w c t ∙ (simp (e, f))

-- a count that is not terminal ends the pulse
count-quiet : (n : ℕ) (c : Counter) → c.count < 65536 → 2 ≤ c.count → count_of n c ≡ quietly (with_pulse (with_count c (c.count - 1)) false)
unfolding count_of
count-quiet n c h r =
    let e : less_one 65536 c.count ≡ c.count - 1 = omega arith in
    simp (e, ne_eqb (c.count - 1) 0 (λ z. omega arith))

count-lower : (n : ℕ) (c : Counter) (j : ℕ) → c.count < 65536 → suc j + 2 ≤ c.count → c.pulse ≡ false
    → count_of n (lower_of j true c) ≡ quietly (lower_of (suc j) true c)
unfolding lower_of
count-lower n c j h r p =
    let e : c.count - j - 1 ≡ c.count - suc j = omega arith in
    count-quiet n (with_count c (c.count - j)) (omega arith) (omega arith) ∙ (simp (e, p))

-- whether a clock reaches it does not go by the count
clocks-lower : (on : Bool) (k : Link) (w : ℕ) (c : Counter) (j : ℕ)
    → clocks on (reach_of (lower_of j true c) k true w w) (lower_of j true c) ≡ clocks on (reach_of c k true w w) c
unfolding clocks reach_of lower_of
clocks-lower on k w c j = refl

module _ (n : ℕ) (on : Bool) (k : Link) (w : ℕ) (c : Counter) (t : k.trigger ≡ false) (small : c.count < 65536) where
  again_by : (b r : Bool) (j : ℕ) → clocks on (reach_of c k true w w) c ≡ b → c.cip ≡ r → 1 + 2 ≤ c.count → suc j + 2 ≤ c.count
      → turn_of n on (reach_of c k true w w) c ≡ quietly (lower_of 1 true c)
      → turn_of n on (reach_of (lower_of j true c) k true w w) (lower_of j true c) ≡ quietly (lower_of (suc j) true c)
  unfolding lower_of
  again_by true true j e f h l p =
      let q = sym p ∙ turn_by_lem n on k w c true true t e f ∙ count-quiet n c small (omega arith) in
      turn_by_lem n on k w (lower_of j true c) true true t (clocks-lower on k w c j ∙ e) f ∙ count-lower n c j small l (ap (λ (x : Counted). x.counter.pulse) q)
  again_by true false j e f h l p =
      let q : c.count ≡ c.count - 1 = ap (λ (x : Counted). x.counter.count) (sym (turn_by_lem n on k w c true false t e f) ∙ p) in
      absurd (omega arith)
  again_by false r j e f h l p =
      let q : c.count ≡ c.count - 1 = ap (λ (x : Counted). x.counter.count) (sym (turn_by_lem n on k w c false r t e f) ∙ p) in
      absurd (omega arith)

  -- a turn that only takes one from the count, if it moves, does so again
  pub again : (v : Bool) (j : ℕ) → Room 1 v c → Room (suc j) v c
      → turn_of n on (reach_of c k true w w) c ≡ quietly (lower_of 1 v c)
      → turn_of n on (reach_of (lower_of j v c) k true w w) (lower_of j v c) ≡ quietly (lower_of (suc j) v c)
  unfolding lower_of
  again true j h r p = again_by _ _ j refl refl (h refl) (r refl) p
  again false j h r p = p
