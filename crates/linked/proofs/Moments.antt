-- From one moment of a run to a later one.
-- Assumes nothing.
use Prim.Native.Nat.{ℕ, zero, suc, ◌+◌, ◌-◌, ◌*◌, ◌/◌, ◌%◌, ◌≤◌}
use mathlib.Core.Path.{◌≡◌, refl, sym, ap, ap₂, ◌∙◌}
use mathlib.Core.Bool.{Bool, true, false}
use native.Mathlib.Nat.{zero-mul, suc-mul, add_assoc, div-add-mod', mod-le, mul-le-mul_left}
use native.Mathlib.Omega.{arith}
use Rattle.basics.specs.Byte.{num}
use Rattle.basics.specs.Iterate.{iterate}
use Rattle.basics.proofs.Iterate.{iterate-add, iterate-commutes}
use Rattle.rules.specs.Counters.{unlinked}
use Rattle.theorems.specs.declared.Pair.{Pair}
use Rattle.theorems.proofs.Rounds.{after_rounds, only-rounds}
use Rattle.linked.specs.declared.stage.Stage.{Stage}
use Rattle.linked.specs.declared.chase.Chase.{Chase}
use Rattle.linked.specs.Stage.{turn_on, link_on, paired_on}
use Rattle.linked.specs.Chase.{with_terminals, end_of, Holds, Follows}

-- ---- the terminals never fall, and rise by at most one a clock
rises_by : (n : ℕ) (v : Bool) → (n ≤ n + num v) × (n + num v ≤ n + 1)
rises_by n true = (omega arith, omega arith)
rises_by n false = (omega arith, omega arith)

-- whether a clock's turn of CT2 is terminal
abbrev terminal : Stage → Pair → Bool
terminal f x = (turn_on f 1 (link_on f x.one (turn_on f 0 unlinked x.one).counter) x.two).terminal

module _ (f : Stage) where
  once : (x : Pair) → (x.terminals ≤ (paired_on f x).terminals) × ((paired_on f x).terminals ≤ x.terminals + 1)
  unfolding paired_on
  once x = rises_by x.terminals (terminal f x)

  rises : (k : ℕ) (x : Pair) → x.terminals ≤ (iterate k (paired_on f) x).terminals
  unfolding iterate
  rises zero x = omega arith
  rises (suc k) x = omega (arith, rises k x, (once (iterate k (paired_on f) x)).0)

  at_most : (k : ℕ) (x : Pair) → (iterate k (paired_on f) x).terminals ≤ x.terminals + k
  unfolding iterate
  at_most zero x = omega arith
  at_most (suc k) x = omega (arith, at_most k x, (once (iterate k (paired_on f) x)).1)

  -- ---- the start of k clocks
  abbrev pub start_of : ℕ → Pair → Chase
  start_of k x = record { now = x; anchor = x; since = 0; leaps = 0; span = 1; left = k }

  pub started : (k : ℕ) (x : Pair) → k ≤ 4294967295 → x.terminals + k ≤ 4294967295 → Holds f (start_of k x)
  unfolding iterate
  started k x h z = record { present = refl; time = omega arith; room = omega arith }

  -- its end is the run, and none is left there
  pub ended : (k : ℕ) (x : Pair) (c : Chase) → end_of f c ≡ end_of f (start_of k x) → c.left ≤ 0 → c.now ≡ iterate k (paired_on f) x
  unfolding end_of iterate
  ended k x c e z =
      let none : c.left ≡ 0 = omega arith in
      sym (ap (λ (n : ℕ). iterate n (paired_on f) c.now) none) ∙ e

  -- ---- k of the clocks that are left: the rest ends where all do, and has the room that they had
  module _ (left k : ℕ) (x y : Pair) (le : k ≤ left) (gone : y ≡ iterate k (paired_on f) x) where
    pub rest : iterate (left - k) (paired_on f) y ≡ iterate left (paired_on f) x
    rest =
        ap (iterate (left - k) (paired_on f)) gone ∙ sym (iterate-add k (left - k) (paired_on f) x)
        ∙ ap (λ (n : ℕ). iterate n (paired_on f) x) (omega arith)

    pub rest-room : x.terminals + left ≤ 4294967295 → y.terminals + (left - k) ≤ 4294967295
    rest-room h = omega (arith, ap (λ (z : Pair). z.terminals) gone, at_most k x, h)

  -- ---- k clocks later, at the same anchor
  pub later : (c r : Chase) (k : ℕ) → Holds f c → k ≤ c.left → r.now ≡ iterate k (paired_on f) c.now → r.anchor ≡ c.anchor
      → r.since ≡ c.since + k → r.left ≡ c.left - k → Follows f c r
  unfolding end_of
  later c r k h le now anchor since left =
      record {
        end = ap (λ (n : ℕ). iterate n (paired_on f) r.now) left ∙ rest c.left k c.now r.now le now;
        holds = record {
          present = now ∙ ap (iterate k (paired_on f)) h.present ∙ sym (iterate-add c.since k (paired_on f) c.anchor)
              ∙ ap₂ (λ (n : ℕ) (x : Pair). iterate n (paired_on f) x) (sym since) (sym anchor);
          time = omega (arith, h.time, since, left);
          room = omega (arith, rest-room c.left k c.now r.now le now h.room, left);
        };
        left = omega (arith, left);
      }

  -- the same moment and anchor
  pub stays : (c r : Chase) → Holds f c → r.now ≡ c.now → r.anchor ≡ c.anchor → r.since ≡ c.since → r.left ≡ c.left → Follows f c r
  unfolding end_of
  stays c r h now anchor since left =
      record {
        end = ap₂ (λ (n : ℕ) (x : Pair). iterate n (paired_on f) x) left now;
        holds = record {
          present = now ∙ h.present ∙ ap₂ (λ (n : ℕ) (x : Pair). iterate n (paired_on f) x) (sym since) (sym anchor);
          time = omega (arith, h.time, since, left);
          room = omega (arith, ap (λ (x : Pair). x.terminals) now, h.room, left);
        };
        left = omega (arith, left);
      }

  -- the same moment, which is the anchor
  pub anew : (c r : Chase) → Holds f c → r.now ≡ c.now → r.anchor ≡ c.now → r.since ≡ 0 → r.left ≡ c.left → Follows f c r
  unfolding end_of iterate
  anew c r h now anchor since left =
      record {
        end = ap₂ (λ (n : ℕ) (x : Pair). iterate n (paired_on f) x) left now;
        holds = record {
          present = now ∙ sym anchor ∙ ap (λ (n : ℕ). iterate n (paired_on f) r.anchor) (sym since);
          time = omega (arith, h.time, since, left);
          room = omega (arith, ap (λ (x : Pair). x.terminals) now, h.room, left);
        };
        left = omega (arith, left);
      }

  -- ---- whole rounds: a clock does not look at the terminals, so m more of them stay m more
  abbrev more : ℕ → Pair → Pair
  more m x = with_terminals x (m + x.terminals)

  apart : (m : ℕ) (x : Pair) → paired_on f (more m x) ≡ more m (paired_on f x)
  unfolding paired_on with_terminals
  apart m x = ap (with_terminals (paired_on f x)) (add_assoc m x.terminals (num (terminal f x)))

  -- m more, q times
  tops : (q m : ℕ) (x : Pair) → iterate q (more m) x ≡ with_terminals x (x.terminals + q * m)
  unfolding iterate with_terminals
  tops zero m x = ap (with_terminals x) (omega (arith, zero-mul m))
  tops (suc q) m x =
      let e : m + (x.terminals + q * m) ≡ x.terminals + suc q * m = omega (arith, suc-mul q m) in
      ap (more m) (tops q m x) ∙ ap (with_terminals x) e

  -- the pair is what it was p clocks ago, but for its terminals
  module _ (was now : Pair) (p : ℕ) (present : now ≡ iterate p (paired_on f) was) (back : with_terminals now was.terminals ≡ was) where
    gained : (was.terminals ≤ now.terminals) × (now.terminals - was.terminals ≤ p)
    gained =
        let e = ap (λ (x : Pair). x.terminals) present in
        (omega (arith, e, rises p was), omega (arith, e, at_most p was))

    abbrev gain : ℕ
    gain = now.terminals - was.terminals

    anchored : now ≡ more gain was
    unfolding with_terminals
    anchored =
        let e : now.terminals ≡ gain + was.terminals = omega (arith, gained) in
        λ i. record { one = (back i).one; two = (back i).two; terminals = e i; side = (back i).side }

    a-round : iterate p (paired_on f) now ≡ more gain now
    a-round = ap (iterate p (paired_on f)) anchored ∙ iterate-commutes (paired_on f) (more gain) (apart gain) p was ∙ ap (more gain) (sym present)

    -- where q rounds and r clocks from now end
    whole : (q r : ℕ) → iterate (q * p + r) (paired_on f) now ≡ iterate r (paired_on f) (with_terminals now (after_rounds q was.terminals now.terminals))
    whole q r =
        iterate-add (q * p) r (paired_on f) now
        ∙ ap (iterate r (paired_on f)) (only-rounds (paired_on f) (more gain) (apart gain) p now a-round q ∙ tops q gain now)

-- q rounds of at most p terminals leave the room that they had
fits : (q p was now r left : ℕ) → q * p + r ≡ left → now - was ≤ p → now + left ≤ 4294967295 → after_rounds q was now + r ≤ 4294967295
fits q p was now r left e h room = omega (arith, e, mul-le-mul_left q h, room)

module _ (f : Stage) (c : Chase) (h : Holds f c) (back : with_terminals c.now c.anchor.terminals ≡ c.anchor) where
  -- what the terminals gained since the anchor
  pub gains : (c.anchor.terminals ≤ c.now.terminals) × (c.now.terminals - c.anchor.terminals ≤ c.since)
  gains = gained f c.anchor c.now c.since h.present back

  -- the terminals after the rounds that are left, and the clocks after them
  pub afterwards : after_rounds (c.left / c.since) c.anchor.terminals c.now.terminals + c.left % c.since ≤ 4294967295
  afterwards =
      fits (c.left / c.since) c.since c.anchor.terminals c.now.terminals (c.left % c.since) c.left (div-add-mod' c.left c.since) gains.1
      h.room

  -- all whole rounds that are left
  pub around : (r : Chase) → r.now ≡ with_terminals c.now (after_rounds (c.left / c.since) c.anchor.terminals c.now.terminals) → r.anchor ≡ r.now
      → r.since ≡ 0 → r.left ≡ c.left % c.since → Follows f c r
  unfolding end_of iterate with_terminals
  around r now anchor since left =
      record {
        end = ap₂ (λ (n : ℕ) (x : Pair). iterate n (paired_on f) x) left now
            ∙ sym (whole f c.anchor c.now c.since h.present back (c.left / c.since) (c.left % c.since))
            ∙ ap (λ (n : ℕ). iterate n (paired_on f) c.now) (div-add-mod' c.left c.since);
        holds = record {
          present = sym anchor ∙ ap (λ (n : ℕ). iterate n (paired_on f) r.anchor) (sym since);
          time = omega (arith, mod-le c.left c.since, h.time, since, left);
          room = omega (arith, ap (λ (x : Pair). x.terminals) now, afterwards, left);
        };
        left = omega (arith, mod-le c.left c.since, left);
      }
