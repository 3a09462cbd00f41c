-- A clock over what stays in a run is a clock of the device's pair.
-- Assumes nothing.
use Prim.Native.Nat.{ℕ, zero, suc, ◌+◌, ◌*◌, ◌%◌}
use mathlib.Core.Path.{◌≡◌, refl, sym, ap, ap₂, ◌∙◌}
use mathlib.Core.Bool.{Bool, true, false, not, ◌&&◌, cond}
use mathlib.Core.List.{List, [], ◌∷◌}
use lib.Dec.{eqb}
use lib.ListN.{get_or}
use Rattle.basics.specs.Byte.{num}
use Rattle.basics.specs.Iterate.{iterate}
use Rattle.basics.proofs.Tests.{by-test}
use Rattle.rules.specs.declared.Device.{Device}
use Rattle.rules.specs.declared.Counter.{Counter}
use Rattle.rules.specs.declared.Counted.{Counted}
use Rattle.rules.specs.declared.Reach.{Reach}
use Rattle.rules.specs.Record.{counter_at, idle}
use Rattle.rules.specs.With.{with_counters}
use Rattle.rules.specs.Counters.{continuous, square, takes, loaded, less_one, terminal_of, count_of, clocks, clocked_by, turn_of, pulse_of, output_of}
use Rattle.theorems.specs.declared.Pair.{Pair}
use Rattle.theorems.specs.Moving.{turn_in, link_by, side_by, seen_with, pair_of, paired_by}
use Rattle.theorems.proofs.Alike.{Alike, seen_alike}
use Rattle.linked.specs.Stage.{showing, shown_with, stage_of, turn_on, link_on, seen_on, side_on, paired_on}

-- ---- a counter's turn keeps its mode
abbrev Kept : Counter → Counted → Type 0
Kept c r = r.counter.mode ≡ c.mode

terminal-mode : (c : Counter) → (terminal_of c).mode ≡ c.mode
unfolding terminal_of
terminal-mode c =
    by-test (λ (e : Counter). e.mode ≡ c.mode) (square c && not c.half) _ _ (λ _. refl)
    (λ _. by-test (λ (e : Counter). e.mode ≡ c.mode) (continuous c) _ _ (λ _. refl) (λ _. refl))

count-mode : (n : ℕ) (c : Counter) → Kept c (count_of n c)
unfolding count_of
count-mode n c = by-test (Kept c) (eqb (less_one 65536 c.count) 0) _ _ (λ _. terminal-mode c) (λ _. refl)

clocked-mode : (n : ℕ) (c : Counter) → Kept c (clocked_by n c)
unfolding clocked_by
clocked-mode n c = by-test (Kept c) c.cip _ _ (λ _. count-mode n c) (λ _. refl)

turn-mode : (n : ℕ) (on : Bool) (r : Reach) (c : Counter) → Kept c (turn_of n on r c)
unfolding turn_of loaded
turn-mode n on r c =
    by-test (Kept c) (r.trigger && takes on c) _ _ (λ _. refl) (λ _. by-test (Kept c) (clocks on r c) _ _ (λ _. clocked-mode n c) (λ _. refl))

-- ---- a counter that shows v has the output v
all_same : (a b c v : Bool) → cond a (cond b v v) (cond c v v) ≡ v
all_same true true c v = refl
all_same true false c v = refl
all_same false b true v = refl
all_same false b false v = refl

shows : (n : ℕ) (v : Bool) (c : Counter) → output_of n (showing v c) ≡ v
unfolding output_of pulse_of showing
shows n true c = all_same (eqb (c.mode % 4) 0) (eqb n 1) (eqb (c.mode % 4) 1) true
shows n false c = all_same (eqb (c.mode % 4) 0) (eqb n 1) (eqb (c.mode % 4) 1) false

-- ---- what Port B sees goes by the outputs of CT1 and CT2
module _ (d : Device) where
  -- the counters of a run, and those in their place that show the same
  abbrev row : Counter → Counter → List Counter
  row one two = one ∷ two ∷ counter_at d 2 ∷ []

  abbrev shown : Counter → Counter → List Counter
  shown one two = row (showing (output_of d.version one) (counter_at d 0)) (showing (output_of d.version two) (counter_at d 1))

  -- with the device's modes
  record Modes (one two : Counter) : Type 0 where
    first : one.mode ≡ (counter_at d 0).mode
    second : two.mode ≡ (counter_at d 1).mode

  same-mode : (one two : Counter) → Modes one two → (i : ℕ) → (get_or (row one two) i idle).mode ≡ (get_or (shown one two) i idle).mode
  unfolding showing
  same-mode one two m zero = m.first
  same-mode one two m (suc zero) = m.second
  same-mode one two m (suc (suc zero)) = refl
  same-mode one two m (suc (suc (suc i))) = refl

  same-output : (one two : Counter) (i : ℕ) → output_of d.version (get_or (row one two) i idle) ≡ output_of d.version (get_or (shown one two) i idle)
  same-output one two zero = sym (shows d.version (output_of d.version one) (counter_at d 0))
  same-output one two (suc zero) = sym (shows d.version (output_of d.version two) (counter_at d 1))
  same-output one two (suc (suc zero)) = refl
  same-output one two (suc (suc (suc i))) = refl

  of_four : (a b : Bool) → shown_with d a b ≡ get_or (stage_of d).seen (2 * num a + num b) 0
  unfolding stage_of
  of_four true true = refl
  of_four true false = refl
  of_four false true = refl
  of_four false false = refl

  same_seen : (one two : Counter) → Modes one two → seen_with d one two ≡ seen_on (stage_of d) one two
  unfolding seen_with seen_on shown_with stage_of
  same_seen one two m =
      let alike : Alike d.version (shown one two) (row one two) = record { mode = same-mode one two m; output = same-output one two } in
      seen_alike (with_counters d (shown one two)) (row one two) alike 1 ∙ of_four (output_of d.version one) (output_of d.version two)

  -- ---- one clock, and k of them
  abbrev Kind : Pair → Type 0
  Kind x = Modes x.one x.two

  kept : (x : Pair) → Kind x → Kind (paired_by d x)
  unfolding paired_by turn_in
  kept x m = record { first = turn-mode _ _ _ _ ∙ m.first; second = turn-mode _ _ _ _ ∙ m.second }

  same : (x : Pair) → Kind x → paired_on (stage_of d) x ≡ paired_by d x
  unfolding paired_on paired_by turn_on turn_in link_on link_by side_on side_by stage_of
  same x m =
      sym (ap₂ (λ (n o : ℕ). record { one = (paired_by d x).one; two = (paired_by d x).two; terminals = (paired_by d x).terminals; side = side_by d 1 n o x.side })
      (same_seen x.one x.two m) (same_seen (paired_by d x).one (paired_by d x).two (kept x m)))

  kept-all : (k : ℕ) → Kind (iterate k (paired_by d) (pair_of d))
  unfolding iterate pair_of
  kept-all zero = record { first = refl; second = refl }
  kept-all (suc k) = kept _ (kept-all k)

  pub bridge : (k : ℕ) → iterate k (paired_on (stage_of d)) (pair_of d) ≡ iterate k (paired_by d) (pair_of d)
  unfolding iterate
  bridge zero = refl
  bridge (suc k) = ap (paired_on (stage_of d)) (bridge k) ∙ same _ (kept-all k)
