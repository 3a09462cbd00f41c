-- Where a clock only takes one from some counts, and these stay above 1 for k counts, k clocks only take k.
-- Assumes nothing.
use Prim.Native.Nat.{ℕ, zero, suc, ◌+◌, ◌*◌, ◌≤◌, ◌<◌}
use mathlib.Core.Path.{◌≡◌, refl, sym, ap, ap₂, ◌∙◌}
use mathlib.Core.Bool.{Bool, true, false, ◌&&◌, and-false, not-and_self}
use native.Mathlib.Nat.{add-zero}
use native.Mathlib.Omega.{arith}
use lib.ListN.{get_or}
use borrow.Author.Tests.{ne_eqb}
use Rattle.rules.specs.declared.Counter.{Counter}
use Rattle.rules.specs.declared.Counted.{Counted}
use Rattle.rules.specs.declared.Link.{Link}
use Rattle.rules.specs.declared.Reach.{Reach}
use Rattle.basics.specs.Byte.{num}
use Rattle.basics.specs.Iterate.{iterate}
use Rattle.rules.specs.Counters.{takes, less_one, count_of, clocks, clocked_by, output_of, unlinked, link_of, reach_of, turn_of}
use Rattle.theorems.specs.declared.Pair.{Pair}
use Rattle.theorems.specs.Stretch.{lower_of}
use Rattle.theorems.proofs.Lowered.{quietly, Room, lower-output, lower-zero, again}
use Rattle.linked.specs.declared.stage.Stage.{Stage}
use Rattle.linked.specs.declared.chase.Moves.{Moves}
use Rattle.linked.specs.Stage.{turn_on, link_on, seen_on, side_on, paired_on}
use Rattle.linked.specs.Chase.{lowered_of}

-- ---- a counter that stands at 2 or more has no terminal in its turn
quiet_by : (n : ℕ) (on : Bool) (r : Reach) (c : Counter) (loads comes runs : Bool)
    → (r.trigger && takes on c) ≡ loads → clocks on r c ≡ comes → c.cip ≡ runs → (less_one 65536 c.count ≡ 0 → ⊥) → (turn_of n on r c).terminal ≡ false
unfolding turn_of clocked_by count_of
quiet_by n on r c true comes runs p q e z = simp p
quiet_by n on r c false true true p q e z = simp (p, q, e, ne_eqb _ 0 z)
quiet_by n on r c false true false p q e z = simp (p, q, e)
quiet_by n on r c false false runs p q e z = simp (p, q)

turn-quiet : (n : ℕ) (on : Bool) (r : Reach) (c : Counter) → 2 ≤ c.count → c.count < 65536 → (turn_of n on r c).terminal ≡ false
turn-quiet n on r c low small = quiet_by n on r c _ _ _ refl refl refl (λ z. omega arith)

-- an output that stays triggers nothing
no-trigger : (n : ℕ) (o : Bool) → (link_of n o o).trigger ≡ false
unfolding link_of
no-trigger n o = simp (not-and_self, and-false)

-- a clock that adds nothing to the terminals had none
none-added : (n : ℕ) (v : Bool) → n + num v ≡ n → v ≡ false
none-added n true e = absurd (omega arith)
none-added n false e = refl

-- ---- a clock by its turns
-- the pair after the turns of CT1, which leaves c, and of CT2
abbrev ended : Stage → Pair → Counter → Counted → Pair
ended f y c s =
    record {
      one = c;
      two = s.counter;
      terminals = y.terminals + num s.terminal;
      side = side_on f (seen_on f y.one y.two) (seen_on f c s.counter) y.side;
    }

abbrev second : Stage → Pair → Counter → Counted
second f y c = turn_on f 1 (link_on f y.one c) y.two

by-turns : (f : Stage) (y : Pair) → paired_on f y ≡ ended f y (turn_on f 0 unlinked y.one).counter (second f y (turn_on f 0 unlinked y.one).counter)
unfolding paired_on
by-turns f y = refl

-- ---- what is seen goes by the outputs alone
seen_by : (f : Stage) (b c d e : Counter) → output_of f.version b ≡ output_of f.version d → output_of f.version c ≡ output_of f.version e
    → seen_on f b c ≡ seen_on f d e
unfolding seen_on
seen_by f b c d e p q = ap₂ (λ (x y : Bool). get_or f.seen (2 * num x + num y) 0) p q

-- ---- CT1's turn that only takes one from its count, if it moves, does so again; if not, it is the same turn, terminal or not
one_again : (f : Stage) (v : Bool) (c : Counter) (j : ℕ) → c.count < 65536 → Room 1 v c → Room (suc j) v c
    → (turn_on f 0 unlinked c).counter ≡ lower_of 1 v c → (turn_on f 0 unlinked (lower_of j v c)).counter ≡ lower_of (suc j) v c
unfolding turn_on lower_of
one_again f false c j small one r p = p
one_again f true c j small one r p =
    let h = one refl in
    let t = turn-quiet f.version (get_or f.enabled 0 false) (reach_of c unlinked true (get_or f.lines 0 0) (get_or f.lines 0 0)) c (omega arith) small in
    ap (λ (r : Counted). r.counter)
    (again f.version (get_or f.enabled 0 false) unlinked (get_or f.lines 0 0) c refl small true j one r (λ i. record { counter = p i; terminal = t i }))

-- ---- CT2's, with a link that triggers nothing
two-again : (f : Stage) (k : Link) (v : Bool) (c : Counter) (j : ℕ) → k.trigger ≡ false → c.count < 65536 → Room 1 v c → Room (suc j) v c
    → turn_on f 1 k c ≡ quietly (lower_of 1 v c) → turn_on f 1 k (lower_of j v c) ≡ quietly (lower_of (suc j) v c)
unfolding turn_on
two-again f k v c j t small one r p = again f.version (get_or f.enabled 1 false) k (get_or f.lines 1 0) c t small v j one r p

module _ (f : Stage) (m : Moves) (x : Pair) (sx : x.one.count < 65536) (sy : x.two.count < 65536)
    (one : Room 1 m.one x.one) (two : Room 1 m.two x.two) (first : paired_on f x ≡ lowered_of 1 m x) where
  -- the output of either counter after j counts is what it was
  one-stays : (j : ℕ) → Room j m.one x.one → output_of f.version (lower_of j m.one x.one) ≡ output_of f.version x.one
  one-stays j r = lower-output f.version j m.one x.one r

  two-stays : (j : ℕ) → Room j m.two x.two → output_of f.version (lower_of j m.two x.two) ≡ output_of f.version x.two
  two-stays j r = lower-output f.version j m.two x.two r

  -- so the link is steady
  abbrev steady : Link
  steady = link_of f.lc (output_of f.version x.one) (output_of f.version x.one)

  linked : (i j : ℕ) → Room i m.one x.one → Room j m.one x.one → link_on f (lower_of i m.one x.one) (lower_of j m.one x.one) ≡ steady
  unfolding link_on
  linked i j r s = ap₂ (link_of f.lc) (one-stays i r) (one-stays j s)

  -- and Port B sees what it saw
  abbrev saw : ℕ
  saw = seen_on f x.one x.two

  sees : (j : ℕ) → Room j m.one x.one → Room j m.two x.two → seen_on f (lower_of j m.one x.one) (lower_of j m.two x.two) ≡ saw
  sees j r s = seen_by f _ _ _ _ (one-stays j r) (two-stays j s)

  -- ---- the first clock, part by part
  ones-turn : (turn_on f 0 unlinked x.one).counter ≡ lower_of 1 m.one x.one
  unfolding paired_on lowered_of
  ones-turn = ap (λ (y : Pair). y.one) first

  was-steady : link_on f x.one (turn_on f 0 unlinked x.one).counter ≡ steady
  unfolding link_on
  was-steady = ap (λ (c : Counter). link_of f.lc (output_of f.version x.one) (output_of f.version c)) ones-turn ∙ ap (link_of f.lc (output_of f.version x.one)) (one-stays 1 one)

  clock : ended f x (lower_of 1 m.one x.one) (turn_on f 1 steady x.two) ≡ lowered_of 1 m x
  clock = sym (ap₂ (λ (k : Link) (c : Counter). ended f x c (turn_on f 1 k x.two)) was-steady ones-turn) ∙ sym (by-turns f x) ∙ first

  twos-turn : turn_on f 1 steady x.two ≡ quietly (lower_of 1 m.two x.two)
  unfolding lowered_of
  twos-turn =
      let t = none-added x.terminals _ (ap (λ (y : Pair). y.terminals) clock) in
      λ i. record { counter = (clock i).two; terminal = t i }

  same-side : side_on f saw saw x.side ≡ x.side
  unfolding lowered_of
  same-side =
      sym (ap (λ (n : ℕ). side_on f saw n x.side) (ap (λ (s : Counted). seen_on f (lower_of 1 m.one x.one) s.counter) twos-turn ∙ sees 1 one two))
      ∙ ap (λ (y : Pair). y.side) clock

  -- ---- the clock after j counts
  module _ (j : ℕ) (r : Room (suc j) m.one x.one) (s : Room (suc j) m.two x.two) where
    fewer-one : Room j m.one x.one
    fewer-one e = omega (arith, r e)

    fewer-two : Room j m.two x.two
    fewer-two e = omega (arith, s e)

    next_one : (turn_on f 0 unlinked (lower_of j m.one x.one)).counter ≡ lower_of (suc j) m.one x.one
    next_one = one_again f m.one x.one j sx one r ones-turn

    next-two : turn_on f 1 (link_on f (lower_of j m.one x.one) (lower_of (suc j) m.one x.one)) (lower_of j m.two x.two) ≡ quietly (lower_of (suc j) m.two x.two)
    next-two =
        ap (λ (k : Link). turn_on f 1 k (lower_of j m.two x.two)) (linked j (suc j) fewer-one r)
        ∙ two-again f steady m.two x.two j (no-trigger f.lc (output_of f.version x.one)) sy two s twos-turn

    next-side : side_on f (seen_on f (lower_of j m.one x.one) (lower_of j m.two x.two)) (seen_on f (lower_of (suc j) m.one x.one) (lower_of (suc j) m.two x.two)) x.side
        ≡ x.side
    next-side = ap₂ (λ (u v : ℕ). side_on f u v x.side) (sees j fewer-one fewer-two) (sees (suc j) r s) ∙ same-side

    next : paired_on f (lowered_of j m x) ≡ lowered_of (suc j) m x
    unfolding lowered_of
    next =
        let y = lowered_of j m x in
        by-turns f y ∙ ap (λ (c : Counter). ended f y c (second f y c)) next_one ∙ ap (ended f y (lower_of (suc j) m.one x.one)) next-two
        ∙ (λ i. record { one = lower_of (suc j) m.one x.one; two = lower_of (suc j) m.two x.two; terminals = add-zero x.terminals i; side = next-side i })

  pub stretch : (k : ℕ) → Room k m.one x.one → Room k m.two x.two → iterate k (paired_on f) x ≡ lowered_of k m x
  unfolding iterate lowered_of
  stretch zero r s = sym (λ i. record { one = lower-zero m.one x.one i; two = lower-zero m.two x.two i; terminals = x.terminals; side = x.side })
  stretch (suc j) r s = ap (paired_on f) (stretch j (fewer-one j r s) (fewer-two j r s)) ∙ next j r s
