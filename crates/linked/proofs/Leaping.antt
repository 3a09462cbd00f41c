-- Leaps: what the tests before them say, and a stretch of clocks as one leap.
-- Assumes nothing.
use Prim.Native.Nat.{ℕ, zero, suc, ◌+◌, ◌≤◌, ◌<◌}
use mathlib.Core.Path.{◌≡◌, refl, sym, ◌∙◌}
use mathlib.Core.Bool.{Bool, true, ◌&&◌, beq}
use mathlib.Core.List.{List, [], ◌∷◌}
use native.Mathlib.Omega.{arith}
use lib.ListN.{get_or}
use lib.Dec.{eqb, ltb}
use borrow.Author.Tests.{eqb-true, ltb-true}
use Rattle.basics.proofs.Tests.{left, right, both, triple}
use Rattle.rules.specs.declared.Counter.{Counter}
use Rattle.rules.specs.declared.Source.{Source}
use Rattle.rules.specs.Sound.{same_source, same_counter}
use Rattle.theorems.specs.declared.Side.{Side}
use Rattle.theorems.specs.declared.Pair.{Pair}
use Rattle.theorems.proofs.Equal.{beq-true, same_source_lem, same-counter}
use Rattle.linked.specs.declared.stage.Stage.{Stage}
use Rattle.linked.specs.declared.chase.Moves.{Moves}
use Rattle.linked.specs.Stage.{paired_on}
use Rattle.linked.specs.Chase.{lowered_of, with_terminals, Above, Leaps}
use Rattle.linked.proofs.Stretch.{stretch}

-- ---- what a test finds the same is equal: two sides; two pairs, their terminals apart
pub same-sides : (x y : Side) (s : Bool) → s ≡ same_source x.source y.source → (beq x.pmf y.pmf && s) ≡ true → x ≡ y
same-sides x y s is e =
    let f = beq-true x.pmf y.pmf (left _ s e) in
    let g = same_source_lem x.source y.source (sym is ∙ right (beq x.pmf y.pmf) s e) in
    λ i. record { pmf = f i; source = g i }

pub back-pairs : (x y : Pair) (a b s : Bool) → a ≡ same_counter x.one y.one → b ≡ same_counter x.two y.two → (s ≡ true → x.side ≡ y.side)
    → (a && b && s) ≡ true → with_terminals x y.terminals ≡ y
unfolding with_terminals
back-pairs x y a b s p q r e =
    let all = triple a b s e in
    let f = same-counter x.one y.one (sym p ∙ all.0) in
    let g = same-counter x.two y.two (sym q ∙ all.1) in
    let h = r all.2 in
    λ i. record { one = f i; two = g i; terminals = y.terminals; side = h i }

-- ---- two that the derived test finds the same, field by field, are equal
abbrev tested : Bool → List Bool → Bool
tested a [] = a
tested a (b ∷ l) = a && tested b l

field : (a : Bool) (l : List Bool) → tested a l ≡ true → (i : ℕ) → get_or (a ∷ l) i true ≡ true
field a [] h zero = h
field a [] h (suc i) = refl
field a (b ∷ l) h zero = left a (tested b l) h
field a (b ∷ l) h (suc i) = field b l (right a (tested b l) h) i

abbrev source-tests : Source → Source → List Bool
source-tests s t = beq s.ie t.ie ∷ beq s.ip t.ip ∷ beq s.err t.err ∷ beq s.hidden t.hidden ∷ []

same-sources : (s t : Source) → tested (beq s.ius t.ius) (source-tests s t) ≡ true → s ≡ t
same-sources s t h =
    let f = field (beq s.ius t.ius) (source-tests s t) h in
    λ i. record { ius = beq-true _ _ (f 0) i; ie = beq-true _ _ (f 1) i; ip = beq-true _ _ (f 2) i; err = beq-true _ _ (f 3) i; hidden = beq-true _ _ (f 4) i }

abbrev counter-tests : Counter → Counter → List Bool
counter-tests c e =
    eqb c.constant e.constant ∷ eqb c.count e.count ∷ eqb c.frozen e.frozen
    ∷ beq c.rcc e.rcc ∷ beq c.gcb e.gcb ∷ beq c.cip e.cip ∷ beq c.half e.half ∷ beq c.pulse e.pulse ∷ []

same-counters : (c e : Counter) → tested (eqb c.mode e.mode) (counter-tests c e) ≡ true → c ≡ e
same-counters c e h =
    let f = field (eqb c.mode e.mode) (counter-tests c e) h in
    λ i. record {
      mode = eqb-true _ _ (f 0) i;
      constant = eqb-true _ _ (f 1) i;
      count = eqb-true _ _ (f 2) i;
      frozen = eqb-true _ _ (f 3) i;
      rcc = beq-true _ _ (f 4) i;
      gcb = beq-true _ _ (f 5) i;
      cip = beq-true _ _ (f 6) i;
      half = beq-true _ _ (f 7) i;
      pulse = beq-true _ _ (f 8) i;
    }

abbrev pair-tests : Pair → Pair → List Bool
pair-tests x y =
    tested (eqb x.two.mode y.two.mode) (counter-tests x.two y.two) ∷ eqb x.terminals y.terminals
    ∷ tested (beq x.side.pmf y.side.pmf) (tested (beq x.side.source.ius y.side.source.ius) (source-tests x.side.source y.side.source) ∷ []) ∷ []

pub same-pairs : (x y : Pair) → tested (tested (eqb x.one.mode y.one.mode) (counter-tests x.one y.one)) (pair-tests x y) ≡ true → x ≡ y
same-pairs x y h =
    let f = field (tested (eqb x.one.mode y.one.mode) (counter-tests x.one y.one)) (pair-tests x y) h in
    let side = both (beq x.side.pmf y.side.pmf) _ (f 3) in
    λ i. record {
      one = same-counters x.one y.one (f 0) i;
      two = same-counters x.two y.two (f 1) i;
      terminals = eqb-true _ _ (f 2) i;
      side = record { pmf = beq-true _ _ side.0 i; source = same-sources x.side.source y.side.source side.1 i };
    }

-- a test of two, of which the second is a bound
pub above : (b : Bool) (n : ℕ) → (b && ltb 2 n) ≡ true → 3 ≤ n
above b n e = ltb-true 2 n (right b (ltb 2 n) e)

-- ---- bounds of the counters that move
-- the room of the two counters, one after the other
abbrev Roomed : ℕ → Bool → Counter → ℕ → Type 0
Roomed most moves c k = (k ≤ most) × (moves ≡ true → k + 2 ≤ c.count) × (0 < most → 0 < k) × (c.count < 65536)

module _ (f : Stage) (m : Moves) (x : Pair) (left j k : ℕ) (first : Roomed left m.one x.one j) (second : Roomed j m.two x.two k) where
  pub roomed : Above (k + 2) m x
  roomed = record { one = λ e. omega (arith, first.1 e, second.0); two = λ e. second.1 e }

  pub far-leaps : 0 < left → Above 3 m x → paired_on f x ≡ lowered_of 1 m x → (y : Pair) → y ≡ lowered_of k m x
      → Leaps f x left (record { pair = y; clocks = k })
  far-leaps some three seen y is =
      record {
        pair = is ∙ sym (stretch f m x first.3 second.3 three.one three.two seen k roomed.one roomed.two);
        some = second.2 (first.2 some);
        within = omega (arith, first.0, second.0);
      }
