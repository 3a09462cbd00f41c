-- What holds of one source's waits: a step or clock keeps it, and so does a K.
-- Assumes nothing.
use Rattle.std.proofs.Common.{◌≡◌, ℕ, suc, ◌+◌, ◌-◌, ◌*◌, ◌^◌, ◌<◌, ◌≤◌, Bool, true, false, Option, Some, None, IfSome, cond, eqb, ltb, refl, ap, ◌∙◌, le_trans, add-le-add, mod-eq_of_lt, add-mul, mul-le-mul_left, one-mul, zero-mul, arith, ltb-false, ltb-true, eqb-true}
use Rattle.std.proofs.lemmas.Option.{IfSome_then}
use mathlib.Core.Bool.{false≢true}
use Rattle.basics.proofs.Tests.{by-test}
use Rattle.measure.specs.declared.Wait.{Wait}
use Rattle.measure.specs.Wait.{none, begun, dropped, moved, sum64, least_with, greatest_with, added, counted}
use Rattle.measure.specs.Measure.{most_clocks}
use Rattle.measure.specs.Kept.{lasted_since, Fair}

pub none-fair : (events now : ℕ) (ip : Bool) → Fair events now ip none
none-fair events now ip =
    record {
      stands = λ p. absurd (false≢true p);
      since = tt;
      apart = omega arith;
      order = omega arith;
      low = omega arith;
      high = omega arith;
      few = omega arith;
      zeros = λ _. refl;
    }

-- ---- a step or clock, at whose end the trace has `later` clocks
lasts_on : (o : Option ℕ) (sum now later : ℕ) → IfSome o (λ from. from ≤ now) → now ≤ later → sum + lasted_since o now ≤ now
    → sum + lasted_since o later ≤ later
lasts_on (Some from) sum now later s l h = omega arith
lasts_on None sum now later s l h = omega arith

module _ (events now later : ℕ) (was : Bool) (w : Wait) (l : now ≤ later) (h : Fair events now was w) where
  dropped-fair : (ip : Bool) → Fair events later ip (dropped w)
  dropped-fair ip =
      record {
        stands = λ p. absurd (false≢true p);
        since = tt;
        apart = omega (arith, h.apart);
        order = h.order;
        low = h.low;
        high = h.high;
        few = h.few;
        zeros = h.zeros;
      }

  begun-fair : Fair events later true (begun later w)
  begun-fair =
      record {
        stands = λ _. refl;
        since = omega arith;
        apart = omega (arith, h.apart);
        order = h.order;
        low = h.low;
        high = h.high;
        few = h.few;
        zeros = h.zeros;
      }

  runs-fair : Fair events later true w
  runs-fair =
      record {
        stands = λ _. refl;
        since = IfSome_then w.since h.since (λ from p. omega arith);
        apart = lasts_on w.since w.sum now later h.since l h.apart;
        order = h.order;
        low = h.low;
        high = h.high;
        few = h.few;
        zeros = h.zeros;
      }

pub moved-fair : (events now later : ℕ) (was cleared is : Bool) (w : Wait) → now ≤ later → Fair events now was w
    → Fair events later is (moved was cleared is later w)
unfolding moved
moved-fair events now later was cleared false w l h = dropped-fair events now later was w l h false
moved-fair events now later false cleared true w l h = begun-fair events now later false w l h
moved-fair events now later true true true w l h = begun-fair events now later true w l h
moved-fair events now later true false true w l h = runs-fair events now later true w l h

-- ---- an event more
pub more-fair : (events now : ℕ) (ip : Bool) (w : Wait) → Fair events now ip w → Fair (suc events) now ip w
more-fair events now ip w h =
    record {
      stands = h.stands;
      since = h.since;
      apart = h.apart;
      order = h.order;
      low = h.low;
      high = h.high;
      few = omega (arith, h.few);
      zeros = h.zeros;
    }

-- ---- a K
module _ (n : ℕ) (w : Wait) where
  least_by : (P : ℕ → Type 0) → (w.acknowledged ≡ 0 → P n) → (n < w.least → P n) → (w.least ≤ n → P w.least) → P (least_with n w)
  unfolding least_with
  least_by P f g h =
      by-test P (eqb w.acknowledged 0) n (cond (ltb n w.least) n w.least) (λ t. f (eqb-true _ _ t))
      (λ _. by-test P (ltb n w.least) n w.least (λ t. g (ltb-true _ _ t)) (λ t. h (ltb-false _ _ t)))

  greatest-by : (P : ℕ → Type 0) → (w.greatest < n → P n) → (n ≤ w.greatest → P w.greatest) → P (greatest_with n w)
  unfolding greatest_with
  greatest-by P f g = by-test P (ltb w.greatest n) n w.greatest (λ t. f (ltb-true _ _ t)) (λ t. g (ltb-false _ _ t))

  least-le : least_with n w ≤ n
  least-le = least_by (λ (x : ℕ). x ≤ n) (λ _. omega arith) (λ _. omega arith) (λ l. l)

  greatest-ge : n ≤ greatest_with n w
  greatest-ge = greatest-by (λ (x : ℕ). n ≤ x) (λ _. omega arith) (λ l. l)

  least-low : w.acknowledged * least_with n w ≤ w.acknowledged * w.least
  least-low =
      let a = w.acknowledged in
      least_by (λ (x : ℕ). a * x ≤ a * w.least) (λ z. rw (z, zero-mul n) (omega arith)) (λ l. mul-le-mul_left a (omega arith)) (λ _. omega arith)

  greatest-high : w.acknowledged * w.greatest ≤ w.acknowledged * greatest_with n w
  greatest-high =
      mul-le-mul_left w.acknowledged (greatest-by (λ (x : ℕ). w.greatest ≤ x) (λ l. omega arith) (λ _. omega arith))

one_more : (a x : ℕ) → (a + 1) * x ≡ a * x + x
one_more a x = add-mul a 1 x ∙ ap (λ (y : ℕ). a * x + y) (one-mul x)

-- within 64 bits a sum is the sum
pub exact : (a b : ℕ) → a + b < 2 ^ 64 → sum64 a b ≡ a + b
exact a b h = mod-eq_of_lt h

module _ (events now : ℕ) (ip : Bool) (w : Wait) (c : now ≤ most_clocks) (e : suc events < 2 ^ 64) (h : Fair events now ip w) where
  -- no number wraps
  pub count-exact : sum64 w.acknowledged 1 ≡ w.acknowledged + 1
  count-exact = exact w.acknowledged 1 (omega (arith, h.few))

  module _ (from : ℕ) (r : w.since ≡ Some from) where
    within : w.sum + (now - from) ≤ now
    within = simp r at h.apart

    pub sum-exact : sum64 w.sum (now - from) ≡ w.sum + (now - from)
    sum-exact = exact w.sum (now - from) (omega (arith, within))

    added-fair : Fair (suc events) now ip (added (now - from) w)
    added-fair =
        let n = now - from in
        let a = w.acknowledged in
        record {
          stands = λ p. absurd (false≢true p);
          since = tt;
          apart = rw sum-exact (omega (arith, within));
          order = le_trans (least-le n w) (greatest-ge n w);
          low = rw (count-exact, sum-exact, one_more a (least_with n w)) (add-le-add (le_trans (least-low n w) h.low) (least-le n w));
          high = rw (count-exact, sum-exact, one_more a (greatest_with n w)) (add-le-add (le_trans h.high (greatest-high n w)) (greatest-ge n w));
          few = rw count-exact (omega (arith, h.few));
          zeros = λ z. absurd (omega (arith, count-exact, z));
        }

  counted-by : (o : Option ℕ) → w.since ≡ o → Fair (suc events) now ip (counted now w)
  unfolding counted
  counted-by None r = simp r (more-fair events now ip w h)
  counted-by (Some from) r = simp r (added-fair from r)

  pub counted-fair : Fair (suc events) now ip (counted now w)
  counted-fair = counted-by _ refl
