-- A count that goes down one by one modulo m and is reloaded at 0, by division: over any modulus.
-- Assumes nothing.
use Prim.Native.Nat.{ℕ, zero, suc, ◌+◌, ◌-◌, ◌*◌, ◌/◌, ◌%◌, ◌≤◌, ◌<◌}
use mathlib.Core.Path.{◌≡◌, refl, sym, ap, ◌∙◌}
use mathlib.Core.Bool.{true, ◌&&◌, cond, and-false}
use mathlib.Core.Logic.{◌⊎◌, inl, inr, ⊎_elim}
use native.Mathlib.Nat.{zero-mul, suc-mul, zero-add, eq-or-lt_of_le, mod-eq_of_lt, mod_self, add-mod_right}
use native.Mathlib.Numerals.{add-one, one-add}
use native.Mathlib.Omega.{arith}
use lib.Arith.{digits_div, digits_mod}
use lib.Dec.{eqb, leb}
use borrow.Author.Tests.{eqb-true, ne_eqb, lt-ltb, le-ltb, lt-leb, le-leb}
use Rattle.rules.specs.Counters.{less_one}
use Rattle.basics.specs.Iterate.{iterate}
use Rattle.theorems.specs.Free.{full_of, terminals_after, count_after}

-- a count and the terminals so far, after one count: one less modulo m; reaching 0 is terminal and reloads t
unfoldable pub countdown : ℕ → ℕ → ℕ × ℕ → ℕ × ℕ
countdown m t s = cond (eqb (less_one m s.0) 0) (t, s.1 + 1) (less_one m s.0, s.1)

-- ---- 0 read as m
full-cases : (m n : ℕ) → ((n ≡ 0) × (full_of m n ≡ m)) ⊎ ((1 ≤ n) × (full_of m n ≡ n))
unfolding full_of
full-cases m zero = inl (refl, refl)
full-cases m (suc n) = inr (omega arith, simp (ne_eqb (suc n) 0 (λ e. omega arith)))

module _ (m n : ℕ) (h : n < m) where
  pub full-pos : 1 ≤ full_of m n
  full-pos = ⊎_elim (λ w. omega arith) (λ w. omega arith) (full-cases m n)

  full-le : full_of m n ≤ m
  full-le = ⊎_elim (λ w. omega arith) (λ w. omega arith) (full-cases m n)

  full-mod : full_of m n % m ≡ n
  full-mod =
      ⊎_elim (λ w. ap (λ (x : ℕ). x % m) w.1 ∙ mod_self m ∙ sym w.0) (λ w. ap (λ (x : ℕ). x % m) w.1 ∙ mod-eq_of_lt h) (full-cases m n)

-- one less of q to go
less-one : (m q : ℕ) → 1 ≤ q → q ≤ m → less_one m (q % m) ≡ q - 1
less-one m q h g =
    ⊎_elim
    (λ (e : q ≡ m).
    let z : q % m ≡ 0 = ap (λ (x : ℕ). x % m) e ∙ mod_self m in
    ap (λ (x : ℕ). (x + (m - 1)) % m) z ∙ ap (λ (x : ℕ). x % m) (zero-add (m - 1)) ∙ mod-eq_of_lt (omega arith) ∙ omega arith)
    (λ (l : q < m).
    let s : q + (m - 1) ≡ (q - 1) + m = omega arith in
    ap (λ (x : ℕ). (x + (m - 1)) % m) (mod-eq_of_lt l) ∙ ap (λ (x : ℕ). x % m) s ∙ add-mod_right (q - 1) m ∙ mod-eq_of_lt (omega arith))
    (eq-or-lt_of_le g)

module _ (m c t : ℕ) (hc : c < m) (ht : t < m) where
  step-more : (q p : ℕ) → 2 ≤ q → q ≤ m → countdown m t (q % m, p) ≡ ((q - 1) % m, p)
  unfolding countdown
  step-more q p h g =
      let e = less-one m q (omega arith) g in
      let ne : (q - 1 ≡ 0 → ⊥) = λ z. omega arith in
      let w : (q - 1) % m ≡ q - 1 = mod-eq_of_lt (omega arith) in
      simp (e, ne_eqb (q - 1) 0 ne, w)

  step-last : (p : ℕ) → countdown m t (1 % m, p) ≡ (full_of m t % m, suc p)
  unfolding countdown
  step-last p =
      let e = less-one m 1 (omega arith) (omega arith) in
      simp (e, full-mod m t ht, add-one)

  -- after k counts: q to go, after p terminals
  record Reached (k : ℕ) (s : ℕ × ℕ) : Type 0 where
    q : ℕ
    p : ℕ
    state : s ≡ (q % m, p)
    sum : k + q ≡ full_of m c + p * full_of m t
    pos : 1 ≤ q
    bound : ((p ≡ 0) × (q ≤ full_of m c)) ⊎ ((1 ≤ p) × (q ≤ full_of m t))

  small : (k : ℕ) (s : ℕ × ℕ) (r : Reached k s) → r.q ≤ m
  small k s r =
      ⊎_elim (λ w. omega (arith, full-le m c hc)) (λ w. omega (arith, full-le m t ht)) r.bound

  next : (k : ℕ) (s : ℕ × ℕ) → Reached k s → Reached (suc k) (countdown m t s)
  next k s r =
      ⊎_elim
      (λ (e : 1 ≡ r.q).
      record {
        q = full_of m t;
        p = suc r.p;
        state = ap (countdown m t) (r.state ∙ ap (λ (q : ℕ). (q % m, r.p)) (sym e)) ∙ step-last r.p;
        sum = omega (arith, r.sum, e, suc-mul r.p (full_of m t));
        pos = full-pos m t ht;
        bound = inr (omega arith, omega arith);
      })
      (λ (g : 1 < r.q).
      record {
        q = r.q - 1;
        p = r.p;
        state = ap (countdown m t) r.state ∙ step-more r.q r.p (omega arith) (small k s r);
        sum = omega (arith, r.sum);
        pos = omega arith;
        bound = ⊎_elim (λ w. inl (w.0, omega arith)) (λ w. inr (w.0, omega arith)) r.bound;
      })
      (eq-or-lt_of_le r.pos)

  reached : (k : ℕ) → Reached k (iterate k (countdown m t) (c, 0))
  unfolding iterate
  reached zero =
      record {
        q = full_of m c;
        p = 0;
        state = ap (λ (x : ℕ). (x, 0)) (sym (full-mod m c hc));
        sum = omega (arith, zero-mul (full_of m t));
        pos = full-pos m c hc;
        bound = inl (refl, omega arith);
      }
  reached (suc k) = next k (iterate k (countdown m t) (c, 0)) (reached k)

  -- only here one divides
  finish : (k q p : ℕ) → k + q ≡ full_of m c + p * full_of m t → 1 ≤ q
      → ((p ≡ 0) × (q ≤ full_of m c)) ⊎ ((1 ≤ p) × (q ≤ full_of m t))
      → (q ≡ count_after (full_of m c) (full_of m t) k) × (p ≡ terminals_after (full_of m c) (full_of m t) k)
  unfolding count_after terminals_after
  finish k q zero sum pos b =
      let z = zero-mul (full_of m t) in
      let e : q ≡ full_of m c - k = omega arith in
      let h : k < full_of m c = omega arith in
      (simp (lt-ltb k (full_of m c) h) e, simp (lt-ltb k (full_of m c) h))
  finish k q (suc p) sum pos b =
      let s = suc-mul p (full_of m t) in
      let g : q ≤ full_of m t = ⊎_elim (λ w. omega arith) (λ w. w.1) b in
      let d : k - full_of m c ≡ p * full_of m t + (full_of m t - q) = omega arith in
      let l : full_of m t - q < full_of m t = omega arith in
      let v : (k - full_of m c) / full_of m t ≡ p = ap (λ (x : ℕ). x / full_of m t) d ∙ digits_div p l in
      let r : (k - full_of m c) % full_of m t ≡ full_of m t - q = ap (λ (x : ℕ). x % full_of m t) d ∙ digits_mod p l in
      let u : full_of m t - (full_of m t - q) ≡ q = omega arith in
      let h : full_of m c ≤ k = omega arith in
      (simp (le-ltb k (full_of m c) h, r, u), simp (le-ltb k (full_of m c) h, v, one-add))

  -- whether one count more is terminal
  last : (k q p : ℕ) → k + q ≡ full_of m c + p * full_of m t → 1 ≤ q → ((p ≡ 0) × (q ≤ full_of m c)) ⊎ ((1 ≤ p) × (q ≤ full_of m t))
      → eqb (q - 1) 0 ≡ (leb (full_of m c) (suc k) && eqb ((suc k - full_of m c) % full_of m t) 0)
  last k (suc zero) p sum pos b =
      let h : full_of m c ≤ suc k = omega arith in
      let e : suc k - full_of m c ≡ p * full_of m t + 0 = omega arith in
      let r : (suc k - full_of m c) % full_of m t ≡ 0 = ap (λ (x : ℕ). x % full_of m t) e ∙ digits_mod p (full-pos m t ht) in
      sym (simp (le-leb (full_of m c) (suc k) h, r))
  last k zero p sum pos b = elim pos [ ]
  last k (suc (suc q)) zero sum pos b =
      let z = zero-mul (full_of m t) in
      let h : suc k < full_of m c = omega arith in
      let e : (suc (suc q) - 1 ≡ 0 → ⊥) = λ x. omega arith in
      simp (ne_eqb (suc (suc q) - 1) 0 e, lt-leb (full_of m c) (suc k) h)
  last k (suc (suc q)) (suc p) sum pos b =
      let s = suc-mul p (full_of m t) in
      let g : suc (suc q) ≤ full_of m t = ⊎_elim (λ w. omega arith) (λ w. w.1) b in
      let d : suc k - full_of m c ≡ p * full_of m t + (full_of m t - suc q) = omega arith in
      let r : (suc k - full_of m c) % full_of m t ≡ full_of m t - suc q = ap (λ (x : ℕ). x % full_of m t) d ∙ digits_mod p (omega arith) in
      let e : (suc (suc q) - 1 ≡ 0 → ⊥) = λ x. omega arith in
      let f : (full_of m t - suc q ≡ 0 → ⊥) = λ x. omega arith in
      simp (ne_eqb (suc (suc q) - 1) 0 e, r, ne_eqb (full_of m t - suc q) 0 f, and-false)

  pub last-by-division : (k : ℕ)
      → eqb (less_one m (iterate k (countdown m t) (c, 0)).0) 0 ≡ (leb (full_of m c) (suc k) && eqb ((suc k - full_of m c) % full_of m t) 0)
  last-by-division k =
      let r = reached k in
      ap (λ (n : ℕ). eqb (less_one m n) 0) (ap (λ (s : ℕ × ℕ). s.0) r.state)
      ∙ ap (λ (n : ℕ). eqb n 0) (less-one m r.q r.pos (small k _ r)) ∙ last k r.q r.p r.sum r.pos r.bound

  -- and which count that is
  pub last-clock : (k : ℕ) → eqb (less_one m (iterate k (countdown m t) (c, 0)).0) 0 ≡ true
      → suc k ≡ full_of m c + (iterate k (countdown m t) (c, 0)).1 * full_of m t
  last-clock k e =
      let r = reached k in
      let less = ap (λ (s : ℕ × ℕ). less_one m s.0) r.state ∙ less-one m r.q r.pos (small k _ r) in
      let none : r.q - 1 ≡ 0 = sym less ∙ eqb-true _ 0 e in
      let one : suc k ≡ k + r.q = omega (arith, none, r.pos) in
      one ∙ r.sum ∙ ap (λ (s : ℕ × ℕ). full_of m c + s.1 * full_of m t) (sym r.state)

  -- k counts by division, "Counts are written modulo" m
  pub counts-by-division : (k : ℕ)
      → iterate k (countdown m t) (c, 0) ≡ (count_after (full_of m c) (full_of m t) k % m, terminals_after (full_of m c) (full_of m t) k)
  counts-by-division k =
      let r = reached k in
      let f = finish k r.q r.p r.sum r.pos r.bound in
      r.state ∙ ap (λ (q : ℕ). (q % m, r.p)) f.0 ∙ ap (λ (p : ℕ). (count_after (full_of m c) (full_of m t) k % m, p)) f.1
