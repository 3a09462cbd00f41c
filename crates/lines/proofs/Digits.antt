-- Decimal digits read one after the other, up to the first that is none or goes past the most.
-- Assumes nothing.
use Rattle.std.specs.Prelude.{Option, Some, None}
use Prim.Native.Nat.{ℕ, ◌+◌, ◌*◌, ◌≤◌, ◌<◌}
use mathlib.Core.Bool.{Bool, true, false, ◌&&◌, cond}
use mathlib.Core.List.{List, [], ◌∷◌}
use mathlib.Core.Path.{◌≡◌, refl, sym, ap, ◌∙◌}
use native.Mathlib.Nat.{le_trans}
use native.Mathlib.Numerals.{add-one}
use native.Mathlib.Omega.{arith}
use borrow.Author.Tests.{lt-ltb, le-ltb, le-leb, lt-leb, ltb-true, ltb-false}
use lib.Dec.{leb, ltb}
use lib.ListN.{length, get_or, drop, drop_of_length-le}
use lib.Seq.{drop-cons}
use Rattle.lines.specs.Lines.{digit_of, all_decimal, value_of, clocks_in, below}

-- the same number, read as the code does
unfoldable pub read_on : ℕ → List ℕ → Option ℕ
read_on n [] = Some n
read_on n (d ∷ ds) =
    cond (ltb 9 (digit_of d)) None (cond (ltb 4294967295 (n * 10 + digit_of d)) None (read_on (n * 10 + digit_of d) ds))

-- digits only make a number larger
value-le : (n : ℕ) (ds : List ℕ) → n ≤ value_of n ds
unfolding value_of
value-le n [] = omega arith
value-le n (d ∷ ds) = let h : n * 10 + digit_of d ≤ value_of (n * 10 + digit_of d) ds = value-le (n * 10 + digit_of d) ds in omega arith

abbrev bounded : ℕ → List ℕ → Option ℕ
bounded n ds = below 4294967296 (cond (all_decimal ds && leb (value_of n ds) 4294967295) (value_of n ds) 4294967296)

no-right : (a b : Bool) (x : ℕ) → b ≡ false → below 4294967296 (cond (a && b) x 4294967296) ≡ None
no-right true b x e = simp e
no-right false b x e = refl

step : (n d : ℕ) (ds : List ℕ) (p q : Bool) → ltb 9 (digit_of d) ≡ p → ltb 4294967295 (n * 10 + digit_of d) ≡ q
    → (n * 10 + digit_of d ≤ 4294967295 → read_on (n * 10 + digit_of d) ds ≡ bounded (n * 10 + digit_of d) ds)
    → read_on n (d ∷ ds) ≡ bounded n (d ∷ ds)
unfolding read_on all_decimal value_of
step n d ds true q e f ih = simp (e, le-ltb (digit_of d) 10 (ltb-true 9 (digit_of d) e))
step n d ds false true e f ih =
    let v = value_of (n * 10 + digit_of d) ds in
    let m : 4294967295 < v = le_trans (ltb-true 4294967295 (n * 10 + digit_of d) f) (value-le (n * 10 + digit_of d) ds) in
    simp (e, f, lt-ltb (digit_of d) 10 (omega (arith, ltb-false 9 (digit_of d) e)))
    (sym (no-right (all_decimal ds) (leb v 4294967295) v (lt-leb _ _ m)))
step n d ds false false e f ih =
    let h : digit_of d < 10 = omega (arith, ltb-false 9 (digit_of d) e) in
    simp (e, f, lt-ltb (digit_of d) 10 h) (ih (ltb-false 4294967295 (n * 10 + digit_of d) f))

pub reads : (n : ℕ) (ds : List ℕ) → n ≤ 4294967295 → read_on n ds ≡ bounded n ds
unfolding read_on all_decimal value_of
reads n [] h = simp (le-leb n 4294967295 h, lt-ltb n 4294967296 (omega arith))
reads n (d ∷ ds) h = step n d ds (ltb 9 (digit_of d)) (ltb 4294967295 (n * 10 + digit_of d)) refl refl (λ g. reads (n * 10 + digit_of d) ds g)

-- from no digit
pub reads_in : (ds : List ℕ) → read_on 0 ds ≡ below 4294967296 (clocks_in ds)
unfolding clocks_in
reads_in ds = reads 0 ds (omega arith)

-- at place i of a line
module _ (n i : ℕ) (l : List ℕ) (h : i < length l) where
  at-digit : drop i l ≡ get_or l i 0 ∷ drop (i + 1) l
  at-digit = drop-cons l i 0 h ∙ ap (λ (k : ℕ). get_or l i 0 ∷ drop k l) (sym (add-one i))

  pub read_none : 9 < digit_of (get_or l i 0) → read_on n (drop i l) ≡ None
  unfolding read_on
  read_none p = ap (read_on n) at-digit ∙ (simp (lt-ltb _ _ p))

  pub read_past : 4294967295 < n * 10 + digit_of (get_or l i 0) → read_on n (drop i l) ≡ None
  unfolding read_on
  read_past q = ap (read_on n) at-digit ∙ past (ltb 9 (digit_of (get_or l i 0)))
    where
      past : (f : Bool) → cond f None (cond (ltb 4294967295 (n * 10 + digit_of (get_or l i 0))) None (read_on (n * 10 + digit_of (get_or l i 0)) (drop (i + 1) l))) ≡ None
      past true = refl
      past false = simp (lt-ltb _ _ q)

  pub read_more : digit_of (get_or l i 0) ≤ 9 → n * 10 + digit_of (get_or l i 0) ≤ 4294967295
      → read_on n (drop i l) ≡ read_on (n * 10 + digit_of (get_or l i 0)) (drop (i + 1) l)
  unfolding read_on
  read_more p q = ap (read_on n) at-digit ∙ (simp (le-ltb _ _ p, le-ltb _ _ q))

pub read-end : (n i : ℕ) (l : List ℕ) → length l ≤ i → read_on n (drop i l) ≡ Some n
unfolding read_on
read-end n i l h = ap (read_on n) (drop_of_length-le l h)
