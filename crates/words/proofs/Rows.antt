-- A table of rows that are equally wide.
-- Assumes nothing.
use Prim.Native.Nat.{ℕ, zero, suc, ◌≤◌, zero-le}
use mathlib.Core.Bool.{Bool, true, false, cond, So, false≢true}
use mathlib.Core.List.{List, [], ◌∷◌}
use mathlib.Core.Path.{◌≡◌, refl}
use native.Mathlib.Nat.{le_of_eq, le_of_suc-le-suc, not-suc-le-zero}
use borrow.Author.Tests.{eqb-true}
use lib.Dec.{eqb}
use lib.ListN.{length, get_or}

-- whether each row is w wide
abbrev pub wide : ℕ → List (List ℕ) → Bool
wide w [] = true
wide w (r ∷ rs) = cond (eqb (length r) w) (wide w rs) false

first : (a b : Bool) → So (cond a b false) → So a
first true b h = refl
first false b h = h

others : (a b : Bool) → So (cond a b false) → So b
others true b h = h
others false b h = absurd (false≢true h)

-- no row is wider; beyond the table there is none
pub width : (w : ℕ) (rows : List (List ℕ)) (k : ℕ) → So (wide w rows) → length (get_or rows k []) ≤ w
width w [] k all = zero-le
width w (r ∷ rs) zero all = le_of_eq (eqb-true (length r) w (first _ _ all))
width w (r ∷ rs) (suc k) all = width w rs k (others (eqb (length r) w) _ all)

pub beyond : {A : Type 0} (d : A) (rows : List A) (k : ℕ) → length rows ≤ k → d ≡ get_or rows k d
beyond d [] k h = refl
beyond d (r ∷ rs) zero h = absurd (not-suc-le-zero h)
beyond d (r ∷ rs) (suc k) h = beyond d rs k (le_of_suc-le-suc h)
