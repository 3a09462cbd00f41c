-- Two lists that agree byte for byte are the same list.
-- Assumes nothing.
use Prim.Native.Nat.{ℕ}
use mathlib.Core.Path.{◌≡◌, refl, sym, ap, ◌∙◌}
use mathlib.Core.Bool.{Bool, true, false, ◌&&◌, false≢true}
use mathlib.Core.List.{List, [], ◌∷◌}
use lib.Dec.{eqb}
use Rattle.std.specs.Bool.{Decides}
use Rattle.std.specs.Str.{bytes_eq}
use Rattle.std.proofs.lemmas.Slice.Eq.{compares_Decides}
use Rattle.image.specs.Image.{agree}

-- what `==` of two slices answers
pub bytes_agree : (a b : List ℕ) → bytes_eq a b ≡ agree a b
unfolding agree
bytes_agree [] [] = refl
bytes_agree [] (y ∷ b) = refl
bytes_agree (x ∷ a) [] = refl
bytes_agree (x ∷ a) (y ∷ b) = ap (λ (t : Bool). eqb x y && t) (bytes_agree a b)

decides : (a b : List ℕ) → Decides (agree a b) (a ≡ b)
unfolding agree
decides =
    compares_Decides agree (record { empty = refl; shorter = λ y ys. refl; longer = λ x xs. refl; heads = λ x y xs ys. refl })

-- both ways
pub same : (a b : List ℕ) → agree a b ≡ true → a ≡ b
same a b = (decides a b).0

pub alike : (a b : List ℕ) → a ≡ b → agree a b ≡ true
alike a b = (decides a b).1

pub differ : (a b : List ℕ) → agree a b ≡ false → a ≡ b → ⊥
differ a b f e = absurd (false≢true (sym f ∙ alike a b e))

pub unlike : (a b : List ℕ) → (a ≡ b → ⊥) → agree a b ≡ false
unlike a b h = not_same (agree a b) (λ t. h (same a b t))
  where
    not_same : (t : Bool) → (t ≡ true → ⊥) → t ≡ false
    not_same true f = absurd (f refl)
    not_same false f = refl
