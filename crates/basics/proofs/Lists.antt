-- Lists of a known length.
-- Assumes nothing.
use Prim.Native.Nat.{ℕ}
use mathlib.Core.Path.{◌≡◌, refl, sym, ap, ◌∙◌}
use mathlib.Core.List.{List, [], ◌∷◌, map}
use native.Mathlib.Omega.{arith}
use lib.ListN.{get_or, length, length-map}

-- an array of structs is as long as that of their machine values: by this the parts of a parameter are found to be that many
pub length-mapped : (X Y : Type 0) (f : X → Y) (l : List X) (n : ℕ) → length (map f l) ≡ n → length l ≡ n
length-mapped X Y f l n e = sym (length-map l f) ∙ e

-- a list of two, three, five is its elements
pub two : {A : Type 0} (x : A) (l : List A) → length l ≡ 2 → l ≡ get_or l 0 x ∷ get_or l 1 x ∷ []
two x [] h = absurd (omega arith)
two x (a ∷ []) h = absurd (omega arith)
two x (a ∷ b ∷ []) h = refl
two x (a ∷ b ∷ c ∷ l) h = absurd (omega arith)

pub three : {A : Type 0} (x : A) (l : List A) → length l ≡ 3 → l ≡ get_or l 0 x ∷ get_or l 1 x ∷ get_or l 2 x ∷ []
three x [] h = absurd (omega arith)
three x (a ∷ l) h = ap (λ (m : List _). a ∷ m) (two x l (omega arith))

pub five : {A : Type 0} (x : A) (l : List A) → length l ≡ 5 → l ≡ get_or l 0 x ∷ get_or l 1 x ∷ get_or l 2 x ∷ get_or l 3 x ∷ get_or l 4 x ∷ []
five x [] h = absurd (omega arith)
five x (a ∷ []) h = absurd (omega arith)
five x (a ∷ b ∷ l) h = ap (λ (m : List _). a ∷ b ∷ m) (three x l (omega arith))
