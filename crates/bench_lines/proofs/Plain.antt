-- No leading zeros, by the first byte and the length.
-- Assumes nothing.
use Rattle.std.specs.Prelude.{◌==◌}
use Prim.Native.Char.{code}
use Prim.Native.Nat.{ℕ}
use mathlib.Core.Bool.{Bool, true, false, not, ◌&&◌}
use mathlib.Core.List.{List, [], ◌∷◌}
use mathlib.Core.Path.{◌≡◌, refl}
use native.Mathlib.Omega.{arith}
use borrow.Author.Tests.{lt-ltb}
use lib.Dec.{ltb}
use lib.ListN.{length, get_or}
use Rattle.lines.specs.Lines.{no_leading_zeros}

pub none-plain : (l : List ℕ) → length l ≡ 0 → no_leading_zeros l ≡ false
unfolding no_leading_zeros
none-plain [] h = refl
none-plain (d ∷ l) h = absurd (omega arith)

pub plain_by : (l : List ℕ) → (length l ≡ 0 → ⊥) → no_leading_zeros l ≡ not (get_or l 0 0 == code "0" && ltb 1 (length l))
unfolding no_leading_zeros
plain_by [] h = absurd (h refl)
plain_by (d ∷ []) h = by_zero (d == code "0")
  where
    by_zero : (b : Bool) → true ≡ not (b && false)
    by_zero true = refl
    by_zero false = refl
plain_by (d ∷ e ∷ l) h = simp (lt-ltb 1 (length (d ∷ e ∷ l)) (omega arith)) (by_zero (d == code "0"))
  where
    by_zero : (b : Bool) → not b ≡ not (b && true)
    by_zero true = refl
    by_zero false = refl
