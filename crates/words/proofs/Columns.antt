-- The columns of a line, one for each place, or one for each thing of a list.
-- Assumes nothing.
use Prim.Native.Nat.{ℕ, zero, suc}
use mathlib.Core.List.{List, [], ◌++◌}

-- those of the first n places
unfoldable pub columns : (ℕ → List ℕ) → ℕ → List ℕ
columns f zero = []
columns f (suc n) = columns f n ++ f n
