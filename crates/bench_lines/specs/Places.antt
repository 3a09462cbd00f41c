-- The places from 0 up to a number, each asked in turn.
-- Assumes nothing.
use Rattle.std.specs.Prelude.{ℕ, zero, suc, Bool, true, ◌&&◌, List, [], ◌∷◌, ◌++◌}

-- what f says of each of the first n places
unfoldable pub listed_up_to : ℕ → (ℕ → Bool) → List Bool
listed_up_to zero f = []
listed_up_to (suc n) f = listed_up_to n f ++ (f n ∷ [])

-- whether f holds at each of them
unfoldable pub holds_up_to : ℕ → (ℕ → Bool) → Bool
holds_up_to zero f = true
holds_up_to (suc n) f = holds_up_to n f && f n
