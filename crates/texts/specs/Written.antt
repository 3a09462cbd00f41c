-- Bytes written into a buffer where they belong.
-- Assumes nothing.
use Rattle.std.specs.Prelude.{ℕ, ◌+◌, ◌≤◌, List, [], ◌∷◌, ◌≡◌, length, set}

-- the bytes of w from a place on
unfoldable pub written : List ℕ → ℕ → List ℕ → List ℕ
written buf at [] = buf
written buf at (b ∷ w) = written (set buf at b) (at + 1) w

-- a buffer after that, and the place after them; there are at most k
pub record Wrote (k : ℕ) (buf : List ℕ) (at : ℕ) (w out : List ℕ) (r : ℕ) : Type 0 where
  pub bytes : out ≡ written buf at w
  pub next : r ≡ at + length w
  pub short : length w ≤ k
