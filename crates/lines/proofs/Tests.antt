-- A number below another.
-- Assumes nothing.
use Rattle.std.specs.Prelude.{Some, None}
use Prim.Native.Nat.{ℕ, ◌≤◌, ◌<◌}
use mathlib.Core.Bool.{Bool, true, false, cond}
use mathlib.Core.Path.{◌≡◌, refl}
use borrow.Author.Tests.{ltb-true, ltb-false}
use lib.Dec.{ltb}
use Rattle.lines.specs.Lines.{below}

pub is_below : {v : ℕ} (m n : ℕ) → Some v ≡ below m n → (v ≡ n) × (n < m)
is_below {v} m n e = by-test (ltb n m) refl e
  where
    by-test : (f : Bool) → ltb n m ≡ f → Some v ≡ cond f (Some n) None → (v ≡ n) × (n < m)
    by-test true t g = (cc, ltb-true n m t)
    by-test false t g = cc

pub not-below : (m n : ℕ) → None ≡ below m n → m ≤ n
not-below m n e = by-test (ltb n m) refl e
  where
    by-test : (f : Bool) → ltb n m ≡ f → None ≡ cond f (Some n) None → m ≤ n
    by-test true t g = absurd cc
    by-test false t g = ltb-false n m t
