-- A function applied again and again.
-- Assumes nothing.
use Rattle.std.specs.Prelude.{ℕ, zero, suc}

-- f, n times
unfoldable pub iterate : {A : Type 0} → ℕ → (A → A) → A → A
iterate zero f a = a
iterate (suc n) f a = f (iterate n f a)
