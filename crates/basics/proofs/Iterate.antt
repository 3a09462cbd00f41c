-- The laws of a function applied n times.
-- Assumes nothing.
use Prim.Native.Nat.{ℕ, zero, suc, ◌+◌}
use mathlib.Core.Path.{◌≡◌, refl, ap, ◌∙◌}
use native.Mathlib.Nat.{add-zero, add-suc}
use Rattle.basics.specs.Iterate.{iterate}

-- a times and then b times are a + b times
pub iterate-add : {A : Type 0} (a b : ℕ) (f : A → A) (x : A) → iterate (a + b) f x ≡ iterate b f (iterate a f x)
unfolding iterate
iterate-add a zero f x = ap (λ (n : ℕ). iterate n f x) (add-zero a)
iterate-add a (suc b) f x = ap (λ (n : ℕ). iterate n f x) (add-suc a b) ∙ ap f (iterate-add a b f x)

-- what commutes with f commutes with f n times
pub iterate-commutes : {A : Type 0} (f g : A → A) → ((x : A) → f (g x) ≡ g (f x)) → (n : ℕ) (x : A) → iterate n f (g x) ≡ g (iterate n f x)
unfolding iterate
iterate-commutes f g h zero x = refl
iterate-commutes f g h (suc n) x = ap f (iterate-commutes f g h n x) ∙ h (iterate n f x)
