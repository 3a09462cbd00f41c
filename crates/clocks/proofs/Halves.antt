-- The phase after n clocks, by the phase before.
-- Assumes nothing.
use Prim.Native.Nat.{ℕ, zero, suc, ◌+◌, ◌%◌, ◌<◌}
use mathlib.Core.Path.{◌≡◌, refl, sym, ap, ◌∙◌}
use mathlib.Core.Bool.{Bool, true, false}
use mathlib.Core.Logic.{◌⊎◌, inl, inr, ⊎_elim}
use native.Mathlib.Nat.{add-zero}
use native.Mathlib.Omega.{arith}
use lib.Dec.{eqb}
use Rattle.basics.specs.Byte.{num, differs}

-- a number is even or odd
even-or-odd : (n : ℕ) → (n % 2 ≡ 0) ⊎ (n % 2 ≡ 1)
even-or-odd n = by (n % 2) (omega arith)
  where
    by : (m : ℕ) → m < 2 → (m ≡ 0) ⊎ (m ≡ 1)
    by zero h = inl refl
    by (suc zero) h = inr refl
    by (suc (suc m)) h = absurd (omega arith)

itself : (b : Bool) → differs b false ≡ b
itself true = refl
itself false = refl

-- the phase flips at each of n clocks
pub phase-law : (n : ℕ) (v : Bool) → differs (eqb (n % 2) 1) v ≡ eqb ((n + num v) % 2) 1
phase-law n true = ⊎_elim (λ e. other 0 e ∙ sym (same 1 (omega (arith, e)))) (λ e. other 1 e ∙ sym (same 0 (omega (arith, e)))) (even-or-odd n)
  where
    other : (a : ℕ) → n % 2 ≡ a → differs (eqb (n % 2) 1) true ≡ differs (eqb a 1) true
    other a e = ap (λ (m : ℕ). differs (eqb m 1) true) e

    same : (b : ℕ) → (n + 1) % 2 ≡ b → eqb ((n + 1) % 2) 1 ≡ eqb b 1
    same b f = ap (λ (m : ℕ). eqb m 1) f
phase-law n false = itself (eqb (n % 2) 1) ∙ ap (λ (m : ℕ). eqb (m % 2) 1) (sym (add-zero n))
