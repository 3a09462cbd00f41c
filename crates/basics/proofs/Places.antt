-- The elements of a list by their place, after a store; and what holds at each of a few places.
-- Assumes nothing.
use Prim.Native.Nat.{ℕ, zero, suc, ◌<◌}
use mathlib.Core.Path.{◌≡◌, refl}
use mathlib.Core.List.{List, [], ◌∷◌}
use native.Mathlib.Omega.{arith}
use lib.ListN.{get_or, set}

-- A store keeps what holds place by place, if it keeps it at its own place. No length is asked: past its end a list is not changed.
pub set_keeps : {A : Type 0} (P : ℕ → A → Type 0) (l : List A) (i j : ℕ) (v x : A)
    → (P i (get_or l i x) → P i v) → P j (get_or l j x) → P j (get_or (set l i v) j x)
set_keeps P [] i j v x f p = p
set_keeps P (y ∷ l) zero zero v x f p = f p
set_keeps P (y ∷ l) zero (suc j) v x f p = p
set_keeps P (y ∷ l) (suc i) zero v x f p = p
set_keeps P (y ∷ l) (suc i) (suc j) v x f p = set_keeps (λ k. P (suc k)) l i j v x f p

-- what holds of the value stored, and of the value past the end, holds at its place
pub set_gives : {A : Type 0} (P : A → Type 0) (l : List A) (i : ℕ) (v x : A) → P v → P x → P (get_or (set l i v) i x)
set_gives P [] i v x p q = q
set_gives P (y ∷ l) zero v x p q = p
set_gives P (y ∷ l) (suc i) v x p q = set_gives P l i v x p q

-- what holds at the first places holds at each
pub each2 : (P : ℕ → Type 0) → P 0 → P 1 → (i : ℕ) → i < 2 → P i
each2 P p q zero h = p
each2 P p q (suc zero) h = q
each2 P p q (suc (suc i)) h = absurd (omega arith)

pub each3 : (P : ℕ → Type 0) → P 0 → P 1 → P 2 → (i : ℕ) → i < 3 → P i
each3 P p q r zero h = p
each3 P p q r (suc zero) h = q
each3 P p q r (suc (suc zero)) h = r
each3 P p q r (suc (suc (suc i))) h = absurd (omega arith)

pub each5 : (P : ℕ → Type 0) → P 0 → P 1 → P 2 → P 3 → P 4 → (i : ℕ) → i < 5 → P i
each5 P p q r s t zero h = p
each5 P p q r s t (suc zero) h = q
each5 P p q r s t (suc (suc zero)) h = r
each5 P p q r s t (suc (suc (suc zero))) h = s
each5 P p q r s t (suc (suc (suc (suc zero)))) h = t
each5 P p q r s t (suc (suc (suc (suc (suc i))))) h = absurd (omega arith)

-- three noughts
pub all-zero : (i : ℕ) → get_or {A = ℕ} (0 ∷ 0 ∷ 0 ∷ []) i 0 ≡ 0
all-zero zero = refl
all-zero (suc zero) = refl
all-zero (suc (suc zero)) = refl
all-zero (suc (suc (suc i))) = refl
