-- Lists of a known length are their elements.
-- Assumes nothing.
use Prim.Native.Nat.{ℕ, zero, suc}
use mathlib.Core.Path.{◌≡◌, refl, ap, ap₂, ◌∙◌}
use mathlib.Core.List.{List, [], ◌∷◌}
use native.Mathlib.Omega.{arith}
use lib.ListN.{length, get_or}
use Rattle.bodies.specs.Written.{listed, registers_from}
use Rattle.rules.specs.declared.Device.{Device}

listed-length : (f : ℕ → ℕ) (i n : ℕ) → length (listed f i n) ≡ n
listed-length f i zero = refl
listed-length f i (suc n) = ap suc (listed-length f (suc i) n)

pub registers-length : (d : Device) (a n : ℕ) → length (registers_from d a n) ≡ n
unfolding registers_from
registers-length d a n = listed-length _ a n

-- lists that agree
pub then : {A : Type 0} {a b : A} {l m : List A} → a ≡ b → l ≡ m → a ∷ l ≡ b ∷ m
then p q = ap₂ (λ (x : _) (y : List _). x ∷ y) p q

pub ap₃ : {A B C D : Type 0} (f : A → B → C → D) {a a' : A} {b b' : B} {c c' : C} → a ≡ a' → b ≡ b' → c ≡ c' → f a b c ≡ f a' b' c'
ap₃ f {a} {a'} {b} {b'} {c} {c'} p q r = ap (λ (x : _). f x b c) p ∙ ap₂ (f a') q r

-- a list is the values at its places
next : (f g : ℕ → ℕ) (i n : ℕ) → ((k : ℕ) → f (suc k) ≡ g k) → listed f (suc i) n ≡ listed g i n
next f g i zero h = refl
next f g i (suc n) h = ap₂ (λ (x : ℕ) (l : List ℕ). x ∷ l) (h i) (next f g (suc i) n h)

pub elements : (b : List ℕ) (n : ℕ) → length b ≡ n → listed (λ k. get_or b k 0) 0 n ≡ b
elements [] zero e = refl
elements [] (suc n) e = absurd (omega arith)
elements (x ∷ b) zero e = absurd (omega arith)
elements (x ∷ b) (suc n) e =
    ap (λ (l : List ℕ). x ∷ l) (next (λ k. get_or (x ∷ b) k 0) (λ k. get_or b k 0) 0 n (λ k. refl) ∙ elements b n (omega arith))
