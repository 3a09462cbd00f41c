-- What a Boolean test says: both of two, each of several, one of two values, at every bit.
-- Assumes nothing.
use Prim.Native.Nat.{ℕ, zero, suc, ◌<◌}
use mathlib.Core.Path.{◌≡◌, refl, sym, subst, ◌∙◌}
use mathlib.Core.List.{List, [], ◌∷◌}
use mathlib.Core.Bool.{Bool, true, false, not, ◌&&◌, cond, So, false≢true}
use lib.Dec.{lit<}
use lib.ListN.{get_or}
use Rattle.basics.specs.Byte.{every}

-- both
pub so-both : {a b : Bool} → So a → So b → So (a && b)
so-both {a} {b} p q = subst (λ (x : Bool). So (x && b)) (sym p) q

pub left : (a b : Bool) → So (a && b) → So a
left true b h = refl
left false b h = h

pub right : (a b : Bool) → So (a && b) → So b
right true b h = h
right false b h = absurd (false≢true h)

-- clauses that hold together hold one by one
pub both : (a b : Bool) → (a && b) ≡ true → (a ≡ true) × (b ≡ true)
both a b h = (left a b h, right a b h)

pub triple : (a b c : Bool) → (a && b && c) ≡ true → (a ≡ true) × (b ≡ true) × (c ≡ true)
triple a b c h =
    let q = both (a && b) c h in
    let p = both a b q.0 in (p.0, p.1, q.1)

-- all of a list, one after the other as in `a && b && c`, and each of them
abbrev chain : Bool → List Bool → Bool
chain a [] = a
chain a (b ∷ l) = chain (a && b) l

abbrev pub all_of : List Bool → Bool
all_of [] = true
all_of (a ∷ l) = chain a l

of-chain : (a : Bool) (l : List Bool) → So (chain a l) → So a
of-chain a [] h = h
of-chain a (b ∷ l) h = left a b (of-chain (a && b) l h)

in-chain : (a : Bool) (l : List Bool) → So (chain a l) → (i : ℕ) → So (get_or l i true)
in-chain a [] h i = refl
in-chain a (b ∷ l) h zero = right a b (of-chain (a && b) l h)
in-chain a (b ∷ l) h (suc i) = in-chain (a && b) l h i

pub each : (l : List Bool) → So (all_of l) → (i : ℕ) → So (get_or l i true)
each [] h i = refl
each (a ∷ l) h zero = of-chain a l h
each (a ∷ l) h (suc i) = in-chain a l h i

-- not
pub so-not : {a : Bool} → a ≡ false → So (not a)
so-not p = subst (λ (x : Bool). So (not x)) (sym p) refl

pub not_so : (a : Bool) → So (not a) → a ≡ false
not_so true h = sym h
not_so false h = refl

-- never both true and false
pub never : {A : Type 0} {a : Bool} → a ≡ false → So a → A
never p q = absurd (false≢true (sym p ∙ q))

-- one of the two values, by the test
pub by-test : {A : Type 0} (P : A → Type 0) (t : Bool) (x y : A) → (So t → P x) → (t ≡ false → P y) → P (cond t x y)
by-test P true x y f g = f refl
by-test P false x y f g = g refl

-- at each of the eight bits
pub so-every : (f : ℕ → Bool) → ((k : ℕ) → k < 8 → So (f k)) → So (every f)
unfolding every
so-every f h =
    so-both (so-both (so-both (so-both (so-both (so-both (so-both (h 0 (lit< tt)) (h 1 (lit< tt))) (h 2 (lit< tt))) (h 3 (lit< tt))) (h 4 (lit< tt))) (h 5 (lit< tt))) (h 6 (lit< tt)))
    (h 7 (lit< tt))
