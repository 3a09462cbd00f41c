-- What a truth table shows, which antt computes row by row: `pub all8 t tt` is the test t at every eight bits.
-- Assumes nothing.
use mathlib.Core.Path.{◌≡◌, refl}
use mathlib.Core.Bool.{Bool, true, false, ◌&&◌, beq}
use lib.Dec.{T}

pub and_left : (a b : Bool) → T (a && b) → T a
and_left true b t = tt
and_left false b t = t

pub and_right : (a b : Bool) → T (a && b) → T b
and_right true b t = t
and_right false b t = absurd t

-- both rows
abbrev pub rows : (Bool → Bool) → Bool
rows t = t true && t false

pub all1 : (t : Bool → Bool) → T (rows t) → (a : Bool) → T (t a)
all1 t h true = and_left (t true) (t false) h
all1 t h false = and_right (t true) (t false) h

-- two bits that a test finds the same
pub same : (a b : Bool) → T (beq a b) → a ≡ b
same true true p = refl
same true false p = absurd p
same false true p = absurd p
same false false p = refl

pub all2 : (t : Bool → Bool → Bool) → T (rows (λ a. rows (λ b. t a b))) → (a b : Bool) → T (t a b)
all2 t p a b = all1 (t a) (all1 (λ a. rows (λ b. t a b)) p a) b

pub all3 : (t : Bool → Bool → Bool → Bool) → T (rows (λ a. rows (λ b. rows (λ c. t a b c)))) → (a b c : Bool) → T (t a b c)
all3 t p a b c = all2 (t a) (all1 (λ a. rows (λ b. rows (λ c. t a b c))) p a) b c

pub all4 : (t : Bool → Bool → Bool → Bool → Bool) → T (rows (λ a. rows (λ b. rows (λ c. rows (λ d. t a b c d))))) → (a b c d : Bool) → T (t a b c d)
all4 t p a b c d = all3 (t a) (all1 (λ a. rows (λ b. rows (λ c. rows (λ d. t a b c d)))) p a) b c d

pub all5 : (t : Bool → Bool → Bool → Bool → Bool → Bool)
    → T (rows (λ a. rows (λ b. rows (λ c. rows (λ d. rows (λ e. t a b c d e))))))
    → (a b c d e : Bool) → T (t a b c d e)
all5 t p a b c d e = all4 (t a) (all1 (λ a. rows (λ b. rows (λ c. rows (λ d. rows (λ e. t a b c d e))))) p a) b c d e

pub all6 : (t : Bool → Bool → Bool → Bool → Bool → Bool → Bool)
    → T (rows (λ a. rows (λ b. rows (λ c. rows (λ d. rows (λ e. rows (λ f. t a b c d e f)))))))
    → (a b c d e f : Bool) → T (t a b c d e f)
all6 t p a b c d e f = all5 (t a) (all1 (λ a. rows (λ b. rows (λ c. rows (λ d. rows (λ e. rows (λ f. t a b c d e f)))))) p a) b c d e f

pub all7 : (t : Bool → Bool → Bool → Bool → Bool → Bool → Bool → Bool)
    → T (rows (λ a. rows (λ b. rows (λ c. rows (λ d. rows (λ e. rows (λ f. rows (λ g. t a b c d e f g))))))))
    → (a b c d e f g : Bool) → T (t a b c d e f g)
all7 t p a b c d e f g = all6 (t a) (all1 (λ a. rows (λ b. rows (λ c. rows (λ d. rows (λ e. rows (λ f. rows (λ g. t a b c d e f g))))))) p a) b c d e f g

pub all8 : (t : Bool → Bool → Bool → Bool → Bool → Bool → Bool → Bool → Bool)
    → T (rows (λ a. rows (λ b. rows (λ c. rows (λ d. rows (λ e. rows (λ f. rows (λ g. rows (λ h. t a b c d e f g h)))))))))
    → (a b c d e f g h : Bool) → T (t a b c d e f g h)
all8 t p a b c d e f g h = all7 (t a) (all1 (λ a. rows (λ b. rows (λ c. rows (λ d. rows (λ e. rows (λ f. rows (λ g. rows (λ h. t a b c d e f g h)))))))) p a) b c d e f g h
