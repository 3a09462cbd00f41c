-- The bytes that a transfer holds, as a list: one that comes stands last, one that goes stood first.
-- Assumes nothing.
use Prim.Native.Nat.{ℕ, ◌≤◌, ◌<◌}
use mathlib.Core.Path.{◌≡◌, refl, ap, ◌∙◌}
use mathlib.Core.Bool.{Bool, true, false, cond, So}
use mathlib.Core.List.{List, [], ◌∷◌, ◌++◌}
use native.Mathlib.Omega.{arith}
use lib.Dec.{eqb}
use lib.ListN.{take}
use Rattle.rules.specs.declared.Transfer.{Transfer}
use Rattle.rules.specs.With.{transfer}
use Rattle.rules.specs.Moves.{joined, shifted}
use Rattle.basics.proofs.Places.{each2, each3}
use Rattle.account.specs.Account.{byte_if}

abbrev pub inside : Transfer → List ℕ
inside t = take t.bytes (t.front ∷ t.behind ∷ [])

pub joined-inside : (b : ℕ) (t : Transfer) (unfinished pair : Bool) → t.bytes < 2
    → inside (joined b t unfinished pair) ≡ inside t ++ b ∷ []
unfolding joined
joined-inside b t unfinished pair =
    let was = t.front ∷ t.behind ∷ [] in
    each2
    (λ n. inside (cond (eqb n 0) (transfer b 0 1 unfinished pair) (transfer t.front b 2 unfinished pair)) ≡ take n was ++ b ∷ [])
    refl refl t.bytes

pub shifted-inside : (t : Transfer) (unfinished pair : Bool) → t.bytes ≤ 2 → (t.bytes ≡ 0 → ⊥)
    → inside t ≡ t.front ∷ inside (shifted t unfinished pair)
unfolding shifted
shifted-inside t unfinished pair l =
    each3 (λ n. (n ≡ 0 → ⊥) → take n (t.front ∷ t.behind ∷ []) ≡ t.front ∷ take (cond (eqb n 2) 1 0) (t.behind ∷ 0 ∷ []))
    (λ n. absurd (n refl)) (λ _. refl) (λ _. refl) t.bytes (omega (arith, l))

-- two tests that are one, with one byte where they pass
pub same_byte : (v w : Bool) (a b : ℕ) → v ≡ w → (So w → a ≡ b) → byte_if v a ≡ byte_if w b
same_byte v true a b e f = ap (λ (u : Bool). byte_if u a) e ∙ ap (λ (n : ℕ). n ∷ []) (f refl)
same_byte v false a b e f = ap (λ (u : Bool). byte_if u a) e
