-- The two ways through a call for a fresh device.
-- Assumes nothing.
use Prim.Native.Nat.{ℕ}
use mathlib.Core.Path.{◌≡◌, sym, ◌∙◌}
use mathlib.Core.List.{List}
use borrow.Author.Tests.{eq-eqb, ne_eqb}
use lib.ListN.{length}
use Rattle.host.specs.Calls.{fresh_code, fresh_state}

-- what is answered with r, and then stands in the buffer, x
abbrev pub Filled : List ℕ → List ℕ → ℕ → List ℕ → Type 0
Filled i s r x = (r ≡ fresh_code i s) × (x ≡ fresh_state i s)

-- another length, and that of the image
pub other : (i s : List ℕ) (n : ℕ) → length i ≡ n → (length s ≡ n → ⊥) → Filled i s 7 s
unfolding fresh_code fresh_state
other i s n l h = let t = ne_eqb (length s) (length i) (λ e. h (e ∙ l)) in (simp t, simp t)

pub same : (i s : List ℕ) (n r : ℕ) (x : List ℕ) → length i ≡ n → length s ≡ n → r ≡ 0 → x ≡ i → Filled i s r x
unfolding fresh_code fresh_state
same i s n r x l h p q = let t = eq-eqb (length s) (length i) (h ∙ sym l) in (p ∙ (simp t), q ∙ (simp t))
