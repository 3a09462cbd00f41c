-- Two rules that agree over a range, which antt computes, agree at each number in it.
-- Assumes nothing.
use Prim.Native.Nat.{ℕ, ◌+◌, ◌-◌, ◌≤◌, ◌<◌}
use mathlib.Core.Path.{◌≡◌, sym, ap, ◌∙◌}
use mathlib.Core.List.{List}
use native.Mathlib.Omega.{arith}
use lib.ListN.{get_or}
use Rattle.basics.proofs.Tabled.{tabled, from}

pub across : {A : Type 0} (f g : ℕ → A) (lo n : ℕ) → tabled f lo n ≡ tabled g lo n → (a : ℕ) → lo ≤ a → a < lo + n → f a ≡ g a
across f g lo n e a h b =
    ap f (omega arith)
    ∙ sym (from f n lo (a - lo) (f lo) (omega arith))
    ∙ ap (λ (l : List _). get_or l (a - lo) (f lo)) e
    ∙ from g n lo (a - lo) (f lo) (omega arith)
    ∙ ap g (omega arith)
