-- how long the parts are that are cut out, from place to place
use Prim.Native.Nat.{ℕ, ◌+◌, ◌-◌}
use mathlib.Core.Path.{◌≡◌, sym, ◌∙◌}
use borrow.Author.Tests.{eq-eqb, le-ltb, not-false}
use native.Mathlib.Omega.{arith}
use Rattle.image.specs.Image.{restored_by}
use Rattle.image.proofs.read_by.Goals as goal

width-1 : (n : ℕ) → (n + 48) - n ≡ 48
width-1 n = omega arith

width-2 : (n : ℕ) → (n + 57) - (n + 48) ≡ 9
width-2 n = omega arith

width-3 : (n : ℕ) → (n + 64) - (n + 57) ≡ 7
width-3 n = omega arith

width-4 : (n : ℕ) → (n + 66) - (n + 64) ≡ 2
width-4 n = omega arith

width-5 : (n m : ℕ) → (n + 66 + m) - (n + 66) ≡ m
width-5 n m = omega arith

pub returns : goal.returns
unfolding restored_by
returns c =
    let short = le-ltb _ _ c.if-s-n.false in
    let same = sym c.same_bytes.ensures ∙ not-false _ c.if-not-same_bytes.false-raw in
    c.accept.ensures ∙ simp (short, same, ← c.fifth_len.ensures.0, eq-eqb _ _ c.if-s-end.false, width-1, width-2, width-3, width-4, width-5)
