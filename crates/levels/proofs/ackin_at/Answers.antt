-- ACKIN is D0 past Port A
use Prim.Native.Nat.{ℕ, ◌-◌, ◌*◌, ◌%◌}
use mathlib.Core.Path.{◌≡◌, sym, ap, ◌∙◌}
use native.Mathlib.Omega.{arith}
use native.Mathlib.Nat.{div-one}
use lib.Dec.{eqb}
use lib.Bits.{bit_xor}
use Rattle.basics.specs.Byte.{bit, differs}
use Rattle.rules.specs.Record.{port_at}
use Rattle.rules.specs.Handshakes.{ackin_at}
use Rattle.basics.proofs.Laws.{bit-xor}
use Rattle.levels.proofs.ackin_at.Goals as goal

low : (p : ℕ) → (p ≡ 0 → ⊥) → 2 - 2 * p ≡ 0
low p n = omega arith

xor_low : (x y : ℕ) → eqb (bit_xor x y % 2) 1 ≡ differs (bit x 0) (bit y 0)
xor_low x y = ap (λ (n : ℕ). eqb (n % 2) 1) (sym (div-one (bit_xor x y))) ∙ bit-xor x y 0

pub returns-then-p-eq0 : goal.returns-then-p-eq0
unfolding ackin_at
returns-then-p-eq0 c =
    let q = port_at c.args.d 2 in
    simp c.if-p-eq0.true (bit-xor q.outside q.polarity 2)

pub returns : goal.returns
unfolding ackin_at
returns c =
    let q = port_at c.args.d 2 in
    simp (low _ c.if-p-eq0.false) (xor_low q.outside q.polarity)
