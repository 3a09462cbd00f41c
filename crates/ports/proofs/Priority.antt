-- The highest bit at which a test holds.
-- Assumes nothing.
use Rattle.std.specs.Prelude.{if◌then◌else◌}
use Prim.Native.Nat.{ℕ, ◌<◌}
use mathlib.Core.Path.{◌≡◌}
use mathlib.Core.Bool.{Bool, ◌&&◌}
use lib.Dec.{ltb, lit<, ltb→lt}
use lib.Bits.{bit_and}
use Rattle.basics.specs.Byte.{bit, byte_of}
use Rattle.rules.specs.Patterns.{highest_of}
use Rattle.basics.proofs.Truth.{all7}
use Rattle.basics.proofs.Laws.{bit-and, bit_byte_lem}

-- it is one of the eight
pub highest-lt : (f : ℕ → Bool) → highest_of f < 8
unfolding highest_of
highest-lt f =
    ltb→lt _ _
    (all7
    (λ a b c d e g h. ltb (if a then 7 else if b then 6 else if c then 5 else if d then 4 else if e then 3 else if g then 2 else if h then 1 else 0) 8)
    tt (f 7) (f 6) (f 5) (f 4) (f 3) (f 2) (f 1))

-- it goes by the bits below 8
highest-of : (f g : ℕ → Bool) → ((k : ℕ) → k < 8 → f k ≡ g k) → highest_of f ≡ highest_of g
unfolding highest_of
highest-of f g h = simp (h 1 (lit< tt), h 2 (lit< tt), h 3 (lit< tt), h 4 (lit< tt), h 5 (lit< tt), h 6 (lit< tt), h 7 (lit< tt))

-- of the bits f, and none where e is false
pub highest-bits : (e : Bool) (f : ℕ → Bool) → highest_of (bit (bit_and (byte_of (λ k. e)) (byte_of f))) ≡ highest_of (λ k. e && f k)
highest-bits e f = highest-of _ _ (λ k h. simp (bit-and, bit_byte_lem (λ k. e) k h, bit_byte_lem f k h))
