-- Numbers of one digit.
-- Assumes nothing.
use Prim.Native.Nat.{ℕ, ◌%◌, ◌<◌}
use mathlib.Core.List.{[], ◌∷◌}
use mathlib.Core.Path.{◌≡◌}
use native.Mathlib.Omega.{arith}
use borrow.Author.Tests.{lt-ltb}
use Rattle.texts.specs.Answers.{decimal_digit, place_text, decimal_text}

-- a digit is its own text
no_place : (p n : ℕ) → n < p → place_text p n ≡ []
unfolding place_text
no_place p n h = simp (lt-ltb n p h)

small : (n : ℕ) → n < 10 → n % 10 ≡ n
small n h = omega arith

pub one-digit : (n : ℕ) → n < 10 → decimal_text n ≡ decimal_digit n ∷ []
unfolding decimal_text
one-digit n h =
    simp (
      no_place 1000000000 n (omega arith),
      no_place 100000000 n (omega arith),
      no_place 10000000 n (omega arith),
      no_place 1000000 n (omega arith),
      no_place 100000 n (omega arith),
      no_place 10000 n (omega arith),
      no_place 1000 n (omega arith),
      no_place 100 n (omega arith),
      no_place 10 n h,
      small n h,
    )
