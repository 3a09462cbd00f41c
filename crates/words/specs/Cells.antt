-- What stands in a column: twelve bytes, to the right.
-- Assumes nothing.
use Rattle.std.specs.Prelude.{ℕ, ◌/◌, ◌%◌, Bool, List, [], ◌∷◌, ◌++◌, ltb, if◌then◌else◌}
use Rattle.texts.specs.Answers.{space, decimal_digit, glyph_of}
use Rattle.texts.specs.Spelled.{spelled}

-- a bit
unfoldable pub bit_cell : Bool → List ℕ
bit_cell f = if f then spelled "           1" else spelled "           0"

-- what is so or is not
unfoldable pub yes_cell : Bool → List ℕ
yes_cell f = if f then spelled "         yes" else spelled "          no"

-- a byte in two capital hexadecimal digits
unfoldable pub byte_cell : ℕ → List ℕ
byte_cell n = spelled "          " ++ (glyph_of (n / 16) ∷ glyph_of n ∷ [])

-- the digit at the place of p, a power of ten; a space where the number is below it
unfoldable pub digit_or_space : ℕ → ℕ → ℕ
digit_or_space p n = if ltb n p then space else decimal_digit (n / p % 10)

-- a number below 100,000 in decimal
unfoldable pub number_cell : ℕ → List ℕ
number_cell n =
    spelled "       "
    ++ (digit_or_space 10000 n ∷ digit_or_space 1000 n ∷ digit_or_space 100 n ∷ digit_or_space 10 n ∷ decimal_digit (n % 10) ∷ [])
