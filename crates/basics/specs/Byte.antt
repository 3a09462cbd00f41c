-- Bits, bytes and words.
-- Assumes nothing.
use Rattle.std.specs.Prelude.{ℕ, ◌+◌, ◌*◌, ◌/◌, ◌%◌, ◌^◌, Bool, true, false, not, ◌&&◌, ◌||◌, if◌then◌else◌, ◌==◌}
use Rattle.std.specs.Bool.{beq}

-- Dk of x
abbrev pub bit : ℕ → ℕ → Bool
bit x k = x / 2 ^ k % 2 == 1

-- one of the two and not both: XOR
abbrev pub differs : Bool → Bool → Bool
differs a b = not (beq a b)

-- 0 before, 1 after
abbrev pub rises : Bool → Bool → Bool
rises before after = not before && after

-- the number of a bit
abbrev pub num : Bool → ℕ
num true = 1
num false = 0

-- the byte whose Dk is f k
unfoldable pub byte_of : (ℕ → Bool) → ℕ
byte_of f =
    num (f 0) + 2 * num (f 1) + 4 * num (f 2) + 8 * num (f 3) + 16 * num (f 4) + 32 * num (f 5) + 64 * num (f 6) + 128 * num (f 7)

-- at each of the eight bits, and at one or more of them
unfoldable pub every : (ℕ → Bool) → Bool
every f = f 0 && f 1 && f 2 && f 3 && f 4 && f 5 && f 6 && f 7

unfoldable pub any : (ℕ → Bool) → Bool
any f = f 0 || f 1 || f 2 || f 3 || f 4 || f 5 || f 6 || f 7

-- the high or the low byte of a word, and a word with that byte written
unfoldable pub byte_in : Bool → ℕ → ℕ
byte_in high n = if high then n / 256 else n % 256

unfoldable pub with_byte : Bool → ℕ → ℕ → ℕ
with_byte high n b = if high then b * 256 + n % 256 else n / 256 * 256 + b
