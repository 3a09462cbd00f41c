-- What a line says. Paper 01, "The trace program": "a capital letter, then its numbers in two-digit capital hexadecimal
-- (T decimal, no leading zeros, at most 4,294,967,295), one space before each, a line feed, at most 80 bytes a line ..
-- Any other line is unreadable." A line is here the list of its bytes without the line feed; each has one meaning.
-- Assumes nothing.
use Prim.Native.Char.{code}
use Rattle.std.specs.Prelude.{ℕ, ◌+◌, ◌-◌, ◌*◌, Bool, true, false, not, ◌&&◌, ◌||◌, Option, Some, None, List, [], ◌∷◌, leb, ltb, length, if◌then◌else◌, ◌==◌}
use Rattle.basics.specs.Signs.{within}
use Rattle.rules.specs.declared.Event.{Event}
use Rattle.texts.specs.Answers.{space}
use Rattle.texts.specs.Kept.{bytes_of}
use Rattle.texts.specs.declared.Text.{Text}

-- What a line says is an event, or nothing where it is unreadable.
-- a line that says an event of this kind, with these numbers
abbrev pub said : ℕ → ℕ → ℕ → ℕ → Option Event
said kind a b c = Some (record { kind = kind; a = a; b = b; c = c })

-- ---- numbers
-- a number that is below m, and none where it is not: the bytes were then others
abbrev pub below : ℕ → ℕ → Option ℕ
below m n = if ltb n m then Some n else None

-- the value of a digit, `0` to `9` and `A` to `F`; 16 of any other byte
unfoldable pub digit_of : ℕ → ℕ
digit_of b =
    if within (code "0") (code "9") b then b - code "0" else
    if within (code "A") (code "F") b then 10 + (b - code "A") else
    16

-- "two-digit capital hexadecimal", "one space before each": the number of three bytes; 256 of any other three
unfoldable pub number_of : ℕ → ℕ → ℕ → ℕ
number_of s h l = if s == space && ltb (digit_of h) 16 && ltb (digit_of l) 16 then 16 * digit_of h + digit_of l else 256

-- the numbers after a letter; where bytes are left over, one that is none
unfoldable pub numbers_of : List ℕ → List ℕ
numbers_of [] = []
numbers_of (s ∷ []) = 256 ∷ []
numbers_of (s ∷ h ∷ []) = 256 ∷ []
numbers_of (s ∷ h ∷ l ∷ rest) = number_of s h l ∷ numbers_of rest

-- ---- "X: hardware reset. W address byte. R address. P a b c .. K: acknowledge. E v", "Kinds are numbered 0 to 6 in this order."
unfoldable pub said_by : ℕ → List ℕ → Option Event
said_by letter [] =
    if letter == code "X" then said 0 0 0 0 else
    if letter == code "K" then said 5 0 0 0 else
    None
said_by letter (a ∷ []) =
    if ltb 255 a then None else
    if letter == code "R" then said 2 a 0 0 else
    if letter == code "E" then said 6 a 0 0 else
    None
said_by letter (a ∷ b ∷ []) =
    if ltb 255 a || ltb 255 b then None else
    if letter == code "W" then said 1 a b 0 else
    None
said_by letter (a ∷ b ∷ c ∷ []) =
    if ltb 255 a || ltb 255 b || ltb 255 c then None else
    if letter == code "P" then said 3 a b c else
    None
said_by letter (a ∷ b ∷ c ∷ d ∷ more) = None

-- ---- "T n"
-- decimal digits and no other bytes
unfoldable pub all_decimal : List ℕ → Bool
all_decimal [] = true
all_decimal (d ∷ ds) = ltb (digit_of d) 10 && all_decimal ds

-- the value of digits read after n
unfoldable pub value_of : ℕ → List ℕ → ℕ
value_of n [] = n
value_of n (d ∷ ds) = value_of (n * 10 + digit_of d) ds

-- "decimal .. at most 4,294,967,295"; 4,294,967,296 of any other bytes
unfoldable pub clocks_in : List ℕ → ℕ
clocks_in ds = if all_decimal ds && leb (value_of 0 ds) 4294967295 then value_of 0 ds else 4294967296

-- "no leading zeros": a zero alone leads nothing; and some digit
unfoldable pub no_leading_zeros : List ℕ → Bool
no_leading_zeros [] = false
no_leading_zeros (d ∷ []) = true
no_leading_zeros (d ∷ e ∷ ds) = not (d == code "0")

-- what follows the letter T: a space and a number
unfoldable pub clocks_of : List ℕ → Option Event
clocks_of [] = None
clocks_of (s ∷ ds) =
    if s == space && no_leading_zeros ds && ltb (clocks_in ds) 4294967296 then said 4 (clocks_in ds) 0 0 else None

-- ---- a line
-- "a capital letter, then its numbers"
unfoldable pub words_of : List ℕ → Option Event
words_of [] = None
words_of (letter ∷ rest) = if letter == code "T" then clocks_of rest else said_by letter (numbers_of rest)

-- "at most 80 bytes a line"
abbrev pub line_most : ℕ
line_most = 80

unfoldable pub line_of : List ℕ → Option Event
line_of w = if ltb line_most (length w) then None else words_of w

-- what a line says that is kept; one that found no room is kept as no bytes, and so it is unreadable too
unfoldable pub says_of : Text → Option Event
says_of t = line_of (bytes_of t)

-- "1: kind above 6, or an unreadable trace line": an unreadable line is answered as a kind above 6 is
abbrev pub event_in : Option Event → Event
event_in (Some e) = e
event_in None = record { kind = 7; a = 0; b = 0; c = 0 }
