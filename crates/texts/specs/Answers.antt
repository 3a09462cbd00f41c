-- The bytes of an answer. Paper 01, "The trace program": "Each line prints decimal code, capital hexadecimal value, A, B, C,
-- then INT, IEO and three decimal counts.", and its worked example: one space between, value, A and B in two digits, C in
-- one, no zeros before a decimal number, and a line feed at the end. Paper 02, W-202: "T answers three more numbers, lost
-- terminals for counters 1 to 3", and "the trace line ends with them".
-- Assumes nothing.
use Prim.Native.Char.{code}
use Rattle.std.specs.Prelude.{ℕ, ◌+◌, ◌-◌, ◌/◌, ◌%◌, Bool, List, [], ◌∷◌, ◌++◌, ltb, get_or, if◌then◌else◌}
use Rattle.rules.specs.declared.Answer.{Answer}
use Rattle.rules.specs.declared.Report.{Report}

-- ---- bytes
abbrev pub space : ℕ
space = code " "

abbrev pub line_feed : ℕ
line_feed = code "\n"

-- the decimal digit of d, below 10
abbrev pub decimal_digit : ℕ → ℕ
decimal_digit d = code "0" + d

-- the capital hexadecimal digit of the lower four bits of n
unfoldable pub glyph_of : ℕ → ℕ
glyph_of n = if ltb (n % 16) 10 then decimal_digit (n % 16) else code "A" + (n % 16 - 10)

-- ---- the parts of an answer
-- a space and a byte in two digits
unfoldable pub hex_text : ℕ → List ℕ
hex_text n = space ∷ glyph_of (n / 16) ∷ glyph_of n ∷ []

-- a space and one digit
unfoldable pub nibble_text : ℕ → List ℕ
nibble_text n = space ∷ glyph_of n ∷ []

-- a space, and 0 or 1
unfoldable pub flag_text : Bool → List ℕ
flag_text f = space ∷ (if f then code "1" else code "0") ∷ []

-- the digit at the place of p, a power of ten; none where the number is below it
unfoldable pub place_text : ℕ → ℕ → List ℕ
place_text p n = if ltb n p then [] else decimal_digit (n / p % 10) ∷ []

-- a number of 32 bits in decimal: each place from the highest that it reaches
unfoldable pub decimal_text : ℕ → List ℕ
decimal_text n =
    place_text 1000000000 n ++ place_text 100000000 n ++ place_text 10000000 n ++ place_text 1000000 n ++ place_text 100000 n
    ++ place_text 10000 n ++ place_text 1000 n ++ place_text 100 n ++ place_text 10 n ++ (decimal_digit (n % 10) ∷ [])

-- a space and a count
unfoldable pub count_text : ℕ → List ℕ
count_text n = space ∷ decimal_text n

-- "three decimal counts"
unfoldable pub counts_text : List ℕ → List ℕ
counts_text ns = count_text (get_or ns 0 0) ++ count_text (get_or ns 1 0) ++ count_text (get_or ns 2 0)

-- the terminals, and then the lost
unfoldable pub report_text : Report → List ℕ
report_text r = counts_text r.terminals ++ counts_text r.lost

-- pins, INT, IEO and the report alone; paper 02, W-212: of each device of a row
unfoldable pub levels_text : Answer → List ℕ
levels_text a = hex_text a.a ++ hex_text a.b ++ nibble_text a.c ++ flag_text a.int ++ flag_text a.ieo ++ report_text a.report

-- ---- the answer, with its line feed
unfoldable pub answer_text : Answer → List ℕ
answer_text a =
    decimal_text a.code ++ hex_text a.value ++ hex_text a.a ++ hex_text a.b ++ nibble_text a.c
    ++ flag_text a.int ++ flag_text a.ieo ++ report_text a.report ++ (line_feed ∷ [])
