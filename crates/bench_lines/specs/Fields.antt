-- A line of BOARD. "The bench": "BOARD has the board's answers, one line for each, in the answer's form, where any field may be `-`
-- (the bench did not measure it ..) and fields missing at the end count as `-`." A line is here the list of its bytes without the
-- line feed.
-- Assumes nothing.
use Prim.Native.Char.{code}
use Rattle.std.specs.Prelude.{ℕ, ◌+◌, ◌*◌, Bool, ◌&&◌, List, [], ◌∷◌, ◌++◌, leb, ltb, length, get_or, if◌then◌else◌, ◌==◌}
use Rattle.texts.specs.Answers.{space}
use Rattle.lines.specs.Lines.{digit_of, clocks_in, no_leading_zeros}

-- ---- the fields of a line
-- the fields of the bytes to come, where f has come of the first: one space ends a field
unfoldable pub fields_from : List ℕ → List ℕ → List (List ℕ)
fields_from f [] = f ∷ []
fields_from f (b ∷ rest) = if b == space then f ∷ fields_from [] rest else fields_from (f ++ (b ∷ [])) rest

-- the fields of a line; an empty line has none
unfoldable pub fields_of : List ℕ → List (List ℕ)
fields_of [] = []
fields_of (b ∷ rest) = fields_from [] (b ∷ rest)

-- "any field may be `-`"
abbrev pub hole : List ℕ
hole = code "-" ∷ []

-- field i; "fields missing at the end count as `-`"
abbrev pub field_at : List ℕ → ℕ → List ℕ
field_at w i = get_or (fields_of w) i hole

-- ---- what a field says: a number of 32 bits, or one of these two
abbrev pub unmeasured : ℕ
unmeasured = 4294967296

abbrev pub illegible : ℕ
illegible = 4294967297

-- whether a field is `-`
unfoldable pub is_hole : List ℕ → Bool
is_hole f = length f == 1 && get_or f 0 0 == code "-"

-- a decimal number as the answer has it, with no leading zeros, and not above the most
unfoldable pub decimal_in : ℕ → List ℕ → ℕ
decimal_in most f = if no_leading_zeros f && leb (clocks_in f) most then clocks_in f else illegible

-- two capital hexadecimal digits, and one
unfoldable pub pair_in : List ℕ → ℕ
pair_in f =
    if length f == 2 && ltb (digit_of (get_or f 0 0)) 16 && ltb (digit_of (get_or f 1 0)) 16
    then 16 * digit_of (get_or f 0 0) + digit_of (get_or f 1 0) else illegible

unfoldable pub nibble_in : List ℕ → ℕ
nibble_in f = if length f == 1 && ltb (digit_of (get_or f 0 0)) 16 then digit_of (get_or f 0 0) else illegible

-- paper 01: "decimal code, capital hexadecimal value, A, B, C, then INT, IEO and three decimal counts"; W-202: three more
unfoldable pub number_at : ℕ → List ℕ → ℕ
number_at i f =
    if i == 0 then decimal_in 255 f else
    if ltb i 4 then pair_in f else
    if i == 4 then nibble_in f else
    if ltb i 7 then decimal_in 1 f else
    decimal_in 4294967295 f

-- what the field at place i says
unfoldable pub says_at : ℕ → List ℕ → ℕ
says_at i f = if is_hole f then unmeasured else number_at i f
