-- The lines of an input, and of an input that comes in pieces. Paper 01, "The trace program": "reads standard input: ..
-- a line feed .. the last line feed may be missing."
-- Assumes nothing.
use Rattle.std.specs.Prelude.{ℕ, suc, true, false, Option, List, [], ◌∷◌, ◌++◌, if◌then◌else◌, ◌==◌}
use Rattle.texts.specs.Answers.{line_feed}
use Rattle.texts.specs.Kept.{no_text, pushed}
use Rattle.lines.specs.Lines.{says_of}
use Rattle.lines.specs.declared.Cut.{Cut}
use Rattle.rules.specs.declared.Event.{Event}
use Rattle.texts.specs.declared.Text.{Text}

-- ---- an input as a whole
-- a last line with no line feed, where there is one
unfoldable pub last_of : List ℕ → List (List ℕ)
last_of [] = []
last_of (b ∷ w) = (b ∷ w) ∷ []

-- the lines of the bytes to come, where w has come of the first
unfoldable pub lines_from : List ℕ → List ℕ → List (List ℕ)
lines_from w [] = last_of w
lines_from w (b ∷ rest) = if b == line_feed then w ∷ lines_from [] rest else lines_from (w ++ (b ∷ [])) rest

-- the lines of an input
abbrev pub input_lines : List ℕ → List (List ℕ)
input_lines input = lines_from [] input

-- ---- a piece of an input, where t is kept of a line that began before it
-- what the lines say that end in the piece
unfoldable pub said_in : Text → List ℕ → List (Option Event)
said_in t [] = []
said_in t (b ∷ rest) = if b == line_feed then says_of t ∷ said_in no_text rest else said_in (pushed t b) rest

-- what is kept of a line that does not
unfoldable pub kept_after : Text → List ℕ → Text
kept_after t [] = t
kept_after t (b ∷ rest) = if b == line_feed then kept_after no_text rest else kept_after (pushed t b) rest

-- at the end of the input: the last line, where it is not empty
unfoldable pub said_last : Text → List (Option Event)
said_last t = if t.len == 0 then [] else says_of t ∷ []

-- ---- one line of a piece
-- how many bytes there are up to the first line feed and with it, or in all where there is none
unfoldable pub line_len : List ℕ → ℕ
line_len [] = 0
line_len (b ∷ rest) = if b == line_feed then 1 else suc (line_len rest)

-- how many before the first line feed, or in all where there is none
unfoldable pub feed_at : List ℕ → ℕ
feed_at [] = 0
feed_at (b ∷ rest) = if b == line_feed then 0 else suc (feed_at rest)

-- from place i on to the end of a line: the line, and the place after its line feed; or all that there is
unfoldable pub cut_from : Text → ℕ → List ℕ → Cut
cut_from t i [] = record { text = t; next = i; whole = false }
cut_from t i (b ∷ rest) =
    if b == line_feed then record { text = t; next = suc i; whole = true } else cut_from (pushed t b) (suc i) rest

-- ---- an input in pieces, cut anywhere
-- what the lines say that end in each, and last of all the last line
unfoldable pub said_all : Text → List (List ℕ) → List (Option Event)
said_all t [] = said_last t
said_all t (p ∷ ps) = said_in t p ++ said_all (kept_after t p) ps

-- the input that comes in these pieces
unfoldable pub input_of : List (List ℕ) → List ℕ
input_of [] = []
input_of (p ∷ ps) = p ++ input_of ps
