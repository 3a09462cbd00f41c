-- The lines of a board: "`n W aa bb`, `n R aa`, `n P aa bb cc`, `n X` with one decimal digit n for the device, the first is 0;
-- `T n`, `K`, `E v` name none", and its answers: "code and value, then for each device ` | ` and its pins A, B, C, INT, IEO, three
-- terminal and three lost counts".
-- Assumes nothing.
use Prim.Native.Char.{code}
use Rattle.std.specs.Prelude.{ℕ, ◌-◌, Bool, ◌&&◌, None, List, [], ◌∷◌, ◌++◌, ltb, drop, get_or, length, if◌then◌else◌, ◌==◌}
use Rattle.basics.specs.Signs.{within}
use Rattle.rules.specs.declared.Answer.{Answer}
use Rattle.rules.specs.declared.Event.{Event}
use Rattle.rows.specs.declared.RowAnswer.{RowAnswer}
use Rattle.rows.specs.declared.RowEvent.{RowEvent}
use Rattle.rows.specs.declared.Shown.{Shown}
use Rattle.rows.specs.Rows.{names}
use Rattle.texts.specs.declared.Text.{Text}
use Rattle.texts.specs.Answers.{space, decimal_text, hex_text, levels_text}
use Rattle.texts.specs.Kept.{no_text, bytes_of}
use Rattle.lines.specs.Lines.{line_most, event_in, says_of}
use Rattle.lines.specs.Pieces.{cut_from}

-- ---- what a line says
-- an unreadable line is answered as a kind above 6 is
abbrev pub unreadable : RowEvent
unreadable = record { device = 0; event = event_in None }

-- a line that begins with a digit and a space says of a device what the rest of it says
unfoldable pub names_device : List ℕ → Bool
names_device w = ltb 1 (length w) && within (code "0") (code "9") (get_or w 0 0) && get_or w 1 0 == space

-- W, R, P and X have a device before them
unfoldable pub of_device : ℕ → Event → RowEvent
of_device n e = if names e then record { device = n; event = e } else unreadable

-- and T, K and E none
unfoldable pub of_all : Event → RowEvent
of_all e = if names e then unreadable else record { device = 0; event = e }

-- what the bytes w say, where as a line of a trace they say e: "at most 80 bytes a line"; what follows the digit and its space is
-- read from the place 2 on to the end of the line
unfoldable pub row_says : List ℕ → Event → RowEvent
row_says w e =
    if ltb line_most (length w) then unreadable else
    if names_device w then of_device (get_or w 0 0 - code "0") (event_in (says_of (cut_from no_text 2 (drop 2 w)).text)) else
    of_all e

-- what a line says that is kept
unfoldable pub row_line : Text → RowEvent
row_line t = row_says (bytes_of t) (event_in (says_of t))

-- ---- the bytes of an answer
-- "code and value"
unfoldable pub head_text : RowAnswer → List ℕ
head_text a = decimal_text a.code ++ hex_text a.value

-- as an answer of this device alone
abbrev pub alone : Shown → Answer
alone x = record { code = 0; value = 0; a = x.a; b = x.b; c = x.c; int = x.int; ieo = x.ieo; report = x.report }

-- "for each device ` | ` and its pins A, B, C, INT, IEO, three terminal and three lost counts", the last space before the pins
unfoldable pub device_text : Shown → List ℕ
device_text x = (space ∷ code "|" ∷ []) ++ levels_text (alone x)
