-- An answer and a line of BOARD: which fields differ. "The bench": "The comparison of an answer with a line of BOARD is a proved function
-- on slices, defined in specs: which fields differ, exactly."
-- Assumes nothing.
use Rattle.std.specs.Prelude.{ℕ, ◌%◌, Bool, false, ◌&&◌, not, Option, Some, None, List, [], ◌∷◌, leb, ltb, length, take, get_or, if◌then◌else◌, ◌==◌}
use Rattle.basics.specs.Byte.{num}
use Rattle.rules.specs.declared.Answer.{Answer}
use Rattle.texts.specs.Kept.{text_room}
use Rattle.texts.specs.declared.Text.{Text}
use Rattle.bench_lines.specs.Places.{listed_up_to, holds_up_to}
use Rattle.bench_lines.specs.Fields.{fields_of, field_at, unmeasured, illegible, says_at}
use Rattle.bench_lines.specs.declared.Compared.{Compared}

-- how many fields an answer has
abbrev pub field_count : ℕ
field_count = 13

-- the fields of an answer as numbers, in their order; of C its four bits
abbrev pub answer_numbers : Answer → List ℕ
answer_numbers a =
    a.code ∷ a.value ∷ a.a ∷ a.b ∷ a.c % 16 ∷ num a.int ∷ num a.ieo
    ∷ get_or a.report.terminals 0 0 ∷ get_or a.report.terminals 1 0 ∷ get_or a.report.terminals 2 0
    ∷ get_or a.report.lost 0 0 ∷ get_or a.report.lost 1 0 ∷ get_or a.report.lost 2 0 ∷ []

-- ---- the fields of a line
-- a line is readable where it has no more fields than an answer, and each is `-` or of its form
abbrev pub readable_at : List ℕ → ℕ → Bool
readable_at w i = not (says_at i (field_at w i) == illegible)

unfoldable pub readable_line : List ℕ → Bool
readable_line w = holds_up_to field_count (readable_at w) && leb (length (fields_of w)) field_count

-- a field differs where it is measured, and is not the answer's, whose numbers are ns
abbrev pub differs_by : ℕ → ℕ → Bool
differs_by n says = not (says == unmeasured) && not (says == n)

abbrev pub differs_at : List ℕ → List ℕ → ℕ → Bool
differs_at ns w i = differs_by (get_or ns i 0) (says_at i (field_at w i))

-- ---- the comparison; of a line that is not readable nothing is said
unfoldable pub compared_of : Answer → List ℕ → Option Compared
compared_of a w =
    if readable_line w
    then Some (record {
      agrees = holds_up_to field_count (λ i. not (differs_at (answer_numbers a) w i));
      differs = listed_up_to field_count (differs_at (answer_numbers a) w);
    })
    else None

-- a line of BOARD as it is kept; one that found no room is longer than any answer
unfoldable pub compared_kept : Answer → Text → Option Compared
compared_kept a t = if ltb text_room t.len then None else compared_of a (take t.len t.bytes)

-- a line agrees that is readable and of which no field differs
unfoldable pub agrees : Option Compared → Bool
agrees None = false
agrees (Some c) = c.agrees
