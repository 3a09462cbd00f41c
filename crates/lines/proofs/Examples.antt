-- Lines of paper 01's worked example, and lines at the edge of what is readable, from the definitions.
-- Assumes nothing.
use Prim.Native.Nat.{ℕ}
use mathlib.Core.Path.{◌≡◌, refl}
use Rattle.std.specs.Prelude.{Option, None}
use mathlib.Core.Bool.{false}
use mathlib.Core.List.{List, [], ◌∷◌}
use Rattle.rules.specs.Report.{no_report}
use Rattle.rules.specs.declared.Event.{Event}
use Rattle.texts.specs.Answers.{glyph_of, hex_text, nibble_text, flag_text, place_text, decimal_text, count_text, counts_text, report_text, answer_text}
use Rattle.texts.specs.Spelled.{spelled}
use Rattle.lines.specs.Lines.{
  said,
  digit_of,
  number_of,
  numbers_of,
  said_by,
  all_decimal,
  value_of,
  clocks_in,
  no_leading_zeros,
  clocks_of,
  words_of,
  line_of,
}

-- a line and what it says
pub record Reading : Type 0 where
  pub line : List ℕ
  pub says : Option Event

abbrev pub Read : List Reading → Type 0
Read [] = Unit
Read (r ∷ rs) = (line_of r.line ≡ r.says) × Read rs

abbrev pub readings : List Reading
readings =
    record { line = spelled "W 0A C6"; says = said 1 0x0A 0xC6 0 }
    ∷ record { line = spelled "T 6"; says = said 4 6 0 0 }
    ∷ record { line = spelled "K"; says = said 5 0 0 0 }
    ∷ record { line = spelled "R 30"; says = said 2 0x30 0 0 }
    ∷ record { line = spelled "T 0"; says = said 4 0 0 0 }
    ∷ record { line = spelled "T 01"; says = None }
    ∷ record { line = spelled "T 4294967295"; says = said 4 4294967295 0 0 }
    ∷ record { line = spelled "T 4294967296"; says = None }
    ∷ record { line = spelled ""; says = None }
    ∷ record { line = spelled "R 3a"; says = None }
    ∷ record { line = spelled "X\r"; says = None }
    ∷ record { line = spelled "K 00"; says = None }
    ∷ []

pub read : Read readings
unfolding line_of words_of clocks_of no_leading_zeros clocks_in value_of all_decimal said_by numbers_of number_of digit_of spelled
read = (refl, (refl, (refl, (refl, (refl, (refl, (refl, (refl, (refl, (refl, (refl, (refl, tt))))))))))))

-- the answer to K in the worked example, with the lost counts of paper 02, W-202
pub written : answer_text (record { code = 0; value = 0xA4; a = 0; b = 0; c = 0; int = false; ieo = false; report = no_report })
    ≡ spelled "0 A4 00 00 0 0 0 0 0 0 0 0 0\n"
unfolding answer_text report_text counts_text count_text decimal_text place_text flag_text nibble_text hex_text glyph_of spelled
written = refl
