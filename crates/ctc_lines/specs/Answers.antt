-- The bytes of a CTC's answer. docs/CTC.md: "An answer is: code, value (a byte), trigger levels, INT, IEO, and zero counts of the four
-- channels", laid out as the Z8036's: the code and the counts in decimal, the value in two hexadecimal digits, the levels in one.
-- Assumes nothing.
use Rattle.std.specs.Prelude.{ℕ, List, [], ◌∷◌, ◌++◌, get_or}
use Rattle.texts.specs.Answers.{line_feed, hex_text, nibble_text, flag_text, decimal_text, count_text}
use Rattle.ctc_rules.specs.declared.CtcAnswer.{CtcAnswer}

-- "zero counts of the four channels"
unfoldable pub zeros_text : List ℕ → List ℕ
zeros_text n = count_text (get_or n 0 0) ++ count_text (get_or n 1 0) ++ count_text (get_or n 2 0) ++ count_text (get_or n 3 0)

-- the answer, with its line feed
unfoldable pub ctc_text : CtcAnswer → List ℕ
ctc_text a =
    decimal_text a.code ++ hex_text a.value ++ nibble_text a.levels ++ flag_text a.int ++ flag_text a.ieo ++ zeros_text a.zeros
    ++ (line_feed ∷ [])
