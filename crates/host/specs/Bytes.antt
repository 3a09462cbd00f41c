-- What stands in a host's answer buffer, byte for byte: "value, pins, lines and six counts stand in the answer at documented places".
-- hosts/wolfscarer.h has the places by name.
-- Assumes nothing.
use Rattle.std.specs.Prelude.{ℕ, ◌/◌, ◌%◌, List, [], ◌∷◌, ◌++◌, get_or}
use Rattle.basics.specs.Byte.{num}
use Rattle.rules.specs.declared.Answer.{Answer}
use Rattle.rules.specs.declared.Lines.{Lines}
use Rattle.ctc_rules.specs.declared.CtcAnswer.{CtcAnswer}

-- a count: four bytes, high byte first
unfoldable pub count_bytes : ℕ → List ℕ
count_bytes n = n / 16777216 ∷ n / 65536 % 256 ∷ n / 256 % 256 ∷ n % 256 ∷ []

-- of a Z8036 and a Z8536: code, value, pins A, B, C, INT, IEO, the terminal counts of counters 1, 2, 3, and how many of them were lost
unfoldable pub reply_bytes : Answer → List ℕ
reply_bytes a =
    (a.code ∷ a.value ∷ a.a ∷ a.b ∷ a.c ∷ num a.int ∷ num a.ieo ∷ [])
    ++ count_bytes (get_or a.report.terminals 0 0) ++ count_bytes (get_or a.report.terminals 1 0) ++ count_bytes (get_or a.report.terminals 2 0)
    ++ count_bytes (get_or a.report.lost 0 0) ++ count_bytes (get_or a.report.lost 1 0) ++ count_bytes (get_or a.report.lost 2 0)

-- of a CTC: code, value, levels, INT, IEO, the zero counts of channels 0 to 3
unfoldable pub ctc_bytes : CtcAnswer → List ℕ
ctc_bytes a =
    (a.code ∷ a.value ∷ a.levels ∷ num a.int ∷ num a.ieo ∷ [])
    ++ count_bytes (get_or a.zeros 0 0) ++ count_bytes (get_or a.zeros 1 0) ++ count_bytes (get_or a.zeros 2 0) ++ count_bytes (get_or a.zeros 3 0)

-- of a call for the lines: "INT, IEO and place"
unfoldable pub line_bytes : Lines → List ℕ
line_bytes l = num l.int ∷ num l.ieo ∷ l.place ∷ []

-- how long the three are
abbrev pub answer_len : ℕ
answer_len = 31

abbrev pub ctc_len : ℕ
ctc_len = 21

abbrev pub lines_len : ℕ
lines_len = 3
