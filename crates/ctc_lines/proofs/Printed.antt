-- The line of a CTC's answer has room.
-- Assumes nothing.
use Prim.Native.Nat.{ℕ, ◌≤◌}
use mathlib.Core.List.{List}
use mathlib.Core.Path.{◌≡◌}
use native.Mathlib.Omega.{arith}
use lib.ListN.{length, get_or, length-append}
use Rattle.texts.specs.Answers.{hex_text, nibble_text, flag_text, count_text}
use Rattle.texts.specs.Kept.{text_room, no_text, typed, bytes_of}
use Rattle.texts.proofs.Keeping.{bytes-line}
use Rattle.texts.proofs.Printed.{decimal-short}
use Rattle.ctc_rules.specs.declared.CtcAnswer.{CtcAnswer}
use Rattle.ctc_lines.specs.Answers.{zeros_text, ctc_text}

-- four counts, with a space each
zeros-short : (n : List ℕ) → length (zeros_text n) ≤ 44
unfolding zeros_text count_text
zeros-short n =
    simp length-append
    (omega (arith, decimal-short (get_or n 0 0), decimal-short (get_or n 1 0), decimal-short (get_or n 2 0), decimal-short (get_or n 3 0)))

answer-short : (a : CtcAnswer) → length (ctc_text a) ≤ text_room
unfolding ctc_text hex_text nibble_text flag_text
answer-short a = simp length-append (omega (arith, decimal-short a.code, zeros-short a.zeros))

pub answer-bytes : (a : CtcAnswer) → bytes_of (typed no_text (ctc_text a)) ≡ ctc_text a
answer-bytes a = bytes-line (ctc_text a) (answer-short a)
