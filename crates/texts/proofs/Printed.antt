-- The line of an answer has room.
-- Assumes nothing.
use Prim.Native.Nat.{ℕ, ◌/◌, ◌%◌, ◌≤◌}
use mathlib.Core.Bool.{Bool, true, false, cond}
use mathlib.Core.List.{List, [], ◌∷◌}
use mathlib.Core.Path.{◌≡◌}
use native.Mathlib.Omega.{arith}
use lib.Dec.{ltb}
use lib.ListN.{length, get_or, length-append}
use Rattle.rules.specs.declared.Answer.{Answer}
use Rattle.rules.specs.declared.Report.{Report}
use Rattle.texts.specs.Answers.{decimal_digit, hex_text, nibble_text, flag_text, place_text, decimal_text, count_text, counts_text, report_text, answer_text}
use Rattle.texts.specs.Kept.{text_room, no_text, typed, bytes_of}
use Rattle.texts.proofs.Keeping.{bytes-line}

place_short : (p n : ℕ) → length (place_text p n) ≤ 1
unfolding place_text
place_short p n = one (ltb n p)
  where
    one : (f : Bool) → length (cond f [] ((decimal_digit (n / p % 10)) ∷ [])) ≤ 1
    one true = omega arith
    one false = omega arith

pub decimal-short : (n : ℕ) → length (decimal_text n) ≤ 10
unfolding decimal_text
decimal-short n =
    simp length-append
    (omega (
      arith,
      place_short 1000000000 n,
      place_short 100000000 n,
      place_short 10000000 n,
      place_short 1000000 n,
      place_short 100000 n,
      place_short 10000 n,
      place_short 1000 n,
      place_short 100 n,
      place_short 10 n,
    ))

-- three counts, with a space each
counts-short : (ns : List ℕ) → length (counts_text ns) ≤ 33
unfolding counts_text count_text
counts-short ns =
    simp length-append (omega (arith, decimal-short (get_or ns 0 0), decimal-short (get_or ns 1 0), decimal-short (get_or ns 2 0)))

pub report-short : (r : Report) → length (report_text r) ≤ 66
unfolding report_text
report-short r = simp length-append (omega (arith, counts-short r.terminals, counts-short r.lost))

pub answer-short : (a : Answer) → length (answer_text a) ≤ text_room
unfolding answer_text hex_text nibble_text flag_text
answer-short a = simp length-append (omega (arith, decimal-short a.code, report-short a.report))

pub answer-bytes : (a : Answer) → bytes_of (typed no_text (answer_text a)) ≡ answer_text a
answer-bytes a = bytes-line (answer_text a) (answer-short a)
