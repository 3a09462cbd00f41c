-- An answer and a line of BOARD that begins at a place of a buffer: "The comparison of an answer with a line of BOARD is a proved
-- function on slices".
-- Assumes nothing.
use Rattle.std.specs.Prelude.{ℕ, ◌+◌, ◌&&◌, List, ltb, length, take, drop, if◌then◌else◌}
use Rattle.rules.specs.declared.Answer.{Answer}
use Rattle.lines.specs.Pieces.{feed_at}
use Rattle.bench_lines.specs.Compared.{compared_of, agrees}

-- the place after the line that begins at a place, where its line feed is in the buffer and it agrees with the answer; else that place
unfoldable pub agreed_to : Answer → List ℕ → ℕ → ℕ
agreed_to a bytes at =
    let m = drop at bytes in
    if ltb (feed_at m) (length m) && agrees (compared_of a (take (feed_at m) m)) then at + feed_at m + 1 else at
