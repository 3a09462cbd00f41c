-- As far as the place in the piece, its bytes are said to the session, and the answers to them are written.
-- Assumes nothing.
use Rattle.std.proofs.Common.{length, ◌-◌, ◌≤◌, ◌≡◌, take}
use Rattle.std.specs.Io.KnownBytes.{Appends}
use Rattle.texts.specs.Kept.{text_room}
use Rattle.session.specs.Sessions.{after_of, answers_in}
use Rattle.console.proofs.answer_piece.Given as goal

abbrev pub invariant-loop-at : goal.invariant-loop-at
invariant-loop-at g l =
    (text_room ≤ length l.out) × (l.at ≤ length l.piece)
    × (l.t ≡ after_of l.initial.t (take l.at l.piece))
    × Appends (g.W.Write.contents l.initial.answers) (g.W.Write.contents l.answers) (answers_in l.initial.t (take l.at l.piece))

abbrev pub decreases-loop-at : goal.decreases-loop-at
decreases-loop-at g l = length l.piece - l.at
