-- What was read is answered.
-- Assumes nothing.
use Rattle.std.proofs.Common.{length, ◌≤◌}
use Rattle.texts.specs.Kept.{text_room}
use Rattle.console.specs.Console.{Answered}
use Rattle.console.proofs.answer_all.Given as goal

abbrev pub invariant-loop : goal.invariant-loop
invariant-loop g l =
    (text_room ≤ length l.out)
    × Answered l.fn.s l.t (g.R.Read.remaining l.initial.input) (g.R.Read.remaining l.input) (g.W.Write.contents l.initial.answers) (g.W.Write.contents l.answers)
