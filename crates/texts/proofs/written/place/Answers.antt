use borrow.Author.Tests.{lt-ltb}
use Rattle.texts.specs.Answers.{place_text}
use Rattle.texts.proofs.Writing.{wrote_none}
use Rattle.texts.proofs.written.place.Goals as goal

pub returns-then-n-p : goal.returns-then-n-p
unfolding place_text
returns-then-n-p c = simp (lt-ltb _ _ c.if-n-p.true) (wrote_none _ _)
