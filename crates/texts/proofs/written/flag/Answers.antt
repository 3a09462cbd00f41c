use Rattle.texts.specs.Answers.{flag_text}
use Rattle.texts.proofs.Writing.{wrote-more}
use Rattle.texts.proofs.written.flag.Goals as goal

pub returns-then-f : goal.returns-then-f
unfolding flag_text
returns-then-f c =
    simp c.if-f.true (wrote-more c.put-i.ensures c.put.ensures)

pub returns : goal.returns
unfolding flag_text
returns c =
    simp c.if-f.false (wrote-more c.put-i.ensures c.put-2.ensures)
