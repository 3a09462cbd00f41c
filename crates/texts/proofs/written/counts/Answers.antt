use Rattle.texts.specs.Answers.{counts_text}
use Rattle.texts.proofs.Writing.{wrote-more}
use Rattle.texts.proofs.written.counts.Goals as goal

pub returns : goal.returns
unfolding counts_text
returns c =
    wrote-more (wrote-more c.count-i.ensures c.count-j.ensures) c.count.ensures
