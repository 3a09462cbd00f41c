use Rattle.texts.specs.Answers.{count_text}
use Rattle.texts.proofs.Writing.{wrote-more}
use Rattle.texts.proofs.written.count.Goals as goal

pub returns : goal.returns
unfolding count_text
returns c =
    wrote-more c.put-i.ensures c.decimal.ensures
