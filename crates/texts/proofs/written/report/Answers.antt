use Rattle.texts.specs.Answers.{report_text}
use Rattle.texts.proofs.Writing.{wrote-more}
use Rattle.texts.proofs.written.report.Goals as goal

pub returns : goal.returns
unfolding report_text
returns c =
    wrote-more c.counts-i.ensures c.counts.ensures
