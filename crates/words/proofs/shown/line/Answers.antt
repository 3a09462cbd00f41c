use Rattle.texts.specs.Spelled.{spelled}
use Rattle.words.specs.Shown.{shown_line}
use Rattle.words.proofs.shown.line.Goals as goal

pub returns-in-38 : goal.returns-in-38
unfolding shown_line spelled
returns-in-38 c = simp (c.word-in-38.ensures, c.new-in-38.ensures, c.in-38.is)
