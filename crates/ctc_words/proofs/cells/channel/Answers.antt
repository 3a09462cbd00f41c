use Rattle.texts.specs.Spelled.{spelled}
use Rattle.ctc_words.specs.Shown.{factor_cell, start_cell, channel_cell}
use Rattle.ctc_words.proofs.cells.channel.Goals as goal

pub returns-in-1 : goal.returns-in-1
unfolding channel_cell factor_cell spelled
returns-in-1 c = simp (c.either-in-1.ensures, c.in-1.is)

pub returns-in-3 : goal.returns-in-3
unfolding channel_cell start_cell spelled
returns-in-3 c = simp (c.either-in-3.ensures, c.in-3.is)
