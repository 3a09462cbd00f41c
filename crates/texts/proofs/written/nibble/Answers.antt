use mathlib.Core.Path.{sym}
use Rattle.texts.specs.Answers.{nibble_text}
use Rattle.texts.proofs.Writing.{wrote-more}
use Rattle.texts.proofs.written.nibble.Goals as goal

pub returns : goal.returns
unfolding nibble_text
returns c =
    simp (sym c.glyph.ensures) (wrote-more c.put-i.ensures c.put.ensures)
