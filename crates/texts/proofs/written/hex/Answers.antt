use mathlib.Core.Path.{sym}
use Rattle.texts.specs.Answers.{hex_text}
use Rattle.texts.proofs.Writing.{wrote-more}
use Rattle.texts.proofs.written.hex.Goals as goal

pub returns : goal.returns
unfolding hex_text
returns c =
    simp (sym c.glyph-2.ensures, sym c.glyph.ensures) (wrote-more c.put-i.ensures (wrote-more c.put-j.ensures c.put.ensures))
