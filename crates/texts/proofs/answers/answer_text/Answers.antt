use native.Mathlib.Omega.{arith}
use Rattle.texts.proofs.Writing.{wrote-text}
use Rattle.texts.proofs.answers.answer_text.Goals as goal

pub returns : goal.returns
returns c = wrote-text c.answer-n.ensures (omega arith)
