use mathlib.Core.Path.{◌∙◌}
use native.Mathlib.Omega.{arith}
use Rattle.texts.proofs.Writing.{wrote-take}
use Rattle.texts.proofs.answers.lay_answer.Goals as goal

pub returns : goal.returns
returns c =
    let wrote = c.answer-n.ensures in
    let s = wrote.short in
    let w = wrote-take wrote (omega arith) in
    let l = c.lay.ensures in
    (l.0 ∙ (simp w), l.1 ∙ (simp w))
