use native.Mathlib.Omega.{arith}
use Rattle.texts.proofs.Writing.{wrote-laid}
use Rattle.texts.proofs.answers.write_answer.Goals as goal

pub returns : goal.returns
returns c =
    let e = c.answer.ensures in
    let s = e.short in
    wrote-laid e (omega (arith, c.if-out-at.false, c.if-out-lt-ROOM.false))
