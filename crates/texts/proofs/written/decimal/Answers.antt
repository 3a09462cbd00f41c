use native.Mathlib.Omega.{arith}
use Rattle.texts.proofs.OneDigit.{one-digit}
use Rattle.texts.proofs.Writing.{wrote-longer}
use Rattle.texts.proofs.written.decimal.Goals as goal

pub returns-then-n-lt10 : goal.returns-then-n-lt10
returns-then-n-lt10 c =
    simp (one-digit _ c.if-n-lt10.true) (wrote-longer (omega arith) c.put.ensures)
