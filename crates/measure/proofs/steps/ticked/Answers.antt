use Rattle.std.proofs.Common.{sym, arith}
use Rattle.measure.proofs.Ticked.{ticked-some}
use Rattle.measure.proofs.steps.ticked.Goals as goal

pub returns : goal.returns
returns c =
    let a = c.args in
    simp (
      c.over-5.ensures,
      c.over-4.ensures,
      c.over-3.ensures,
      c.over-2.ensures,
      c.over.ensures,
    )
    (sym (ticked-some a.d a.m a.n (omega (arith, c.if-n-eq0.false))))
