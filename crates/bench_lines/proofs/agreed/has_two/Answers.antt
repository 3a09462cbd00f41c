use native.Mathlib.Omega.{arith}
use borrow.Author.Tests.{eqb-true}
use Rattle.bench_lines.proofs.Walked.{met-two}
use Rattle.bench_lines.proofs.agreed.has_two.Goals as goal

pub returns : goal.returns
returns c =
    let h = c.requires in
    λ e. met-two _ _ (omega (arith, h)) c.if-b-at-ne32.false _ _ h c.if-b-at.false (eqb-true _ _ e)
