use mathlib.Core.Logic.{inl, inr}
use borrow.Author.Tests.{eqb-true}
use Rattle.bench_lines.proofs.Walked.{met-one, same-one}
use Rattle.bench_lines.proofs.agreed.has_one.Goals as goal

pub returns-then-x-d : goal.returns-then-x-d
returns-then-x-d c =
    λ e. met-one _ _ c.requires c.if-b-at-ne32.false _ (inl (same-one c.if-x-d.true))

pub returns : goal.returns
returns c =
    λ e. met-one _ _ c.requires c.if-b-at-ne32.false _ (inr (same-one (eqb-true _ _ e)))
