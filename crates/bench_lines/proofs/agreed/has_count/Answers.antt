use Rattle.bench_lines.proofs.Walked.{met-one}
use Rattle.bench_lines.proofs.agreed.has_count.Goals as goal

pub returns : goal.returns
returns c =
    λ e. met-one _ _ c.requires c.if-b-at-ne32.false _ (c.is_count.ensures e)
