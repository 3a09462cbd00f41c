use Rattle.bench_lines.proofs.Walked.{first_one}
use Rattle.bench_lines.proofs.agreed.first.Goals as goal

pub returns-then-is_count-clause-met_first : goal.returns-then-is_count-clause-met_first
returns-then-is_count-clause-met_first c = first_one _ _ _ c.if-b-at.false (c.is_count.ensures c.if-is_count.true)
