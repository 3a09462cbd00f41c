use Rattle.std.proofs.Common.{inr, refl}
use Rattle.bench_lines.proofs.Walked.{met-as, like, done}
use Rattle.bench_lines.proofs.agreed.pair.Goals as goal

pub returns-then-has_one-clause-met : goal.returns-then-has_one-clause-met
returns-then-has_one-clause-met c = met-as _ _ _ (like (inr refl) done) (c.has_one.ensures c.if-has_one.true)
