use Rattle.texts.specs.Answers.{decimal_text}
use Rattle.std.proofs.Common.{[]}
use Rattle.bench_lines.proofs.Walked.{met-first}
use Rattle.bench_lines.proofs.agreed.counts.Goals as goal

pub returns-then-not-has_count : goal.returns-then-not-has_count
returns-then-not-has_count c = met-first decimal_text _ [] c.loop-n.n-index _ _ _ c.loop-n.invariant.met

pub returns : goal.returns
returns c = met-first decimal_text _ [] c.loop-n.n-index _ _ _ c.loop-n.invariant.met
