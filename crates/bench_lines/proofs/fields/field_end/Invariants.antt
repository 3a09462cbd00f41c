use Rattle.bench_lines.proofs.Reading.{Read}
use Rattle.bench_lines.proofs.fields.field_end.Given as goal

abbrev pub invariant-loop-i : goal.invariant-loop-i
invariant-loop-i l = Read l.line l.at l.i
