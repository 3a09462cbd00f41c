use Rattle.bench_lines.proofs.Thirteen.{Upto}
use Rattle.bench_lines.proofs.comparing.compare.Given as goal

abbrev pub invariant-loop-i : goal.invariant-loop-i
invariant-loop-i l = Upto l.n l.line l.differs l.agrees l.at l.i
