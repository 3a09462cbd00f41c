use Rattle.std.proofs.Common.{◌≡◌, drop}
use Rattle.lines.proofs.Digits.{read_on}
use Rattle.lines.proofs.reading.decimal.Given as goal

abbrev pub invariant-loop-b : goal.invariant-loop-b
invariant-loop-b l = read_on l.n (drop l.b-index l.s) ≡ read_on 0 l.s
