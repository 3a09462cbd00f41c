use Prim.Native.Nat.{◌+◌, ◌*◌}
use mathlib.Core.Path.{◌≡◌}
use Rattle.std.proofs.Common.{map, take}
use Rattle.texts.specs.Answers.{decimal_text}
use Rattle.bench_lines.specs.Walk.{Met}
use Rattle.bench_lines.proofs.agreed.counts.Given as goal

abbrev pub invariant-loop-n : goal.invariant-loop-n
invariant-loop-n l = record { at : l.i ≡ l.at + 2 * l.n-index; met : Met (map decimal_text (take l.n-index l.n-items)) l.b l.at l.i }
