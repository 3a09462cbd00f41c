use Prim.Native.Nat.{◌+◌, ◌*◌}
use mathlib.Core.Path.{◌≡◌}
use Rattle.std.proofs.Common.{map, take, ◌∷◌, []}
use Rattle.bench_lines.specs.Walk.{Met}
use Rattle.bench_lines.proofs.agreed.tail.Given as goal

abbrev pub invariant-loop-d : goal.invariant-loop-d
invariant-loop-d l = record { at : l.i ≡ l.at + 2 * l.d-index; met : Met (map (λ d. d ∷ []) (take l.d-index l.d-items)) l.b l.at l.i }
