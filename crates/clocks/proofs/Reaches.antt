-- Whether timer clocks come to a counter that no link reaches: no line moves, so a count input counts nothing.
-- Assumes nothing.
use Prim.Native.Nat.{ℕ}
use mathlib.Core.Path.{◌≡◌, refl}
use mathlib.Core.Bool.{Bool, true, false, not, ◌&&◌, ◌||◌, and-true, not-and_self}
use Rattle.rules.specs.declared.Device.{Device}
use Rattle.rules.specs.declared.Counter.{Counter}
use Rattle.basics.specs.Byte.{bit}
use Rattle.rules.specs.Record.{counter_at}
use Rattle.rules.specs.Registers.{counter_enabled}
use Rattle.rules.specs.Counters.{count_input, gate_input, unlinked, reach_of, clocks}
use Rattle.rules.specs.Step.{lines_at}
use Rattle.theorems.specs.Moving.{comes_to}

-- what a timer clock counts at a counter whose lines are w
count_law : (c : Counter) (w : ℕ) (v : Bool) → count_input c ≡ v → (reach_of c unlinked true w w).count ≡ not v
unfolding reach_of
count_law c w true e = simp (e, not-and_self)
count_law c w false e = simp e

gate-law : (c : Counter) (w : ℕ) → (reach_of c unlinked true w w).gate ≡ (not (gate_input c) || bit w 3)
unfolding reach_of
gate-law c w = and-true _

pub comes-law : (d : Device) (i : ℕ)
    → comes_to d i
    ≡ (counter_enabled d i && (counter_at d i).gcb && (not (gate_input (counter_at d i)) || bit (lines_at d i) 3) && not (count_input (counter_at d i)))
unfolding comes_to clocks
comes-law d i =
    let c = counter_at d i in
    simp (gate-law c (lines_at d i), count_law c (lines_at d i) _ refl)
