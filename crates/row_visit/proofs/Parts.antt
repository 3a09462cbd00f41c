-- What the clauses of two definitions say under the tests of the code.
-- Assumes nothing.
use mathlib.Core.Path.{◌≡◌, refl}
use Prim.Native.Nat.{ℕ, zero, suc, ◌-◌}
use mathlib.Core.Bool.{Bool}
use native.Mathlib.Omega.{arith}
use Rattle.rules.specs.declared.Device.{Device}
use Rattle.rules.specs.declared.Event.{Event}
use Rattle.rows.specs.Rows.{reached_by, iei_from, part_of}
use Rattle.row_visit.specs.Visits.{one_fewer}

-- the first device keeps its IEI
pub part-first : (does : Bool) (e : Event) (p : ℕ) (high : Bool) (d : Device) → p ≡ 0 → part_of does e p high d ≡ reached_by does e d
unfolding part_of
part-first does e zero high d z = refl
part-first does e (suc p) high d z = absurd (omega arith)

-- and every other takes it from the one before
pub part-later : (does : Bool) (e : Event) (p : ℕ) (high : Bool) (d : Device) → (p ≡ 0 → ⊥)
    → part_of does e p high d
    ≡ record { device = iei_from high (reached_by does e d).device; value = (reached_by does e d).value; report = (reached_by does e d).report }
unfolding part_of
part-later does e zero high d n = absurd (n refl)
part-later does e (suc p) high d n = refl

pub less_one : (n : ℕ) → n - 1 ≡ one_fewer n
unfolding one_fewer
less_one zero = refl
less_one (suc m) = omega arith
