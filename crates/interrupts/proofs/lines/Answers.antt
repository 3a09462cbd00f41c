-- the place is 0 where none requests, and nowhere else
use Prim.Native.Nat.{ℕ, ◌+◌}
use mathlib.Core.Bool.{Bool, true, false, not, cond}
use mathlib.Core.Path.{◌≡◌, refl}
use lib.Dec.{eqb}
use native.Mathlib.Omega.{arith}
use borrow.Author.Tests.{ne_eqb}
use Rattle.rules.specs.declared.Device.{Device}
use Rattle.rules.specs.Interrupts.{requester, int_of, place_of, lines_of}
use Rattle.interrupts.proofs.lines.Goals as goal

zero-where : (none : Bool) (k : ℕ) → not (eqb (cond none 0 (1 + k)) 0) ≡ not none
zero-where true k = refl
zero-where false k = simp (ne_eqb (1 + k) 0 (λ e. omega arith))

requested : (d : Device) → not (eqb (place_of d) 0) ≡ int_of d
unfolding place_of int_of
requested d = zero-where (eqb (requester d) 5) (requester d)

pub returns : goal.returns
unfolding lines_of
returns c = simp (c.place-n.ensures.0, c.ieo.ensures, requested)
