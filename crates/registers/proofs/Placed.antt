-- Every register's kind names one of its places.
-- Assumes nothing.
use Prim.Native.Nat.{ℕ, ◌<◌}
use mathlib.Core.Path.{◌≡◌, refl}
use mathlib.Core.Bool.{Bool, true, false}
use lib.Dec.{ltb, lit<, ltb→lt}
use Rattle.rules.specs.Registers.{port_kind, kind_in, kind_of}
use Rattle.basics.proofs.Laws.{below}
use Rattle.registers.specs.Place.{place, places}

at_least : (b : Bool) (a : ℕ) → ltb a 48 ≡ b → place (kind_of a) < places (kind_of a)
unfolding kind_of kind_in port_kind
at_least true a e =
    rw e (ltb→lt _ _ (below (λ a. ltb (place (kind_in a)) (places (kind_in a))) 48 tt a (ltb→lt a 48 (rw e tt))))
at_least false a e = rw e (lit< tt)

pub placed : (a : ℕ) → place (kind_of a) < places (kind_of a)
placed a = at_least _ a refl
