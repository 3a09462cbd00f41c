-- A kind that is known to be another has that other's place among its places.
-- Assumes nothing.
use Prim.Native.Nat.{◌<◌}
use mathlib.Core.Path.{◌≡◌, subst}
use Rattle.rules.specs.declared.Kind.{Kind}
use Rattle.registers.specs.Place.{place, places}

pub inside : {k l : Kind} → k ≡ l → place k < places k → place l < places l
inside e h = subst (λ (k : Kind). place k < places k) e h
