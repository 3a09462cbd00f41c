-- What a step compares before and after.
-- Assumes nothing.
use Rattle.rules.specs.declared.Device.{Device}
use Rattle.rules.specs.PortData.{path_at, seen_at}
use Rattle.levels.specs.declared.Looks.{Looks}

-- "Inputs are path values without catchers" of the counters, CT1 and CT2 at Port B and CT3 at Port C; of the patterns "path values with catchers"
abbrev pub looks_of : Device → Looks
looks_of d = record { b = path_at d 1; c = path_at d 2; seen_a = seen_at d 0; seen_b = seen_at d 1 }
