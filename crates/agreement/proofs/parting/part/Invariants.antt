use Rattle.std.proofs.Common.{◌-◌}
use Rattle.agreement.proofs.parting.part.Given as goal

abbrev pub decreases-loop-agreed : goal.decreases-loop-agreed
decreases-loop-agreed g l = 18446744073709551615 - l.agreed
