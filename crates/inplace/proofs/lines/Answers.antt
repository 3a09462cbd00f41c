use Rattle.std.proofs.Common.{refl}
use Rattle.theorems.proofs.Stored.{sound-lines}
use Rattle.inplace.proofs.lines.Goals as goal

pub returns : goal.returns
returns c = (refl, sound-lines _)
