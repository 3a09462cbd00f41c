use Rattle.registers.proofs.Placed.{placed}
use Rattle.read_access.proofs.read.Goals as goal

pub read_kind-requires : goal.read_kind-requires
read_kind-requires c = rw c.kind_of.ensures (placed _)
