use Rattle.registers.proofs.Placed.{placed}
use Rattle.write_access.proofs.write.Goals as goal

pub write_kind-requires : goal.write_kind-requires
write_kind-requires c = rw c.kind_of.ensures (placed _)
