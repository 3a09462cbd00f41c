use borrow.Author.Rules.{rules}
use Rattle.rules.specs.PortData.{written_data}
use Rattle.ports.proofs.Masks.{put-bits}
use Rattle.write_access.proofs.data.put.Goals as goal

pub returns : goal.returns
unfolding written_data
returns c = simp c.opened-m.ensures (put-bits _ _ _ _ (search rules) (search rules) (search rules) (search rules))
