use Rattle.ports.proofs.Masks.{at-lines-bits}
use Rattle.levels.proofs.handshake.at_lines.Goals as goal

pub returns : goal.returns
returns c = simp (c.spread-2.ensures, c.spread.ensures) (at-lines-bits _ _)
