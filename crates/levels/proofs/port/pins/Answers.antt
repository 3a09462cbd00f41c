use borrow.Author.Rules.{rules}
use Rattle.rules.specs.PortData.{pins_of}
use Rattle.ports.proofs.Masks.{pins-bits}
use Rattle.levels.proofs.port.pins.Goals as goal

pub returns : goal.returns
unfolding pins_of
returns c = simp c.spread.ensures (pins-bits _ _ _ _ _ _ (search rules) (search rules) (search rules) (search rules) (search rules))
