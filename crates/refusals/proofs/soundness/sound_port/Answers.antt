use borrow.Author.Rules.{rules}
use Rattle.rules.specs.Sound.{sound_port, catcher_only, catcher_set}
use Rattle.ports.proofs.Masks.{sound-bits}
use Rattle.refusals.proofs.soundness.sound_port.Goals as goal

pub returns : goal.returns
unfolding sound_port catcher_only catcher_set
returns c = simp c.places-m.ensures (sound-bits _ _ _ (search rules) (search rules))
