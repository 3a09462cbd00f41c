use mathlib.Core.Path.{sym, ap, ◌∙◌}
use Rattle.rules.specs.PortData.{pins_at, path_at}
use Rattle.rules.specs.Sound.{sound_port_at}
use Rattle.levels.proofs.Catching.{sound-outside}
use Rattle.refusals.proofs.soundness.sound_port_at.Goals as goal

pub returns : goal.returns
unfolding sound_port_at path_at pins_at
returns c =
    let q = c.effective_at-q.ensures in
    c.sound_port.ensures ∙ (simp (c.port_enabled.ensures, q)) ∙ sym (sound-outside _ _ _) ∙ ap (sound_port_at c.args.d) c.index-p.ensures.same
