use mathlib.Core.Path.{sym, ◌∙◌}
use Rattle.rules.specs.PortData.{path_at, pins_at}
use Rattle.levels.proofs.Plain.{path-outside}
use Rattle.levels.proofs.path_at.Goals as goal

pub returns-then-any : goal.returns-then-any
unfolding path_at pins_at
returns-then-any c =
    let f = c.handshake_face-f.ensures in
    c.path.ensures ∙ (simp (f.0, f.1)) ∙ sym (path-outside _ _ _)
