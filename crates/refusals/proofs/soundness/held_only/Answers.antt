use mathlib.Core.Path.{◌≡◌, refl, ap, ◌∙◌}
use mathlib.Core.Bool.{Bool, true, false, not, ◌&&◌, ◌||◌}
use borrow.Author.Rules.{rules}
use Rattle.rules.specs.Record.{vacant}
use Rattle.rules.specs.Handshakes.{handshakes}
use Rattle.rules.specs.Sound.{only, same_transfer, held_only}
use Rattle.record.proofs.Parts.{transfer_eq, transfer-eq}
use Rattle.refusals.proofs.soundness.held_only.Goals as goal

unless : (x r s : Bool) → r ≡ s → (x || r) ≡ only (not x) s
unless true r s p = refl
unless false r s p = p

pub returns : goal.returns
unfolding held_only transfer_eq
returns c =
    let a = c.args in
    let empty : c.default.result ≡ vacant = search rules in
    let same = c.eq.ensures ∙ transfer-eq _ _ ∙ ap (same_transfer a.t) empty in
    simp c.handshakes.ensures (unless (handshakes a.q && a.enabled) _ _ same)
