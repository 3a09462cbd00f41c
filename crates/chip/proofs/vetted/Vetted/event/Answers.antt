use Rattle.std.proofs.Common.{◌≡◌, true, sym, subst}
use Rattle.rules.specs.declared.Answer.{Answer}
use Rattle.rules.specs.declared.Outcome.{Outcome}
use Rattle.chip.specs.declared.Chip.{Chip}
use Rattle.chip.specs.Vetting.{Good}
use Rattle.chip.proofs.Kept.{vetted_good}
use Rattle.chip.proofs.vetted.Vetted.event.Goals as goal

pub invariant_of-result : goal.invariant_of-result
invariant_of-result c =
    subst (λ (o : Outcome Chip Answer). c.self.inside.sound ≡ true → Good o.device) (sym c.known-o.ensures) (vetted_good _ _ _ c.self.invariant)
