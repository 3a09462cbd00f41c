-- Of a sound record the known event is the event, and every event leaves a sound record.
-- Assumes nothing.
use mathlib.Core.Path.{◌≡◌, refl, sym, ap, subst}
use mathlib.Core.Bool.{Bool, true, false}
use Rattle.rules.specs.declared.Event.{Event}
use Rattle.rules.specs.declared.Answer.{Answer}
use Rattle.rules.specs.declared.Outcome.{Outcome}
use Rattle.event.proofs.Knowing.{known_is}
use Rattle.theorems.proofs.Soundness.{event-good as good-z8036}
use Rattle.z8536.proofs.Soundness.{event-good as good-z8536}
use Rattle.chip.specs.declared.Chip.{Chip}
use Rattle.chip.specs.declared.Chip.TheVariants.{Z8036, Z8536}
use Rattle.chip.specs.Chips.{from_z8036, sound_chip, event_chip, known_chip}
use Rattle.chip.specs.Vetting.{Good}

pub known-chip : (sure : Bool) (c : Chip) (e : Event) → (sure ≡ true → sound_chip c ≡ true) → known_chip sure c e ≡ event_chip c e
unfolding sound_chip known_chip event_chip
known-chip true (Z8036 d) e s = ap from_z8036 (known_is d e (s refl))
known-chip true (Z8536 z) e s = refl
known-chip false c e s = refl

pub event-good : (c : Chip) (e : Event) → Good c → Good (event_chip c e).device
unfolding sound_chip event_chip
event-good (Z8036 d) e g = good-z8036 d e g
event-good (Z8536 z) e g = good-z8536 z e g

-- what is known of a vetted device is enough for the known event, and stays so
pub vetted_event : (sure : Bool) (c : Chip) (e : Event) → (sure ≡ true → Good c) → known_chip sure c e ≡ event_chip c e
vetted_event sure c e g = known-chip sure c e (λ s. (g s).1)

pub vetted_good : (sure : Bool) (c : Chip) (e : Event) → (sure ≡ true → Good c) → sure ≡ true → Good (known_chip sure c e).device
vetted_good sure c e g s = subst (λ (o : Outcome Chip Answer). Good o.device) (sym (vetted_event sure c e g)) (event-good c e (g s))
