-- The event of a record that is known to be sound is the event.
-- Assumes nothing.
use Prim.Native.Nat.{ℕ}
use mathlib.Core.Path.{◌≡◌, sym, ap, ◌∙◌}
use mathlib.Core.Bool.{Bool, true, not, cond}
use lib.Dec.{eqb}
use Rattle.rules.specs.declared.Device.{Device}
use Rattle.rules.specs.declared.Event.{Event}
use Rattle.rules.specs.declared.Effect.{Effect}
use Rattle.rules.specs.Sound.{sound_of}
use Rattle.rules.specs.Events.{code_of, effect, effect_of, relit, outcome_of, unsound_answer, event_of}
use Rattle.refusals.specs.Known.{known_code}
use Rattle.theorems.proofs.Codes.{test-9}
use Rattle.event.specs.Known.{known_of}
use Rattle.event.proofs.Refused.{as_it_was}

pub known-code : (d : Device) (e : Event) → sound_of d ≡ true → code_of d e ≡ known_code d e
unfolding code_of known_code
known-code d e s = simp (s)

pub known_is : (d : Device) (e : Event) → sound_of d ≡ true → known_of d e ≡ event_of d e
unfolding known_of event_of
known_is d e s =
    let nine = test-9 d e ∙ ap not s in
    let same = sym (known-code d e s) in
    ap (λ (n : ℕ). cond (eqb n 0) (outcome_of 0 (relit (effect_of d e))) (outcome_of n (relit (effect d 0)))) same
    ∙ ap (λ (f : Effect). cond (eqb (code_of d e) 0) (outcome_of 0 (relit (effect_of d e))) (outcome_of (code_of d e) f)) (as_it_was d e nine)
    ∙ ap
    (λ (b : Bool). cond b (record { device = d; answer = unsound_answer }) (cond (eqb (code_of d e) 0) (outcome_of 0 (relit (effect_of d e))) (outcome_of (code_of d e) (effect d 0))))
    (sym nine)
