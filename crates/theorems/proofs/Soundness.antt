-- Every event takes a sound record of the device's shape to a sound record, from the fresh device on. No range of a number is asked. A clock
-- keeps all of it but the lines, which the event works out at its end.
-- Assumes nothing.
use Prim.Native.Nat.{ℕ}
use mathlib.Core.Path.{◌≡◌, refl, sym, subst, ◌∙◌}
use mathlib.Core.Bool.{true, true≢false}
use mathlib.Core.List.{List}
use lib.Dec.{lit<}
use Rattle.rules.specs.declared.Device.{Device}
use Rattle.rules.specs.declared.Event.{Event}
use Rattle.rules.specs.declared.Answer.{Answer}
use Rattle.rules.specs.declared.Outcome.{Outcome}
use Rattle.rules.specs.declared.Lines.{Lines}
use Rattle.rules.specs.declared.Ran.{Ran}
use Rattle.rules.specs.Record.{Shaped, fresh_of, reset_of}
use Rattle.rules.specs.Step.{clock_of, ran_of}
use Rattle.basics.specs.Iterate.{iterate}
use Rattle.rules.specs.Events.{relit, outcome_of, event_of}
use Rattle.rules.specs.Interrupts.{lines_of, relined}
use Rattle.rules.specs.Sound.{same_lines, sound_but_lines, sound_lines, sound_of}
use Rattle.basics.proofs.Tests.{so-both, not_so}
use Rattle.basics.proofs.Runs.{list-kept}
use Rattle.theorems.specs.Traces.{next_of, record_after}
use Rattle.theorems.proofs.Equal.{lines_same}
use Rattle.theorems.proofs.Parts.{Sound}
use Rattle.theorems.proofs.Clauses.{clauses, sound-parts, parts-sound}
use Rattle.theorems.proofs.Stepless.{reset-sound, lines-sound}
use Rattle.theorems.proofs.Accepted.{clock-parts, clocks-parts, ran-parts, effect-parts}
use Rattle.theorems.proofs.Stored.{relined-true, fresh_lines}
use Rattle.theorems.proofs.Refusals.{ways, code_is, code-9}
use Rattle.theorems.proofs.Shapes.{fresh-shaped, event-shaped}

-- sound parts and true lines are a sound record; so is a record of sound parts with its lines worked out
with-lines : (d : Device) → Sound d → d.lines ≡ lines_of d → sound_of d ≡ true
unfolding sound_of sound_lines
with-lines d h t = so-both (parts-sound d h) (subst (λ (l : Lines). same_lines d.lines l ≡ true) t (lines_same d.lines))

relined-sound : (d : Device) → Sound d → sound_of (relined d) ≡ true
unfolding relined
relined-sound d h = with-lines (relined d) (lines-sound d (lines_of d) h) (relined-true d)

-- the fresh device is sound
pub fresh-sound : sound_of fresh_of ≡ true
unfolding reset_of
fresh-sound = with-lines fresh_of (reset-sound fresh_of refl (lit< tt)) fresh_lines

-- one clock, and n of them
pub clock-sound : (s : Ran) → sound_but_lines s.device ≡ true → sound_but_lines (clock_of s).device ≡ true
clock-sound s h = parts-sound (clock_of s).device (clock-parts s (clauses s.device h))

pub clocks-sound : (n : ℕ) (s : Ran) → sound_but_lines s.device ≡ true → sound_but_lines (iterate n clock_of s).device ≡ true
clocks-sound n s h = parts-sound (iterate n clock_of s).device (clocks-parts n s (clauses s.device h))

pub ran-sound : (n : ℕ) (d : Device) → sound_but_lines d ≡ true → sound_but_lines (ran_of n d).device ≡ true
ran-sound n d h = parts-sound (ran_of n d).device (ran-parts n d (clauses d h))

-- T n: the lines are worked out after its clocks
pub ran-relined : (n : ℕ) (d : Device) → sound_of d ≡ true → sound_of (relined (ran_of n d).device) ≡ true
ran-relined n d h = relined-sound (ran_of n d).device (ran-parts n d (sound-parts d h))

-- every event
pub event-sound : (d : Device) (e : Event) → Shaped d → sound_of d ≡ true → sound_of (event_of d e).device ≡ true
unfolding outcome_of relit
event-sound d e k h =
    ways d e (λ (o : Outcome Device Answer). sound_of o.device ≡ true) (λ _. h) (λ z. relined-sound _ (effect-parts d e z k (sound-parts d h))) (λ _. h)

-- any events, one after another, from a sound record of the device's shape
abbrev pub Good : Device → Type 0
Good d = Shaped d × (sound_of d ≡ true)

pub event-good : (d : Device) (e : Event) → Good d → Good (next_of d e)
event-good d e g = (event-shaped d g.0 e, event-sound d e g.0 g.1)

pub list-good : (d : Device) (l : List Event) → Good d → Good (record_after d l)
list-good = list-kept next_of Good event-good

-- so from the fresh device no event comes to code 9
pub never-unsound : (l : List Event) (e : Event) → (event_of (record_after fresh_of l) e).answer.code ≡ 9 → ⊥
never-unsound l e n =
    let d = record_after fresh_of l in
    true≢false (sym (list-good fresh_of l (fresh-shaped, fresh-sound)).1 ∙ not_so (sound_of d) ((code-9 d e).0 (sym (code_is d e) ∙ n)))
