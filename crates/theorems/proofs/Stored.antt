-- Paper 02, W-208: the stored lines are "true through every event, reset and refused call", a clock does not look at them, and "A record
-- whose stored lines are false is unsound, code 9".
-- Assumes nothing.
use Prim.Native.Nat.{ℕ, ◌+◌}
use mathlib.Core.Path.{◌≡◌, refl, sym, ap, ◌∙◌}
use mathlib.Core.Bool.{Bool, true, false, not, cond, and-true, true≢false}
use mathlib.Core.List.{List}
use mathlib.Core.Logic.{◌↔◌}
use native.Mathlib.Omega.{arith}
use lib.Dec.{eqb}
use Rattle.rules.specs.declared.Device.{Device}
use Rattle.rules.specs.declared.Lines.{Lines}
use Rattle.rules.specs.declared.Event.{Event}
use Rattle.rules.specs.declared.Answer.{Answer}
use Rattle.rules.specs.declared.Outcome.{Outcome}
use Rattle.rules.specs.declared.Ran.{Ran}
use Rattle.rules.specs.With.{with_lines}
use Rattle.rules.specs.Record.{fresh_of, reset_of}
use Rattle.rules.specs.Report.{no_report}
use Rattle.rules.specs.Interrupts.{first_of, first, served, pending, requests, requester, int_of, ieo_of, place_of, lines_of, relined}
use Rattle.rules.specs.Step.{clock_of, ran_of}
use Rattle.basics.specs.Iterate.{iterate}
use Rattle.rules.specs.Sound.{sound_but_lines, sound_lines, sound_of}
use Rattle.rules.specs.Events.{relit, answer_of, unsound_answer, outcome_of, event_of}
use Rattle.theorems.specs.Traces.{next_of, record_after}
use Rattle.basics.proofs.Iterate.{iterate-commutes}
use Rattle.basics.proofs.Runs.{list-kept}
use Rattle.basics.proofs.Tests.{right, not_so, never}
use Rattle.theorems.proofs.Equal.{same_lines_lem}
use Rattle.theorems.proofs.Refusals.{ways, unsound, code-9}
use Rattle.theorems.proofs.Blind.{lit_run, clock-lit}

-- ---- what is worked out does not go by what is stored
pub lines-blind : (d : Device) (l : Lines) → lines_of (with_lines d l) ≡ lines_of d
unfolding lines_of int_of ieo_of place_of requester first first_of requests pending served
lines-blind d l = refl

pub relined-blind : (d : Device) (l : Lines) → relined (with_lines d l) ≡ relined d
unfolding relined
relined-blind d l = ap (with_lines d) (lines-blind d l)

-- so lines worked out anew are true
pub relined-true : (d : Device) → (relined d).lines ≡ lines_of (relined d)
unfolding relined
relined-true d = sym (lines-blind d (lines_of d))

-- ---- the stored lines of a sound record are those that the definitions work out
pub sound-lines : (d : Device) → sound_of d ≡ true → d.lines ≡ lines_of d
unfolding sound_of sound_lines
sound-lines d s = same_lines_lem d.lines (lines_of d) (right (sound_but_lines d) (sound_lines d) s)

pub sound-relined : (d : Device) → sound_of d ≡ true → relined d ≡ d
unfolding relined
sound-relined d s = ap (with_lines d) (sym (sound-lines d s))

-- of the fresh device, and of a reset
pub fresh_lines : fresh_of.lines ≡ lines_of fresh_of
unfolding lines_of int_of ieo_of place_of requester first first_of requests pending served
fresh_lines = refl

pub reset-lines : (d : Device) → (reset_of d).lines ≡ lines_of (reset_of d)
unfolding reset_of lines_of int_of ieo_of place_of requester first first_of requests pending served
reset-lines d = simp (and-true)

-- ---- after every event, refused or not, and after any events
kept : (d : Device) (e : Event) → d.lines ≡ lines_of d → (event_of d e).device.lines ≡ lines_of (event_of d e).device
unfolding outcome_of relit
kept d e t = ways d e (λ (o : Outcome Device Answer). o.device.lines ≡ lines_of o.device) (λ _. t) (λ _. relined-true _) (λ _. t)

kept-by-all : (d : Device) (es : List Event) → d.lines ≡ lines_of d → (record_after d es).lines ≡ lines_of (record_after d es)
kept-by-all = list-kept next_of (λ (d : Device). d.lines ≡ lines_of d) kept

pub lines-true : (d : Device) (e : Event) → sound_of d ≡ true → (event_of d e).device.lines ≡ lines_of (event_of d e).device
lines-true d e s = kept d e (sound-lines d s)

pub list-lines-true : (d : Device) (es : List Event) → sound_of d ≡ true → (record_after d es).lines ≡ lines_of (record_after d es)
list-lines-true d es s = kept-by-all d es (sound-lines d s)

-- ---- the answer's INT and IEO are those of the record after the event
as-stored : (d : Device) (e : Event) → sound_of d ≡ true
    → ((event_of d e).answer.int ≡ (event_of d e).device.lines.int) × ((event_of d e).answer.ieo ≡ (event_of d e).device.lines.ieo)
unfolding outcome_of answer_of
as-stored d e s =
    ways d e (λ (o : Outcome Device Answer). (o.answer.int ≡ o.device.lines.int) × (o.answer.ieo ≡ o.device.lines.ieo))
    (λ n. never (not_so (sound_of d) ((code-9 d e).0 n)) s) (λ _. (refl, refl)) (λ _. (refl, refl))

pub answer-lines : (d : Device) (e : Event) → sound_of d ≡ true
    → ((event_of d e).answer.int ≡ int_of (event_of d e).device) × ((event_of d e).answer.ieo ≡ ieo_of (event_of d e).device)
unfolding lines_of
answer-lines d e s =
    let t = lines-true d e s in
    let a = as-stored d e s in
    (a.0 ∙ ap (λ (l : Lines). l.int) t, a.1 ∙ ap (λ (l : Lines). l.ieo) t)

-- ---- the place is 0 exactly when INT is 0
place-by : (b : Bool) (k : ℕ) → (cond b 0 (1 + k) ≡ 0) ↔ (not b ≡ false)
place-by true k = (λ _. refl, λ _. refl)
place-by false k = (λ z. absurd (omega (arith, z)), λ z. absurd (true≢false z))

pub place-int : (d : Device) → (place_of d ≡ 0) ↔ (int_of d ≡ false)
unfolding place_of int_of
place-int d = place-by (eqb (requester d) 5) (requester d)

-- ---- a clock does not look at them, nor do n clocks: `lit_run l s` is the run s with the lines l
pub clock-blind : (l : Lines) (s : Ran) → clock_of (lit_run l s) ≡ lit_run l (clock_of s)
clock-blind l s = clock-lit l s

pub clocks-blind : (l : Lines) (n : ℕ) (s : Ran) → iterate n clock_of (lit_run l s) ≡ lit_run l (iterate n clock_of s)
clocks-blind l n s = iterate-commutes clock_of (lit_run l) (clock-lit l) n s

pub ran-blind : (l : Lines) (n : ℕ) (d : Device) → ran_of n (with_lines d l) ≡ lit_run l (ran_of n d)
unfolding ran_of
ran-blind l n d = clocks-blind l n (record { device = d; report = no_report })

-- ---- a record whose stored lines are false gets 9 at every event, and comes back as it came
not_sound : (v : Bool) (d : Device) → sound_of d ≡ v → (d.lines ≡ lines_of d → ⊥) → sound_of d ≡ false
not_sound true d s f = absurd (f (sound-lines d s))
not_sound false d s f = s

pub false-lines : (d : Device) (e : Event) → (d.lines ≡ lines_of d → ⊥) → event_of d e ≡ record { device = d; answer = unsound_answer }
false-lines d e f = unsound d e (not_sound _ d refl f)
