-- T changes no IEO: "IEO = IEI, no IUS anywhere, DLC = 0", and a clock changes none of them. So in a sound row each device goes by itself.
-- Assumes nothing.
use Prim.Native.Nat.{ℕ}
use mathlib.Core.Path.{◌≡◌, refl, sym, ap, ◌∙◌}
use mathlib.Core.Bool.{Bool, true, false, So}
use Rattle.rules.specs.declared.Device.{Device}
use Rattle.rules.specs.declared.Source.{Source}
use Rattle.rules.specs.declared.Counted.{Counted}
use Rattle.rules.specs.declared.Link.{Link}
use Rattle.rules.specs.declared.Event.{Event}
use Rattle.rules.specs.declared.Answer.{Answer}
use Rattle.rules.specs.declared.Outcome.{Outcome}
use Rattle.rules.specs.declared.Lines.{Lines}
use Rattle.rules.specs.Record.{source_at, quiet, of_port, of_counter}
use Rattle.rules.specs.With.{with_ip, with_hidden, with_source, with_counter, with_pattern, with_phase}
use Rattle.rules.specs.Interrupts.{served, ieo_of, lines_of, relined}
use Rattle.rules.specs.Step.{event_at, turned, counter_turn, catchers, matched_by, pattern_turn, settled, step_of, ran_of}
use Rattle.rules.specs.Sound.{sound_of}
use Rattle.rules.specs.Events.{is_t, relit, outcome_of, event_of}
use Rattle.basics.proofs.Places.{set_keeps}
use Rattle.theorems.proofs.Fates.{by-fate}
use Rattle.theorems.proofs.Frame.{frame_step}
use Rattle.theorems.proofs.Reports.{ran-keeps}
use Rattle.theorems.proofs.Stored.{sound-lines}
use Rattle.theorems.proofs.Demand3.{ran}
use Rattle.theorems.proofs.Soundness.{ran-relined}

-- ---- IEI and every IUS
record Holds (d e : Device) : Type 0 where
  iei : e.iei ≡ d.iei
  ius : (k : ℕ) → (source_at e k).ius ≡ (source_at d k).ius

hold : (d : Device) → Holds d d
hold d = record { iei = refl; ius = λ k. refl }

then : {d e f : Device} → Holds d e → Holds e f → Holds d f
then a b = record { iei = b.iei ∙ a.iei; ius = λ k. b.ius k ∙ a.ius k }

hold-source : (d : Device) (k : ℕ) (s : Source) → s.ius ≡ (source_at d k).ius → Holds d (with_source d k s)
hold-source d k s q =
    record { iei = refl; ius = λ j. set_keeps (λ i x. x.ius ≡ (source_at d i).ius) d.sources k j s quiet (λ _. q) refl }

hold-event : (d : Device) (k : ℕ) (hides happens : Bool) → Holds d (event_at d k hides happens)
hold-event d k hides happens =
    by-fate (Holds d) d k hides happens (hold d) (λ _. hold-source d k (with_ip (source_at d k) true) refl)
    (λ _ _. hold-source d k (with_hidden (source_at d k) true) refl)

hold-turned : (d : Device) (i : ℕ) (r : Counted) → Holds d (turned d i r).device
unfolding turned event_at
hold-turned d i r =
    let event = hold-event (with_counter d i r.counter) (of_counter i) true r.terminal in
    record { iei = event.iei; ius = event.ius }

hold-turn : (link : Link) (timer : Bool) (were are i : ℕ) (d : Device) → Holds d (counter_turn link timer were are i d).device
unfolding counter_turn
hold-turn link timer were are i d = hold-turned d i _

hold-catchers : (d : Device) → Holds d (catchers d)
unfolding catchers
hold-catchers d = record { iei = refl; ius = λ k. refl }

hold-pattern : (p before : ℕ) (d : Device) → Holds d (pattern_turn p before d)
unfolding pattern_turn matched_by
hold-pattern p before d = let event = hold-event (with_pattern d p _) (of_port p) _ _ in record { iei = event.iei; ius = event.ius }

hold-step : (timer : Bool) (d0 d1 : Device) → Holds d1 (step_of timer d0 d1).device
unfolding step_of settled
hold-step timer d0 d1 =
    then (then (then (hold-turn _ timer _ _ 0 d1) (hold-turn _ timer _ _ 1 _)) (hold-turn _ timer _ _ 2 _))
    (then (then (hold-catchers _) (hold-pattern 0 _ _)) (hold-pattern 1 _ _))

-- ---- IEO
hold-ieo : (d e : Device) → Holds d e → e.master ≡ d.master → ieo_of e ≡ ieo_of d
unfolding ieo_of served
hold-ieo d e h m = simp (h.iei, h.ius, m)

pub ran-ieo : (n : ℕ) (d : Device) → ieo_of (ran_of n d).device ≡ ieo_of d
ran-ieo n d =
    ran-keeps ieo_of (λ e v. hold-ieo e (with_phase e v) (record { iei = refl; ius = λ k. refl }) refl)
    (λ e.
    hold-ieo e _ (then (record { iei = refl; ius = λ k. refl }) (hold-step true e (with_phase e false))) (frame_step true e (with_phase e false)).master)
    n d

pub ran-iei : (n : ℕ) (d : Device) → (ran_of n d).device.iei ≡ d.iei
ran-iei n d = ran-keeps (λ (e : Device). e.iei) (λ e v. refl) (λ e. (hold-step true e (with_phase e false)).iei) n d

-- T changes neither IEI nor IEO of a sound device, and leaves it sound
module _ (d : Device) (e : Event) (t : So (is_t e)) (s : sound_of d ≡ true) where
  pub iei-kept : (event_of d e).device.iei ≡ d.iei
  unfolding outcome_of relit relined
  iei-kept = ap (λ (o : Outcome Device Answer). o.device.iei) (ran d e t s) ∙ ran-iei e.a d

  pub ieo-kept : (event_of d e).device.lines.ieo ≡ d.lines.ieo
  unfolding outcome_of relit relined lines_of
  ieo-kept =
      ap (λ (o : Outcome Device Answer). o.device.lines.ieo) (ran d e t s) ∙ ran-ieo e.a d ∙ sym (ap (λ (l : Lines). l.ieo) (sound-lines d s))

  pub ticks-sound : sound_of (event_of d e).device ≡ true
  unfolding relit outcome_of
  ticks-sound = rw (ran d e t s) (ran-relined e.a d s)
