-- Inside a T no IP falls: an event sets IP or leaves it, and a clock does nothing else to it.
-- Assumes nothing.
use Rattle.std.proofs.Common.{◌≡◌, ℕ, Bool, true, false, refl}
use Rattle.basics.proofs.Places.{set_keeps}
use Rattle.rules.specs.declared.Source.{Source}
use Rattle.rules.specs.declared.Device.{Device}
use Rattle.rules.specs.declared.Link.{Link}
use Rattle.rules.specs.declared.Ran.{Ran}
use Rattle.rules.specs.Record.{quiet, source_at, of_counter}
use Rattle.rules.specs.With.{with_ip, with_hidden, with_counter, with_phase}
use Rattle.rules.specs.Registers.{reset}
use Rattle.rules.specs.Step.{event_at, turned, counter_turn, catchers, matched_by, pattern_turn, settled, step_of, reported, clock_of}
use Rattle.theorems.proofs.Fates.{by-fate}
use Rattle.theorems.proofs.Reports.{clock-held, clock-first, clock-timer}

module _ (k : ℕ) where
  -- IP of source k stands
  abbrev pub Stands : Device → Type 0
  Stands d = (source_at d k).ip ≡ true

  stays-event : (d : Device) (j : ℕ) (hides happens : Bool) → Stands d → Stands (event_at d j hides happens)
  stays-event d j hides happens h =
      let ip : ℕ → Source → Type 0 = λ _ s. s.ip ≡ true in
      by-fate Stands d j hides happens h
      (λ _. set_keeps ip d.sources j k (with_ip (source_at d j) true) quiet (λ _. refl) h)
      (λ _ _. set_keeps ip d.sources j k (with_hidden (source_at d j) true) quiet (λ p. p) h)

  stays-turn : (link : Link) (timer : Bool) (were are i : ℕ) (d : Device) → Stands d → Stands (counter_turn link timer were are i d).device
  unfolding counter_turn turned event_at
  stays-turn link timer were are i d h = stays-event (with_counter d i _) (of_counter i) true _ h

  stays-pattern : (p before : ℕ) (d : Device) → Stands d → Stands (pattern_turn p before d)
  unfolding pattern_turn matched_by
  stays-pattern p before d h = stays-event _ _ _ _ h

  stays-settled : (a b : ℕ) (d : Device) → Stands d → Stands (settled a b d)
  unfolding settled catchers
  stays-settled a b d h = stays-pattern 1 b _ (stays-pattern 0 a (catchers d) h)

  stays_step : (timer : Bool) (d0 d1 : Device) → Stands d1 → Stands (step_of timer d0 d1).device
  unfolding step_of
  stays_step timer d0 d1 h =
      stays-settled _ _ _ (stays-turn _ timer _ _ 2 _ (stays-turn _ timer _ _ 1 _ (stays-turn _ timer _ _ 0 d1 h)))

  clock-by : (v p : Bool) (s : Ran) → reset s.device ≡ v → s.device.phase ≡ p → Stands s.device → Stands (clock_of s).device
  unfolding reported
  clock-by true p s r q h = rw (clock-held s r) h
  clock-by false false s r q h = rw (clock-first s r q) h
  clock-by false true s r q h = rw (clock-timer s r q) (stays_step true s.device (with_phase s.device false) h)

  pub stays-clock : (s : Ran) → Stands s.device → Stands (clock_of s).device
  stays-clock s h = clock-by _ _ s refl refl h
