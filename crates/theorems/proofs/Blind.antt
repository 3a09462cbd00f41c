-- A step, and so a clock, does not look at the stored lines and leaves them as they are: with other lines it does the same.
-- Assumes nothing.
use Prim.Native.Nat.{ℕ}
use mathlib.Core.Path.{◌≡◌, refl, sym, ap, ◌∙◌}
use mathlib.Core.Bool.{Bool, true, false}
use Rattle.rules.specs.declared.Device.{Device}
use Rattle.rules.specs.declared.Lines.{Lines}
use Rattle.rules.specs.declared.Ran.{Ran}
use Rattle.rules.specs.Record.{pattern_at, of_port}
use Rattle.rules.specs.With.{with_pmf, with_pattern, with_phase, with_lines}
use Rattle.rules.specs.Registers.{reset, port_enabled}
use Rattle.rules.specs.Handshakes.{is_line, ackin_at, offers_at, shown_at}
use Rattle.rules.specs.PortData.{direction_at, special_at, lined, value_at, pins_at, path_at, seen_at}
use Rattle.rules.specs.Patterns.{match_of}
use Rattle.rules.specs.Step.{lines_at, caught_at, catchers, matched_by, pattern_turn, settled, step_of, reported, clock_of}
use Rattle.theorems.proofs.Fates.{event-apart}
use Rattle.theorems.proofs.Apart.{step_with, Aside, step-apart}
use Rattle.theorems.proofs.Reports.{clock-held, clock-first, clock-timer}

module _ (l : Lines) where
  -- a record and a run with the lines l
  abbrev lit : Device → Device
  lit d = with_lines d l

  abbrev pub lit_run : Ran → Ran
  lit_run s = record { device = lit s.device; report = s.report }

  -- ---- what is seen, and the catchers
  seen-lit : (d : Device) (p : ℕ) → seen_at (lit d) p ≡ seen_at d p
  unfolding seen_at path_at pins_at value_at direction_at special_at lined is_line shown_at offers_at ackin_at
  seen-lit d p = refl

  catchers-lit : (d : Device) → catchers (lit d) ≡ lit (catchers d)
  unfolding catchers caught_at path_at pins_at value_at direction_at special_at lined is_line shown_at offers_at ackin_at
  catchers-lit d = refl

  -- ---- the turns of the patterns
  matched-lit : (p : ℕ) (matches : Bool) (d : Device) → matched_by p matches (lit d) ≡ lit (matched_by p matches d)
  unfolding matched_by
  matched-lit p matches d =
      event-apart lit (λ e. refl) (λ e k s. refl) (with_pattern d p (with_pmf (pattern_at d p) matches)) (of_port p) _ _

  pattern-lit : (p before : ℕ) (d : Device) → pattern_turn p before (lit d) ≡ lit (pattern_turn p before d)
  unfolding pattern_turn
  pattern-lit p before d =
      ap (λ (x : ℕ). matched_by p (match_of (port_enabled d p) (pattern_at d p) before x) (lit d)) (seen-lit d p)
      ∙ matched-lit p (match_of (port_enabled d p) (pattern_at d p) before (seen_at d p)) d

  settled-lit : (a b : ℕ) (d : Device) → settled a b (lit d) ≡ lit (settled a b d)
  unfolding settled
  settled-lit a b d =
      ap (λ (e : Device). pattern_turn 1 b (pattern_turn 0 a e)) (catchers-lit d) ∙ ap (pattern_turn 1 b) (pattern-lit 0 a (catchers d))
      ∙ pattern-lit 1 b (pattern_turn 0 a (catchers d))

  -- ---- a step
  aside : Aside lit
  aside =
      record {
        version = λ d. refl;
        config = λ d. refl;
        counters = λ d. refl;
        sources = λ d. refl;
        counted = λ d i c. refl;
        sourced = λ d k s. refl;
      }

  step-lit : (timer : Bool) (d0 d1 : Device) → step_of timer (lit d0) (lit d1) ≡ step_with lit (step_of timer d0 d1)
  unfolding step_of lines_at seen_at path_at pins_at value_at direction_at special_at lined is_line shown_at offers_at ackin_at
  step-lit timer d0 d1 = step-apart lit aside timer d0 d1 (λ i. refl) (λ e _. settled-lit _ _ e)

  -- ---- a clock
  clock-by : (v p : Bool) (s : Ran) → reset s.device ≡ v → s.device.phase ≡ p → clock_of (lit_run s) ≡ lit_run (clock_of s)
  unfolding reported
  clock-by true p s r q = clock-held (lit_run s) r ∙ ap lit_run (sym (clock-held s r))
  clock-by false false s r q = clock-first (lit_run s) r q ∙ ap lit_run (sym (clock-first s r q))
  clock-by false true s r q =
      clock-timer (lit_run s) r q ∙ ap (reported s.report) (step-lit true s.device (with_phase s.device false)) ∙ ap lit_run (sym (clock-timer s r q))

  pub clock-lit : (s : Ran) → clock_of (lit_run s) ≡ lit_run (clock_of s)
  clock-lit s = clock-by _ _ s refl refl
