-- Paper 02, W-210: T n in timer clocks. The phase is on no line and in nothing that a step looks at, so n clocks are their timer clocks, and
-- then the phase.
-- Assumes nothing.
use Prim.Native.Nat.{ℕ, zero, suc, ◌+◌, ◌%◌}
use mathlib.Core.Path.{◌≡◌, refl, sym, ap, ◌∙◌}
use mathlib.Core.Bool.{Bool, true, false}
use native.Mathlib.Omega.{arith}
use borrow.Author.Tests.{eqb-true, eqb-false, eq-eqb, ne_eqb}
use Rattle.rules.specs.declared.Device.{Device}
use Rattle.rules.specs.declared.Ran.{Ran}
use Rattle.basics.specs.Byte.{bit, num}
use Rattle.basics.specs.Iterate.{iterate}
use Rattle.rules.specs.With.{with_phase}
use Rattle.rules.specs.Report.{no_report}
use Rattle.rules.specs.Registers.{reset}
use Rattle.rules.specs.Handshakes.{is_line, ackin_at, offers_at, shown_at}
use Rattle.rules.specs.PortData.{direction_at, special_at, lined, value_at, pins_at, path_at, seen_at}
use Rattle.rules.specs.Step.{lines_at, step_of, reported, clock_of, ran_of}
use Rattle.theorems.specs.Free.{timer_clocks}
use Rattle.theorems.specs.Moving.{phase_after}
use Rattle.theorems.proofs.Frame.{frame_step}
use Rattle.theorems.proofs.Reports.{clock-first, clock-timer}

-- a timer clock, where the phase is low before it
abbrev pub timed : Ran → Ran
timed s = reported s.report (step_of true s.device s.device)

-- a run with that phase
abbrev pub phased : Bool → Ran → Ran
phased v s = record { device = with_phase s.device v; report = s.report }

-- the phase low, and nothing to report
abbrev pub lowered : Device → Ran
lowered d = record { device = with_phase d false; report = no_report }

-- k timer clocks
abbrev pub times : Device → ℕ → Ran
times d k = iterate k timed (lowered d)

-- a step from the record with phase high is the step from the low one
step-phase : (d : Device) (v : Bool) (e : Device) → step_of true (with_phase d v) e ≡ step_of true d e
unfolding step_of lines_at seen_at path_at pins_at value_at direction_at special_at lined is_line shown_at offers_at ackin_at
step-phase d v e = refl

-- the phase as it is
pub phase-same : (d : Device) (v : Bool) → d.phase ≡ v → with_phase d v ≡ d
phase-same d v p = ap (with_phase d) (sym p)

-- ---- k timer clocks leave the phase low, and RESET as it was
times-phase : (d : Device) (k : ℕ) → (times d k).device.phase ≡ false
unfolding iterate reported
times-phase d zero = refl
times-phase d (suc k) = (frame_step true (times d k).device (times d k).device).phase ∙ times-phase d k

times-reset : (d : Device) (k : ℕ) → reset (times d k).device ≡ reset d
unfolding iterate reported
times-reset d zero = refl
times-reset d (suc k) =
    ap (λ (m : ℕ). bit m 0) (frame_step true (times d k).device (times d k).device).master ∙ times-reset d k

-- ---- one clock more
module _ (s : Ran) (r : reset s.device ≡ false) (p : s.device.phase ≡ false) where
  clock-low : clock_of (phased false s) ≡ phased true s
  clock-low = clock-first (phased false s) r refl

  clock-high : clock_of (phased true s) ≡ phased false (timed s)
  unfolding reported
  clock-high =
      let f = (frame_step true s.device s.device).phase ∙ p in
      clock-timer (phased true s) r refl
      ∙ ap (reported s.report) (step-phase s.device true (with_phase s.device false))
      ∙ ap (λ (e : Device). reported s.report (step_of true s.device e)) (phase-same s.device false p)
      ∙ ap (λ (e : Device). record { device = e; report = (timed s).report }) (sym (phase-same (timed s).device false f))

module _ (d : Device) (r : reset d ≡ false) where
  abbrev after : ℕ → Ran
  after n = phased (phase_after d n) (times d (timer_clocks d n))

  more_by : (n : ℕ) (v : Bool) → phase_after d n ≡ v → clock_of (after n) ≡ after (suc n)
  unfolding phase_after iterate
  more_by n false e =
      let odd : (n + num d.phase) % 2 ≡ 1 → ⊥ = eqb-false _ _ e in
      let k : timer_clocks d n ≡ timer_clocks d (suc n) = omega arith in
      let s = times d (timer_clocks d n) in
      ap (λ (v : Bool). clock_of (phased v s)) e
      ∙ clock-low s (times-reset d (timer_clocks d n) ∙ r) (times-phase d (timer_clocks d n))
      ∙ ap (λ (v : Bool). phased v s) (sym (eq-eqb ((suc n + num d.phase) % 2) 1 (omega arith)))
      ∙ ap (λ (k : ℕ). phased (phase_after d (suc n)) (times d k)) k
  more_by n true e =
      let odd : (n + num d.phase) % 2 ≡ 1 = eqb-true _ _ e in
      let k : suc (timer_clocks d n) ≡ timer_clocks d (suc n) = omega arith in
      let s = times d (timer_clocks d n) in
      ap (λ (v : Bool). clock_of (phased v s)) e
      ∙ clock-high s (times-reset d (timer_clocks d n) ∙ r) (times-phase d (timer_clocks d n))
      ∙ ap (λ (v : Bool). phased v (timed s)) (sym (ne_eqb ((suc n + num d.phase) % 2) 1 (λ z. omega arith)))
      ∙ ap (λ (k : ℕ). phased (phase_after d (suc n)) (times d k)) k

  none-by : (v : Bool) → d.phase ≡ v → ran_of 0 d ≡ after 0
  unfolding ran_of iterate phase_after
  none-by true p = simp p (ap (λ (v : Bool). record { device = with_phase d v; report = no_report }) p)
  none-by false p = simp p (ap (λ (v : Bool). record { device = with_phase d v; report = no_report }) p)

  run : (n : ℕ) → ran_of n d ≡ after n
  unfolding ran_of iterate
  run zero = none-by _ refl
  run (suc n) = ap clock_of (run n) ∙ more_by n _ refl

-- n clocks
pub ran-timed : (d : Device) (n : ℕ) → reset d ≡ false → ran_of n d ≡ phased (phase_after d n) (times d (timer_clocks d n))
ran-timed d n r = run d r n
