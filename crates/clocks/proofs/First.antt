-- The first two clocks of a record whose catchers have not caught, and the clocks after them.
-- Assumes nothing.
use Prim.Native.Nat.{ℕ, ◌+◌, ◌-◌, ◌≤◌, ◌<◌}
use mathlib.Core.Path.{◌≡◌, refl, sym, subst, ap, ◌∙◌}
use mathlib.Core.Bool.{true, false}
use native.Mathlib.Omega.{arith}
use Rattle.rules.specs.declared.Ran.{Ran}
use Rattle.rules.specs.declared.Report.{Report}
use Rattle.basics.specs.Byte.{bit}
use Rattle.basics.specs.Iterate.{iterate}
use Rattle.rules.specs.With.{with_phase}
use Rattle.rules.specs.Registers.{reset}
use Rattle.rules.specs.Report.{no_report}
use Rattle.rules.specs.Step.{clock_of, ran_of}
use Rattle.theorems.specs.Reports.{Fits}
use Rattle.theorems.specs.Ticks.{on_top}
use Rattle.theorems.specs.Free.{timer_clocks}
use Rattle.theorems.proofs.ReportLaws.{num-le, fits_more}
use Rattle.theorems.proofs.Frame.{frame_step}
use Rattle.theorems.proofs.Reports.{ran-add, ran-keeps, ran-fits}
use Rattle.clocks.specs.Room.{Room, Both}

roomy : (k n : ℕ) → k + n ≤ 4294967295 → {r : Report} → Fits k r → Room n r
roomy k n h f = record { terminals = λ i. omega (arith, f.terminals i); lost = λ i. omega (arith, f.lost i) }

module _ (s : Ran) (none : s.report ≡ no_report) where
  -- a run from nothing
  begins : s ≡ record { device = s.device; report = no_report }
  begins = λ i. record { device = s.device; report = none i }

  pub ran-none : (n : ℕ) → n ≡ 0 → s ≡ ran_of n s.device
  unfolding ran_of iterate
  ran-none n z = begins ∙ ap (λ (k : ℕ). ran_of k s.device) (sym z)

  pub ran-one : (n : ℕ) → n ≡ 1 → clock_of s ≡ ran_of n s.device
  unfolding ran_of iterate
  ran-one n z = ap clock_of begins ∙ ap (λ (k : ℕ). ran_of k s.device) (sym z)

  ran-two : clock_of (clock_of s) ≡ ran_of 2 s.device
  unfolding ran_of iterate
  ran-two = ap (λ (t : Ran). clock_of (clock_of t)) begins

  pub ran-rest : (n : ℕ) → 2 ≤ n → on_top (clock_of (clock_of s)).report (ran_of (n - 2) (clock_of (clock_of s)).device) ≡ ran_of n s.device
  ran-rest n h =
      ap (λ (t : Ran). on_top t.report (ran_of (n - 2) t.device)) ran-two ∙ sym (ran-add 2 (n - 2) s.device)
      ∙ ap (λ (k : ℕ). ran_of k s.device) (omega arith)

  -- there is room for each
  fits : (n : ℕ) → Fits n (ran_of n s.device).report
  fits n = fits_more (timer_clocks s.device n) n (ran_of n s.device).report (omega (arith, num-le s.device.phase)) (ran-fits n s.device)

  pub room-first : Room 1 s.report
  room-first = roomy 0 1 (omega arith) (subst (λ (t : Ran). Fits 0 t.report) (sym (ran-none 0 refl)) (fits 0))

  pub room-second : Room 1 (clock_of s).report
  room-second = roomy 1 1 (omega arith) (subst (λ (t : Ran). Fits 1 t.report) (sym (ran-one 1 refl)) (fits 1))

  pub room-rest : (n : ℕ) → 2 ≤ n → n < 4294967296 → Both (clock_of (clock_of s)).report (ran_of (n - 2) (clock_of (clock_of s)).device).report
  room-rest n h l =
      let e = (clock_of (clock_of s)).device in
      let f = subst (λ (t : Ran). Fits 2 t.report) (sym ran-two) (fits 2) in
      let g = fits_more (timer_clocks e (n - 2)) (n - 2) (ran_of (n - 2) e).report (omega (arith, num-le e.phase)) (ran-fits (n - 2) e) in
      record { terminals = λ i. omega (arith, f.terminals i, g.terminals i); lost = λ i. omega (arith, f.lost i, g.lost i) }

  -- and RESET stays off
  pub still-on : reset s.device ≡ false → reset (clock_of (clock_of s)).device ≡ false
  still-on r =
      ap (λ (t : Ran). reset t.device) ran-two
      ∙ ran-keeps reset (λ d v. refl) (λ d. ap (λ (m : ℕ). bit m 0) (frame_step true d (with_phase d false)).master) 2 s.device ∙ r
