-- The report of a run only adds up: clocks do not look at it.
-- Assumes nothing.
use Prim.Native.Nat.{ℕ, zero, suc, ◌+◌, ◌*◌, ◌≤◌, ◌<◌}
use mathlib.Core.Path.{◌≡◌, refl, sym, ap, ◌∙◌}
use mathlib.Core.Bool.{Bool, true, false}
use mathlib.Core.List.{List}
use native.Mathlib.Omega.{arith}
use lib.ListN.{get_or}
use Rattle.rules.specs.declared.Device.{Device}
use Rattle.rules.specs.declared.Ran.{Ran}
use Rattle.rules.specs.declared.Report.{Report}
use Rattle.rules.specs.declared.Stepped.{Stepped}
use Rattle.basics.specs.Byte.{num}
use Rattle.rules.specs.With.{with_phase}
use Rattle.rules.specs.Report.{no_report, nums, reports_added, step_report}
use Rattle.rules.specs.Registers.{reset}
use Rattle.rules.specs.Step.{step_of, reported, clock_of, ran_of}
use Rattle.basics.specs.Iterate.{iterate}
use Rattle.theorems.specs.Reports.{Whole, Fits}
use Rattle.theorems.specs.Free.{timer_clocks}
use Rattle.theorems.specs.Ticks.{on_top}
use Rattle.basics.proofs.Iterate.{iterate-add, iterate-commutes}
use Rattle.theorems.proofs.ReportLaws.{none-whole, added-whole, added_none, added-assoc, none-fits, added-fits, step_fits, fits_more}
use Rattle.theorems.proofs.ReportLaws.{Row, sum-at, sum-le, num-le, nums_at, nums-le}
use Rattle.theorems.proofs.Frame.{frame_step}

-- ---- the three cases of a clock
pub clock-held : (s : Ran) → reset s.device ≡ true → clock_of s ≡ s
unfolding clock_of
clock-held s r = simp r

module _ (s : Ran) (r : reset s.device ≡ false) where
  pub clock-first : s.device.phase ≡ false → clock_of s ≡ record { device = with_phase s.device true; report = s.report }
  unfolding clock_of
  clock-first p = simp (r, p)

  pub clock-timer : s.device.phase ≡ true → clock_of s ≡ reported s.report (step_of true s.device (with_phase s.device false))
  unfolding clock_of
  clock-timer p = simp (r, p)

-- ---- a report on top stays on top
reported-add : (r s : Report) (t : Stepped) → reported (reports_added r s) t ≡ on_top r (reported s t)
unfolding reported
reported-add r s t = ap (λ (x : Report). record { device = t.device; report = x }) (added-assoc r s (step_report t))

clock-add : (r : Report) (v p : Bool) (s : Ran) → reset s.device ≡ v → s.device.phase ≡ p → clock_of (on_top r s) ≡ on_top r (clock_of s)
clock-add r true p s e q = clock-held (on_top r s) e ∙ ap (on_top r) (sym (clock-held s e))
clock-add r false false s e q = clock-first (on_top r s) e q ∙ ap (on_top r) (sym (clock-first s e q))
clock-add r false true s e q =
    clock-timer (on_top r s) e q ∙ reported-add r s.report _ ∙ ap (on_top r) (sym (clock-timer s e q))

pub clock-on-top : (r : Report) (s : Ran) → clock_of (on_top r s) ≡ on_top r (clock_of s)
clock-on-top r s = clock-add r _ _ s refl refl

pub clocks-add : (r : Report) (n : ℕ) (s : Ran) → iterate n clock_of (on_top r s) ≡ on_top r (iterate n clock_of s)
clocks-add r n s = iterate-commutes clock_of (on_top r) (clock-on-top r) n s

-- ---- a clock's report is whole
clock-whole-by : (v p : Bool) (s : Ran) → reset s.device ≡ v → s.device.phase ≡ p → Whole s.report → Whole (clock_of s).report
unfolding reported
clock-whole-by true p s e q w = rw (clock-held s e) w
clock-whole-by false false s e q w = rw (clock-first s e q) w
clock-whole-by false true s e q w = rw (clock-timer s e q) (added-whole s.report _)

pub clocks-whole : (n : ℕ) (s : Ran) → Whole s.report → Whole (iterate n clock_of s).report
unfolding iterate
clocks-whole zero s w = w
clocks-whole (suc n) s w = clock-whole-by _ _ (iterate n clock_of s) refl refl (clocks-whole n s w)

-- ---- a run from nothing
abbrev start : Device → Ran
start d = record { device = d; report = no_report }

pub ran-whole : (n : ℕ) (d : Device) → Whole (ran_of n d).report
unfolding ran_of
ran-whole n d = clocks-whole n (start d) none-whole

ran-alone : (n : ℕ) (d : Device) → on_top (ran_of n d).report (start (ran_of n d).device) ≡ ran_of n d
ran-alone n d = ap (λ (r : Report). record { device = (ran_of n d).device; report = r }) (added_none (ran_of n d).report (ran-whole n d))

-- a run is its first a clocks and then the others
pub ran-add : (a b : ℕ) (d : Device) → ran_of (a + b) d ≡ on_top (ran_of a d).report (ran_of b (ran_of a d).device)
unfolding ran_of
ran-add a b d =
    iterate-add a b clock_of (start d) ∙ ap (iterate b clock_of) (sym (ran-alone a d))
    ∙ clocks-add (ran_of a d).report b (start (ran_of a d).device)

-- no clocks
pub ran-none : (d : Device) → ran_of 0 d ≡ start d
unfolding ran_of iterate
ran-none d = refl

-- "While RESET is 1 .. T changes nothing"
pub ran-held : (n : ℕ) (d : Device) → reset d ≡ true → ran_of n d ≡ start d
unfolding ran_of iterate
ran-held zero d r = refl
ran-held (suc n) d r = ap clock_of (ran-held n d r) ∙ clock-held (start d) r

-- ---- what the phase does not touch and a timer clock's step keeps, a run keeps
module _ {A : Type 0} (f : Device → A) (phase : (d : Device) (v : Bool) → f (with_phase d v) ≡ f d)
    (step : (d : Device) → f (step_of true d (with_phase d false)).device ≡ f d) where
  clock-keeps : (v p : Bool) (s : Ran) → reset s.device ≡ v → s.device.phase ≡ p → f (clock_of s).device ≡ f s.device
  unfolding reported
  clock-keeps true p s e q = ap (λ (t : Ran). f t.device) (clock-held s e)
  clock-keeps false false s e q = ap (λ (t : Ran). f t.device) (clock-first s e q) ∙ phase s.device true
  clock-keeps false true s e q = ap (λ (t : Ran). f t.device) (clock-timer s e q) ∙ step s.device

  pub ran-keeps : (n : ℕ) (d : Device) → f (ran_of n d).device ≡ f d
  unfolding ran_of iterate
  ran-keeps zero d = refl
  ran-keeps (suc n) d = clock-keeps _ _ (ran_of n d) refl refl ∙ ran-keeps n d

-- ---- a timer clock adds at most one of each counter to a row
pub added-at : (w : Row) (r : Report) (t : Stepped) (i : ℕ) → i < 3
    → get_or (w.of (reported r t).report) i 0 ≡ get_or (w.of r) i 0 + num (get_or (w.marks t) i false)
unfolding reported
added-at w r t i h =
    ap (λ (l : List ℕ). get_or l i 0) (w.adds r t) ∙ sum-at (w.of r) (nums (w.marks t)) i h
    ∙ ap (λ (n : ℕ). get_or (w.of r) i 0 + n) (nums_at (w.marks t) i h)

pub no_less : (w : Row) (r : Report) (t : Stepped) (i : ℕ) → i < 3 → get_or (w.of r) i 0 ≤ get_or (w.of (reported r t).report) i 0
no_less w r t i h = omega (arith, added-at w r t i h)

pub one_more : (w : Row) (r : Report) (t : Stepped) (i : ℕ) → get_or (w.of (reported r t).report) i 0 ≤ get_or (w.of r) i 0 + 1
unfolding reported
one_more w r t i =
    let e = ap (λ (l : List ℕ). get_or l i 0) (w.adds r t) in
    omega (arith, e, sum-le (w.of r) (nums (w.marks t)) i, nums-le (w.marks t) i)

-- after n clocks of which k were timer clocks the report fits k
record Spent (d : Device) (n : ℕ) (s : Ran) : Type 0 where
  k : ℕ
  fits : Fits k s.report
  sum : 2 * k + num s.device.phase ≤ n + num d.phase

next-spent : (d : Device) (n : ℕ) (v p : Bool) (s : Ran) → reset s.device ≡ v → s.device.phase ≡ p → Spent d n s → Spent d (suc n) (clock_of s)
unfolding reported
next-spent d n true p s e q h = rw (clock-held s e) (record { k = h.k; fits = h.fits; sum = omega (arith, h.sum) })
next-spent d n false false s e q h =
    let b = ap num q in
    rw (clock-first s e q) (record { k = h.k; fits = h.fits; sum = omega (arith, h.sum, b) })
next-spent d n false true s e q h =
    let b = ap num q in
    let c = ap num (frame_step true s.device (with_phase s.device false)).phase in
    let t = step_of true s.device (with_phase s.device false) in
    rw (clock-timer s e q)
    (record { k = h.k + 1; fits = added-fits h.k 1 s.report (step_report t) h.fits (step_fits t); sum = omega (arith, h.sum, b, c) })

spent : (n : ℕ) (d : Device) → Spent d n (ran_of n d)
unfolding ran_of iterate
spent zero d = record { k = 0; fits = none-fits; sum = omega arith }
spent (suc n) d = next-spent d n _ _ (ran_of n d) refl refl (spent n d)

-- the report of n clocks fits their timer clocks
pub ran-fits : (n : ℕ) (d : Device) → Fits (timer_clocks d n) (ran_of n d).report
ran-fits n d =
    let h = spent n d in
    let b = num-le (ran_of n d).device.phase in
    fits_more h.k (timer_clocks d n) (ran_of n d).report (omega (arith, h.sum, b)) h.fits
