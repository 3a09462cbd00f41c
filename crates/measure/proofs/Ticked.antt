-- The clocks of a T, measured one by one: source by source, and cut anywhere.
-- Assumes nothing.
use Rattle.std.proofs.Common.{◌≡◌, ℕ, zero, suc, ◌+◌, ◌<◌, false, sym, refl, ap, ◌∙◌, add-zero, add-suc, arith}
use Rattle.rules.specs.declared.Device.{Device}
use Rattle.rules.specs.declared.Lines.{Lines}
use Rattle.rules.specs.declared.Ran.{Ran}
use Rattle.rules.specs.With.{with_lines}
use Rattle.rules.specs.Step.{ran_of}
use Rattle.theorems.proofs.Reports.{ran-add}
use Rattle.theorems.proofs.Stored.{ran-blind}
use Rattle.measure.specs.declared.Measure.{Measure}
use Rattle.measure.specs.Wait.{moved}
use Rattle.measure.specs.Measure.{five, wait_at, stepped, clocked, ticked}
use Rattle.measure.specs.Rise.{ip_after, waited}

pub cut-device : (d : Device) (a b : ℕ) → (ran_of (a + b) d).device ≡ (ran_of b (ran_of a d).device).device
cut-device d a b = ap (λ (s : Ran). s.device) (ran-add a b d)

-- the lines are not looked at
pub ticked-blind : (l : Lines) (d : Device) (m : Measure) (n : ℕ) → ticked n (with_lines d l) m ≡ ticked n d m
unfolding ticked clocked stepped
ticked-blind l d m zero = refl
ticked-blind l d m (suc n) = simp (ran-blind l n d, ran-blind l (suc n) d, ticked-blind l d m n)

module _ (d : Device) (m : Measure) where
  -- after one clock and more, and where the trace has that many
  abbrev pub each_over : ℕ → ℕ → Measure
  each_over n now = record { clocks = now; waits = five (λ k. waited k d m.clocks (wait_at m k) n) }

  ticked-each : (n : ℕ) → ticked (suc n) d m ≡ each_over (suc n) (m.clocks + suc n)
  unfolding ticked clocked stepped waited
  ticked-each zero = refl
  ticked-each (suc n) =
      ap (clocked (ran_of (suc n) d).device (ran_of (suc (suc n)) d).device) (ticked-each n)
      ∙ ap (λ (now : ℕ). record { clocks = now; waits = five (λ k. moved (ip_after k d (suc n)) false (ip_after k d (suc (suc n))) now (waited k d m.clocks (wait_at m k) (suc n))) })
      (omega arith)

  pub ticked-some : (n : ℕ) → 0 < n → ticked n d m ≡ each_over n (m.clocks + n)
  ticked-some zero p = absurd (omega arith)
  ticked-some (suc n) p = ticked-each n

  pub ticked-clocks : (n : ℕ) → (ticked n d m).clocks ≡ m.clocks + n
  unfolding ticked
  ticked-clocks zero = sym (add-zero m.clocks)
  ticked-clocks (suc n) = ap (λ (m : Measure). m.clocks) (ticked-each n)

  -- a clocks, then b
  pub ticked-cut : (a b : ℕ) → ticked (a + b) d m ≡ ticked b (ran_of a d).device (ticked a d m)
  unfolding ticked
  ticked-cut a zero = ap (λ (n : ℕ). ticked n d m) (add-zero a)
  ticked-cut a (suc b) =
      ap (λ (n : ℕ). ticked n d m) (add-suc a b)
      ∙ ap (clocked (ran_of (a + b) d).device (ran_of (suc (a + b)) d).device) (ticked-cut a b)
      ∙ ap (λ (e : Device). clocked e (ran_of (suc (a + b)) d).device (ticked b (ran_of a d).device (ticked a d m))) (cut-device d a b)
      ∙ ap (λ (e : Device). clocked (ran_of b (ran_of a d).device).device e (ticked b (ran_of a d).device (ticked a d m)))
      (ap (λ (n : ℕ). (ran_of n d).device) (sym (add-suc a b)) ∙ cut-device d a (suc b))
