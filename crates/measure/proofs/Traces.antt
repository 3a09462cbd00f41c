-- W-201, what the table of any trace says: from any record on, through any events (of which there are fewer than 2^64).
-- Assumes nothing.
use Rattle.std.proofs.Common.{◌≡◌, ℕ, suc, ◌+◌, ◌-◌, ◌*◌, ◌^◌, ◌<◌, ◌≤◌, true, Some, IsSome, IfSome, List, [], ◌∷◌, length, sym, subst, add-zero, arith}
use Rattle.basics.specs.Runs.{record_through}
use Rattle.rules.specs.declared.Device.{Device}
use Rattle.rules.specs.declared.Event.{Event}
use Rattle.rules.specs.Record.{source_at}
use Rattle.measure.specs.declared.Wait.{Wait}
use Rattle.measure.specs.declared.Measure.{Measure}
use Rattle.measure.specs.Wait.{none, dropped, sum64}
use Rattle.measure.specs.Measure.{wait_at, measure_start, most_clocks, measured_of}
use Rattle.measure.specs.Kept.{lasted, Kept}
use Rattle.measure.proofs.WaitLaws.{count-exact, sum-exact}
use Rattle.measure.proofs.Kept.{start-kept, measured-kept}

-- the measure and the record after an event, and after events, one after another
abbrev pub next : Measure × Device → Event → Measure × Device
next p e = ((measured_of p.0 p.1 e).measure, (measured_of p.0 p.1 e).device)

abbrev pub after : Measure → Device → List Event → Measure × Device
after m d = record_through next (m, d)

kept_on : (n : ℕ) (m : Measure) (d : Device) (es : List Event) → n + length es < 2 ^ 64 → Kept n m d
    → Kept (n + length es) (after m d es).0 (after m d es).1
unfolding record_through
kept_on n m d [] f h = subst (λ (i : ℕ). Kept i m d) (sym (add-zero n)) h
kept_on n m d (e ∷ es) f h =
    let r = measured_of m d e in
    subst (λ (i : ℕ). Kept i (after m d (e ∷ es)).0 (after m d (e ∷ es)).1) (omega arith)
    (kept_on (suc n) r.measure r.device es (omega arith) (measured-kept n m d e (omega arith) h))

module _ (d : Device) (es : List Event) (f : suc (length es) < 2 ^ 64) where
  abbrev pub measure : Measure
  measure = (after measure_start d es).0

  pub kept : Kept (length es) measure (after measure_start d es).1
  kept = subst (λ (i : ℕ). Kept i measure (after measure_start d es).1) (omega arith) (kept_on 0 measure_start d es (omega arith) (start-kept d))

  -- "A trace has up to 4,000,000,000 clocks."
  pub clocks-within : measure.clocks ≤ most_clocks
  clocks-within = kept.clocks

  module _ (k : ℕ) where
    abbrev wait : Wait
    wait = wait_at measure k

    -- waits of one source never overlap: what was counted and what runs are together at most the trace's clocks
    pub never-overlap : wait.sum + lasted measure.clocks wait ≤ measure.clocks
    never-overlap = (kept.waits k).apart

    pub sum-within : wait.sum ≤ measure.clocks
    sum-within = omega (arith, never-overlap)

    pub least-greatest : wait.least ≤ wait.greatest
    least-greatest = (kept.waits k).order

    pub least-sum : wait.acknowledged * wait.least ≤ wait.sum
    least-sum = (kept.waits k).low

    pub sum-greatest : wait.sum ≤ wait.acknowledged * wait.greatest
    sum-greatest = (kept.waits k).high

    -- "a source with none shows four zeros"
    pub four-zeros : wait.acknowledged ≡ 0 → dropped wait ≡ none
    four-zeros = (kept.waits k).zeros

    -- a wait runs only while IP stands
    pub runs-with-ip : IsSome wait.since → (source_at (after measure_start d es).1 k).ip ≡ true
    runs-with-ip = (kept.waits k).stands

    -- no number wraps: the next K's sums in 64 bits are the sums, and its wait did not start later
    pub count_fits : sum64 wait.acknowledged 1 ≡ wait.acknowledged + 1
    count_fits = count-exact (length es) measure.clocks _ wait clocks-within f (kept.waits k)

    pub sum_fits : (from : ℕ) → wait.since ≡ Some from → sum64 wait.sum (measure.clocks - from) ≡ wait.sum + (measure.clocks - from)
    sum_fits = sum-exact (length es) measure.clocks _ wait clocks-within f (kept.waits k)

    pub since-within : IfSome wait.since (λ from. from ≤ measure.clocks)
    since-within = (kept.waits k).since
