-- What holds of the measure of any trace is kept by every event.
-- Assumes nothing.
use Rattle.std.proofs.Common.{◌≡◌, ℕ, zero, suc, ◌+◌, ◌^◌, ◌<◌, ◌≤◌, Bool, false, get_or, sym, refl, subst, arith, ltb-false}
use Rattle.basics.proofs.Places.{set_keeps}
use Rattle.rules.specs.declared.Source.{Source}
use Rattle.rules.specs.declared.Device.{Device}
use Rattle.rules.specs.declared.Event.{Event}
use Rattle.rules.specs.Record.{quiet, source_at}
use Rattle.rules.specs.Interrupts.{requester, relined, acknowledged}
use Rattle.rules.specs.Step.{ran_of}
use Rattle.rules.specs.Events.{code_of, outcome_of, event_of}
use Rattle.theorems.proofs.Reports.{ran-none}
use Rattle.measure.specs.declared.Wait.{Wait}
use Rattle.measure.specs.declared.Measure.{Measure}
use Rattle.measure.specs.declared.Measured.{Measured}
use Rattle.measure.specs.Wait.{none}
use Rattle.measure.specs.Measure.{five, wait_at, measure_start, stepped, clocked, ticked, taken, most_clocks, past, measure_of, measured_of}
use Rattle.measure.specs.Kept.{Fair, Kept}
use Rattle.measure.proofs.Ticked.{ticked-clocks}
use Rattle.measure.proofs.WaitLaws.{none-fair, moved-fair, more-fair, counted-fair}
use Rattle.measure.proofs.Calls.{measured-ways, kinds, refused-device, ticks-device, takes-device}

-- what holds of each, and past the end
five-at : (P : ℕ → Wait → Type 0) (f : ℕ → Wait) → ((k : ℕ) → P k (f k)) → ((k : ℕ) → P k none) → (k : ℕ) → P k (get_or (five f) k none)
five-at P f h n zero = h 0
five-at P f h n (suc zero) = h 1
five-at P f h n (suc (suc zero)) = h 2
five-at P f h n (suc (suc (suc zero))) = h 3
five-at P f h n (suc (suc (suc (suc zero)))) = h 4
five-at P f h n (suc (suc (suc (suc (suc k))))) = n (suc (suc (suc (suc (suc k)))))

-- ---- where a trace begins, whatever the record
pub start-kept : (d : Device) → Kept 0 measure_start d
start-kept d =
    record {
      clocks = omega arith;
      waits = five-at (λ k w. Fair 0 0 (source_at d k).ip w) (λ k. none) (λ k. none-fair 0 0 _) (λ k. none-fair 0 0 _);
    }

-- the lines are not looked at
relined-kept : {n : ℕ} (m : Measure) (d : Device) → Kept n m d → Kept n m (relined d)
unfolding relined
relined-kept m d h = record { clocks = h.clocks; waits = h.waits }

module _ (n : ℕ) where
  -- ---- steps and clocks
  later-kept : (cleared : ℕ → Bool) (d e : Device) (m : Measure) (now : ℕ) → m.clocks ≤ now → now ≤ most_clocks → Kept n m d
      → Kept n (stepped cleared d e (record { clocks = now; waits = m.waits })) e
  unfolding stepped
  later-kept cleared d e m now l c h =
      record {
        clocks = c;
        waits =
            five-at (λ k w. Fair n now (source_at e k).ip w) _
            (λ k. moved-fair n m.clocks now (source_at d k).ip (cleared k) (source_at e k).ip (wait_at m k) l (h.waits k))
            (λ k. none-fair n now _);
      }

  stepped_kept : (cleared : ℕ → Bool) (d e : Device) (m : Measure) → Kept n m d → Kept n (stepped cleared d e m) e
  stepped_kept cleared d e m h = later-kept cleared d e m m.clocks (omega arith) h.clocks h

  ticked-kept : (j : ℕ) (d : Device) (m : Measure) → m.clocks + j ≤ most_clocks → Kept n m d → Kept n (ticked j d m) (ran_of j d).device
  unfolding ticked clocked
  ticked-kept zero d m c h = rw (ran-none d) h
  ticked-kept (suc j) d m c h =
      let now = ticked-clocks d m j in
      later-kept (λ k. false) (ran_of j d).device (ran_of (suc j) d).device (ticked j d m) ((ticked j d m).clocks + 1) (omega arith) (omega (arith, now))
      (ticked-kept j d m (omega arith) h)

  -- ---- an event more, and a K
  more-kept : (m : Measure) (d : Device) → Kept n m d → Kept (suc n) m d
  more-kept m d h = record { clocks = h.clocks; waits = λ k. more-fair n _ _ _ (h.waits k) }

  same-ip : (d : Device) (k : ℕ) → (source_at (acknowledged d) k).ip ≡ (source_at d k).ip
  unfolding acknowledged
  same-ip d k = set_keeps (λ j (s : Source). s.ip ≡ (source_at d j).ip) d.sources (requester d) k _ quiet (λ _. refl) refl

  taken-kept : (m : Measure) (d : Device) → suc n < 2 ^ 64 → Kept n m d → Kept (suc n) (taken d m) (acknowledged d)
  unfolding taken
  taken-kept m d e h =
      record {
        clocks = h.clocks;
        waits = λ k.
            subst (λ (ip : Bool). Fair (suc n) m.clocks ip (wait_at (taken d m) k)) (sym (same-ip d k))
            (set_keeps (λ j w. Fair (suc n) m.clocks (source_at d j).ip w) m.waits (requester d) k _ none
            (λ _. counted-fair n m.clocks _ (wait_at m (requester d)) h.clocks e (h.waits (requester d))) (more-fair n _ _ _ (h.waits k)));
      }

  -- ---- every event
  module _ (m : Measure) (d : Device) (e : Event) (f : suc n < 2 ^ 64) (h : Kept n m d) where
    accepted-kept : code_of d e ≡ 0 → past m e ≡ false → Kept (suc n) (measure_of m d e) (event_of d e).device
    accepted-kept z p =
        kinds m d e (λ (r : Measure). Kept (suc n) r (event_of d e).device)
        (λ t. rw (ticks-device d e z t) (more-kept _ _ (relined-kept _ _ (ticked-kept e.a d m (ltb-false _ _ (simp t at p)) h))))
        (λ t. rw (takes-device d e z t) (relined-kept _ _ (taken-kept m d f h)))
        (more-kept _ _ (stepped_kept _ d (event_of d e).device m h))

    pub measured-kept : Kept (suc n) (measured_of m d e).measure (measured_of m d e).device
    unfolding outcome_of
    measured-kept =
        measured-ways m d e (λ (r : Measured). Kept (suc n) r.measure r.device)
        (λ ne. rw (refused-device d e ne) (more-kept m d h)) (λ _ _. more-kept m d h) accepted-kept
