-- Paper 01, "Counters": the count, the pulse and the report of a free-running counter over T n, by division. One law over the counter's place.
-- Assumes nothing.
use Prim.Native.Nat.{ℕ, zero, suc, ◌+◌, ◌*◌, ◌%◌, ◌<◌}
use mathlib.Core.Path.{◌≡◌, refl, sym, ap, ap₂, ◌∙◌}
use mathlib.Core.Bool.{Bool, true, false, not, ◌&&◌, ◌||◌, So, false≢true, and-true, and-false}
use native.Mathlib.Nat.{add-zero}
use native.Mathlib.Omega.{arith}
use lib.Dec.{eqb}
use lib.ListN.{get_or}
use borrow.Author.Tests.{ne_eqb}
use Rattle.rules.specs.declared.Device.{Device}
use Rattle.rules.specs.declared.Counter.{Counter}
use Rattle.rules.specs.declared.Event.{Event}
use Rattle.rules.specs.declared.Answer.{Answer}
use Rattle.rules.specs.declared.Outcome.{Outcome}
use Rattle.rules.specs.declared.Ran.{Ran}
use Rattle.basics.specs.Byte.{bit, num}
use Rattle.rules.specs.Record.{Shaped, counter_at, source_at, of_counter}
use Rattle.rules.specs.With.{with_phase}
use Rattle.rules.specs.Report.{no_report}
use Rattle.rules.specs.Registers.{counter_on, reset}
use Rattle.rules.specs.Counters.{continuous, gate_input, square, less_one, count_of}
use Rattle.rules.specs.Step.{lines_at, step_of, reported, clock_of, ran_of}
use Rattle.basics.specs.Iterate.{iterate}
use Rattle.rules.specs.Sound.{sound_of}
use Rattle.rules.specs.Interrupts.{relined}
use Rattle.rules.specs.Events.{is_t, relit, answer_of, outcome_of, event_of}
use Rattle.basics.proofs.Places.{all-zero}
use Rattle.theorems.proofs.Clauses.{sound-parts}
use Rattle.theorems.specs.Free.{Free, timer_clocks, full_of, terminals_after, count_after, pulse_after, lost_after}
use Rattle.theorems.proofs.Reports.{clock-first, clock-timer, added-at}
use Rattle.theorems.proofs.ReportLaws.{the_terminals, num-le}
use Rattle.theorems.proofs.Frame.{frame_step}
use Rattle.theorems.proofs.Demand3.{ran}
use Rattle.theorems.proofs.Countdown.{countdown, counts-by-division, last-by-division}
use Rattle.theorems.proofs.Lines.{lines-phase, gate-kept}
use Rattle.theorems.proofs.Timer.{count-last, count-more, clocked}
use Rattle.theorems.proofs.Losses.{ran-lost}

-- ---- one count is one step of the countdown, in either version
module _ (version : ℕ) (c : Counter) (con : continuous c ≡ true) (sq : square c ≡ false) where
  -- what a count leaves as it is
  record Kept (b : Counter) : Type 0 where
    mode : b.mode ≡ c.mode
    constant : b.constant ≡ c.constant
    gcb : b.gcb ≡ c.gcb
    cip : b.cip ≡ c.cip

  kept_by_lem : (v : Bool) → eqb (less_one 65536 c.count) 0 ≡ v → Kept (count_of version c).counter
  kept_by_lem true e = rw (count-last version c con sq e) (record { mode = refl; constant = refl; gcb = refl; cip = refl })
  kept_by_lem false e = rw (count-more version c con sq e) (record { mode = refl; constant = refl; gcb = refl; cip = refl })

  count_kept : Kept (count_of version c).counter
  count_kept = kept_by_lem _ refl

  counts-by : (v : Bool) (n : ℕ) → eqb (less_one 65536 c.count) 0 ≡ v
      → ((count_of version c).counter.count, n + num (count_of version c).terminal) ≡ countdown 65536 c.constant (c.count, n)
  unfolding countdown
  counts-by true n e = rw (count-last version c con sq e) (simp e)
  counts-by false n e = rw (count-more version c con sq e) (simp (e, add-zero))

  count-counts : (n : ℕ) → ((count_of version c).counter.count, n + num (count_of version c).terminal) ≡ countdown 65536 c.constant (c.count, n)
  count-counts n = counts-by _ n refl

  pulse-by : (v : Bool) → eqb (less_one 65536 c.count) 0 ≡ v → (count_of version c).counter.pulse ≡ (eqb version 2 && v)
  pulse-by true e = rw (count-last version c con sq e) (sym (and-true (eqb version 2)))
  pulse-by false e = rw (count-more version c con sq e) (sym (and-false (eqb version 2)))

  -- in version 2 the pulse tells whether it was terminal
  count-pulse : (count_of version c).counter.pulse ≡ (eqb version 2 && eqb (less_one 65536 c.count) 0)
  count-pulse = pulse-by _ refl

-- ---- a clock leaves a free-running counter free-running
free-phase : (d : Device) (v : Bool) (i : ℕ) → Free d i → Free (with_phase d v) i
free-phase d v i f =
    record {
      enabled = f.enabled;
      cip = f.cip;
      gcb = f.gcb;
      gate = ap (λ (w : ℕ). not (gate_input (counter_at d i)) || bit w 3) (lines-phase d v i) ∙ f.gate;
      clocked = f.clocked;
      continues = f.continues;
      not_square = f.not_square;
      unlinked = f.unlinked;
    }

module _ (d : Device) (i : ℕ) (h : i < 3) (f : Free d i) where
  abbrev stepped : Device
  stepped = (step_of true d (with_phase d false)).device

  stepped_kept : Kept d.version (counter_at d i) f.continues f.not_square (counter_at stepped i)
  stepped_kept = rw (clocked d i h f).counter (count_kept d.version (counter_at d i) f.continues f.not_square)

  free_step : Free stepped i
  free_step =
      let k = stepped_kept in
      let r = frame_step true d (with_phase d false) in
      record {
        enabled = ap (λ (b : ℕ). counter_on b i) r.config ∙ f.enabled;
        cip = k.cip ∙ f.cip;
        gcb = k.gcb ∙ f.gcb;
        gate = ap (λ (m : ℕ). not (bit m 3) || bit (lines_at stepped i) 3) k.mode
            ∙ ap (λ (v : Bool). not (gate_input (counter_at d i)) || v) (gate-kept (with_phase d false) stepped r i h)
            ∙ (free-phase d false i f).gate;
        clocked = ap (λ (m : ℕ). bit m 5) k.mode ∙ f.clocked;
        continues = ap (λ (m : ℕ). bit m 7) k.mode ∙ f.continues;
        not_square = ap (λ (m : ℕ). eqb (m % 4) 2) k.mode ∙ f.not_square;
        unlinked = λ e. ap (λ (b : ℕ). b % 4) r.config ∙ f.unlinked e;
      }

-- ---- n clocks
module _ (d : Device) (i : ℕ) (h : i < 3) where
  abbrev start : Ran
  start = record { device = d; report = no_report }

  -- its count, and the terminals so far, after k timer clocks; and its pulse: the last of them tells it
  abbrev counted : ℕ → ℕ × ℕ
  counted k = iterate k (countdown 65536 (counter_at d i).constant) ((counter_at d i).count, 0)

  abbrev pulsed : ℕ → Bool
  pulsed zero = (counter_at d i).pulse
  pulsed (suc k) = eqb d.version 2 && eqb (less_one 65536 (counted k).0) 0

  -- after n clocks, of which k were timer clocks
  record After (n : ℕ) (s : Ran) : Type 0 where
    k : ℕ
    version : s.device.version ≡ d.version
    free : Free s.device i
    running : reset s.device ≡ false
    constant : (counter_at s.device i).constant ≡ (counter_at d i).constant
    sum : 2 * k + num s.device.phase ≡ n + num d.phase
    state : ((counter_at s.device i).count, get_or s.report.terminals i 0) ≡ counted k
    pulse : (counter_at s.device i).pulse ≡ pulsed k

  first : (n : ℕ) (s : Ran) → After n s → s.device.phase ≡ false → After (suc n) (clock_of s)
  first n s r p =
      let b = ap num p in
      rw (clock-first s r.running p)
      (record {
        k = r.k;
        version = r.version;
        free = free-phase s.device true i r.free;
        running = r.running;
        constant = r.constant;
        sum = omega (arith, r.sum, b);
        state = r.state;
        pulse = r.pulse;
      })

  timer : (n : ℕ) (s : Ran) → After n s → s.device.phase ≡ true → After (suc n) (clock_of s)
  unfolding iterate reported
  timer n s r p =
      let b = ap num p in
      let g = frame_step true s.device (with_phase s.device false) in
      let q = ap num g.phase in
      let w = clocked s.device i h r.free in
      let t = step_of true s.device (with_phase s.device false) in
      rw (clock-timer s r.running p)
      (record {
        k = suc r.k;
        version = g.version ∙ r.version;
        free = free_step s.device i h r.free;
        running = ap (λ (m : ℕ). bit m 0) g.master ∙ r.running;
        constant = (stepped_kept s.device i h r.free).constant ∙ r.constant;
        sum = omega (arith, r.sum, b, q);
        state = ap (λ (n : ℕ). ((counter_at t.device i).count, n)) (added-at the_terminals s.report t i h)
            ∙ ap (λ (c : Counter). (c.count, get_or s.report.terminals i 0 + num (get_or t.terminals i false))) w.counter
            ∙ ap (λ (v : Bool). ((count_of s.device.version (counter_at s.device i)).counter.count, get_or s.report.terminals i 0 + num v)) w.terminal
            ∙ count-counts s.device.version (counter_at s.device i) r.free.continues r.free.not_square (get_or s.report.terminals i 0)
            ∙ ap (λ (t : ℕ). countdown 65536 t ((counter_at s.device i).count, get_or s.report.terminals i 0)) r.constant
            ∙ ap (countdown 65536 (counter_at d i).constant) r.state;
        pulse = ap (λ (c : Counter). c.pulse) w.counter
            ∙ count-pulse s.device.version (counter_at s.device i) r.free.continues r.free.not_square
            ∙ ap₂ (λ (v n : ℕ). eqb v 2 && eqb (less_one 65536 n) 0) r.version (ap (λ (w : ℕ × ℕ). w.0) r.state);
      })

  next-by : (v : Bool) (n : ℕ) (s : Ran) → After n s → s.device.phase ≡ v → After (suc n) (clock_of s)
  next-by true n s r p = timer n s r p
  next-by false n s r p = first n s r p

  after : (n : ℕ) → reset d ≡ false → Free d i → After n (iterate n clock_of start)
  unfolding iterate
  after zero r f =
      record {
        k = 0;
        version = refl;
        free = f;
        running = r;
        constant = refl;
        sum = omega arith;
        state = ap (λ (n : ℕ). ((counter_at d i).count, n)) (all-zero i);
        pulse = refl;
      }
  after (suc n) r f = next-by _ n (iterate n clock_of start) (after n r f) refl

-- ---- a free-running counter's device is not held: reset leaves CIP 0
not-held : (v : Bool) (d : Device) (i : ℕ) → i < 3 → sound_of d ≡ true → Free d i → reset d ≡ v → reset d ≡ false
not-held false d i h s f r = r
not-held true d i h s f r =
    absurd (false≢true (sym (ap (λ (c : Counter). c.cip) (((sound-parts d s).base.held r).counters i h)) ∙ f.cip))

-- ---- its pulse by division
-- a pulse is of version 2
pulse-new : (d : Device) (i : ℕ) → i < 3 → sound_of d ≡ true → (counter_at d i).pulse ≡ (eqb d.version 2 && (counter_at d i).pulse)
pulse-new d i h s = new (eqb d.version 2) _ (counter_at d i).pulse ((sound-parts d s).base.counters i h).pulse
  where
    new : (a e b : Bool) → (So b → So (a && e)) → b ≡ (a && b)
    new true e b f = refl
    new false e true f = sym (f refl)
    new false e false f = refl

pulse-divided : (d : Device) (i : ℕ) (h : i < 3) → sound_of d ≡ true → (counter_at d i).count < 65536 → (counter_at d i).constant < 65536 → (k : ℕ)
    → pulsed d i h k
    ≡ (eqb d.version 2 && pulse_after (full_of 65536 (counter_at d i).count) (full_of 65536 (counter_at d i).constant) (counter_at d i).pulse k)
unfolding pulse_after
pulse-divided d i h s hc ht zero = pulse-new d i h s
pulse-divided d i h s hc ht (suc k) =
    simp (ne_eqb (suc k) 0 (λ e. omega arith))
    (ap (λ (v : Bool). eqb d.version 2 && v) (last-by-division 65536 (counter_at d i).count (counter_at d i).constant hc ht k))

-- ---- the law
-- counter i's count, pulse and report after the event e, by division, where e is T n; and what of it is lost, in a record of the struct's
-- shape. The pulse is of version 2; in version 1 there is none.
pub record Divided (d : Device) (i : ℕ) (e : Event) : Type 0 where
  pub count : (counter_at (event_of d e).device i).count
      ≡ count_after (full_of 65536 (counter_at d i).count) (full_of 65536 (counter_at d i).constant) (timer_clocks d e.a) % 65536
  pub pulse : (counter_at (event_of d e).device i).pulse
      ≡ (eqb d.version 2
      && pulse_after (full_of 65536 (counter_at d i).count) (full_of 65536 (counter_at d i).constant) (counter_at d i).pulse (timer_clocks d e.a))
  pub report : get_or (event_of d e).answer.report.terminals i 0
      ≡ terminals_after (full_of 65536 (counter_at d i).count) (full_of 65536 (counter_at d i).constant) (timer_clocks d e.a)
  pub lost : Shaped d
      → get_or (event_of d e).answer.report.lost i 0
      ≡ lost_after (source_at d (of_counter i))
      (terminals_after (full_of 65536 (counter_at d i).count) (full_of 65536 (counter_at d i).constant) (timer_clocks d e.a))

event-view : (d : Device) (i : ℕ) (e : Event) → So (is_t e) → sound_of d ≡ true
    → ◌≡◌ {A = ℕ × ℕ} ((counter_at (event_of d e).device i).count, get_or (event_of d e).answer.report.terminals i 0)
    ((counter_at (ran_of e.a d).device i).count, get_or (ran_of e.a d).report.terminals i 0)
unfolding relit relined outcome_of answer_of
event-view d i e t s = ap (λ (o : Outcome Device Answer). ((counter_at o.device i).count, get_or o.answer.report.terminals i 0)) (ran d e t s)

event-pulse : (d : Device) (i : ℕ) (e : Event) → So (is_t e) → sound_of d ≡ true
    → (counter_at (event_of d e).device i).pulse ≡ (counter_at (ran_of e.a d).device i).pulse
unfolding relit relined outcome_of
event-pulse d i e t s = ap (λ (o : Outcome Device Answer). (counter_at o.device i).pulse) (ran d e t s)

event-lost : (d : Device) (i : ℕ) (e : Event) → So (is_t e) → i < 3 → sound_of d ≡ true → Shaped d
    → get_or (event_of d e).answer.report.lost i 0 ≡ lost_after (source_at d (of_counter i)) (get_or (event_of d e).answer.report.terminals i 0)
unfolding relit outcome_of answer_of
event-lost d i e t h s shape = rw (ran d e t s) (ran-lost d i h e.a shape s)

pub division : (d : Device) (i : ℕ) (e : Event) → So (is_t e) → i < 3 → sound_of d ≡ true → Free d i → (counter_at d i).count < 65536
    → (counter_at d i).constant < 65536 → Divided d i e
unfolding ran_of
division d i e is-t h s f hc ht =
    let n = e.a in
    let a = after d i h n (not-held _ d i h s f refl) f in
    let b = num-le (iterate n clock_of (record { device = d; report = no_report })).device.phase in
    let k : a.k ≡ timer_clocks d n = omega (arith, a.sum, b) in
    let t = (counter_at d i).constant in
    let p = event-view d i e is-t s ∙ a.state ∙ ap (λ (m : ℕ). iterate m (countdown 65536 t) ((counter_at d i).count, 0)) k
    ∙ counts-by-division 65536 (counter_at d i).count t hc ht (timer_clocks d n) in
    let r = ap (λ (w : ℕ × ℕ). w.1) p in
    record {
      count = ap (λ (w : ℕ × ℕ). w.0) p;
      pulse = event-pulse d i e is-t s ∙ a.pulse ∙ ap (pulsed d i h) k ∙ pulse-divided d i h s hc ht (timer_clocks d n);
      report = r;
      lost = λ shape. event-lost d i e is-t h s shape ∙ ap (lost_after (source_at d (of_counter i))) r;
    }
