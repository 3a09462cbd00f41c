-- A counter that goes alone over k timer clocks, by division: until it stops it goes as the countdown goes.
-- Assumes nothing.
use Prim.Native.Nat.{ℕ, zero, suc, ◌+◌, ◌-◌, ◌*◌, ◌%◌, ◌≤◌, ◌<◌}
use mathlib.Core.Path.{◌≡◌, refl, sym, ap, ap₂, ◌∙◌}
use mathlib.Core.Bool.{Bool, true, false, not, ◌&&◌, beq, cond, true≢false, false≢true, and-true, and-false}
use mathlib.Core.Logic.{◌⊎◌, inl, inr, ⊎_elim}
use native.Mathlib.Nat.{add-zero}
use native.Mathlib.Omega.{arith}
use lib.Dec.{eqb, leb}
use borrow.Author.Tests.{leb-true, leb-false, ne_eqb, eq-eqb, lt-leb, le-leb, not-true}
use Rattle.rules.specs.declared.Counter.{Counter}
use Rattle.rules.specs.declared.Counted.{Counted}
use Rattle.basics.specs.Byte.{differs, num}
use Rattle.basics.specs.Iterate.{iterate}
use Rattle.rules.specs.With.{with_count, with_cip, with_half, with_pulse}
use Rattle.rules.specs.Counters.{continuous, square, less_one, terminal_of, count_of, clocked_by}
use Rattle.basics.proofs.Truth.{same, all3}
use Rattle.basics.proofs.Tests.{both}
use Rattle.theorems.specs.Free.{count_after}
use Rattle.theorems.specs.Alone.{ticked_by, full_count, full_constant, reloads_in, last_terminal, last_clock, stops_by, half_after, terminal_at, running_after, stopped_after, counter_after, terminals_in}
use Rattle.theorems.proofs.Countdown.{countdown, counts-by-division, last-by-division, last-clock, full-pos}

-- ---- the half after one terminal more
odd-by : (a b : ℕ) → a < 2 → a + b ≡ 1 → eqb b 1 ≡ not (eqb a 1)
odd-by zero b h e = eq-eqb b 1 (omega arith)
odd-by (suc zero) b h e = ne_eqb b 1 (λ x. omega arith)
odd-by (suc (suc a)) b h e = absurd (omega arith)

odd-more : (n : ℕ) → eqb ((n + 1) % 2) 1 ≡ not (eqb (n % 2) 1)
odd-more n = odd-by (n % 2) ((n + 1) % 2) (omega arith) (omega arith)

half-first : (s h : Bool) → (s && differs h true) ≡ (s && not h)
half-first true true = refl
half-first true false = refl
half-first false h = refl

half-next : (s h v : Bool) → (s && differs h (not v)) ≡ (s && not (s && differs h v))
half-next s h v = same _ _ (all3 (λ s h v. beq (s && differs h (not v)) (s && not (s && differs h v))) tt s h v)

half-more : (c : Counter) (p : ℕ) → half_after c (p + 1) ≡ (square c && not (half_after c p))
unfolding half_after
half-more c zero = half-first (square c) c.half
half-more c (suc p) =
    simp (ne_eqb (suc p + 1) 0 (λ e. omega arith), ne_eqb (suc p) 0 (λ e. omega arith), odd-more (suc p)) (half-next (square c) c.half (eqb (suc p % 2) 1))

-- ---- the last terminal: the one that finds no second half to come
last_some : (c : Counter) (v : Bool) → (square c && not c.half) ≡ v → (1 ≤ last_terminal c) × (last_terminal c ≤ 2)
unfolding last_terminal
last_some c true e = rw e (omega arith, omega arith)
last_some c false e = rw e (omega arith, omega arith)

last-by : (c : Counter) (p : ℕ) (v : Bool) → (square c && not c.half) ≡ v → leb (last_terminal c) p ≡ false
    → leb (last_terminal c) (p + 1) ≡ not (square c && not (half_after c p))
unfolding last_terminal half_after
last-by c zero true e l = simp e
last-by c zero false e l = simp e
last-by c (suc zero) true e l = simp (half-first, e, and-false)
last-by c (suc zero) false e l = absurd (true≢false (simp e at l))
last-by c (suc (suc p)) v e l = absurd (omega (arith, leb-false (last_terminal c) (suc (suc p)) l, (last_some c v e).1))

-- none has stopped before
stops-none : (c : Counter) → stops_by c 0 ≡ false
unfolding stops_by
stops-none c =
    let l = (last_some c _ refl).0 in
    simp (lt-leb (last_terminal c) 0 (omega arith), and-false)

module _ (c : Counter) (p : ℕ) (goes : stops_by c p ≡ false) where
  -- a counter that is not continuous stops with the terminal after p, or finds a second half to come
  stops-more : continuous c ≡ false → stops_by c (p + 1) ≡ not (square c && not (half_after c p))
  unfolding stops_by
  stops-more o = simp o (last-by c p _ refl (simp o at goes))

  -- so one that runs on and finds none is continuous
  runs_on : (v : Bool) → continuous c ≡ v → stops_by c (p + 1) ≡ false → (square c && not (half_after c p)) ≡ false → continuous c ≡ true
  runs_on true o s h = o
  runs_on false o s h = absurd (false≢true (sym s ∙ stops-more o ∙ ap not h))

  -- and one that stops is not, and finds none
  none-to-come : stops_by c (p + 1) ≡ true → (continuous c ≡ false) × ((square c && not (half_after c p)) ≡ false)
  unfolding stops_by
  none-to-come s =
      let o = not-true (continuous c) (both (not (continuous c)) (leb (last_terminal c) (p + 1)) s).0 in
      (o, not-true _ (sym (stops-more o) ∙ s))

  -- with the last
  stops-last : stops_by c (p + 1) ≡ true → p + 1 ≡ last_terminal c
  unfolding stops_by
  stops-last s =
      let b = both (not (continuous c)) (leb (last_terminal c) (p + 1)) s in
      let o = not-true (continuous c) b.0 in
      omega (arith, leb-true (last_terminal c) (p + 1) b.1, leb-false (last_terminal c) p (simp o at goes))

-- ---- one count
-- the counter, running, with the count n, after p terminals; and stopped
abbrev going : Counter → ℕ → ℕ → Bool → Counter
going c n p x = with_pulse (with_half (with_count c n) (half_after c p)) x

abbrev ended : Counter → Bool → Counter
ended c x = with_pulse (with_half (with_cip (with_count c 0) false) false) x

module _ (version : ℕ) (c : Counter) where
  count-more : (n p : ℕ) (x : Bool) → eqb (less_one 65536 n) 0 ≡ false
      → count_of version (going c n p x) ≡ record { counter = going c (less_one 65536 n) p false; terminal = false }
  unfolding count_of
  count-more n p x e = simp e

  reload-by : (n p : ℕ) (x v : Bool) → eqb (less_one 65536 n) 0 ≡ true → stops_by c p ≡ false → stops_by c (p + 1) ≡ false
      → (square c && not (half_after c p)) ≡ v
      → count_of version (going c n p x) ≡ record { counter = going c c.constant (p + 1) (eqb version 2); terminal = true }
  unfolding count_of terminal_of
  reload-by n p x true e g s h = simp (e, half-more c p, h)
  reload-by n p x false e g s h = simp (e, half-more c p, h, runs_on c p g _ refl s h)

  count-reload : (n p : ℕ) (x : Bool) → eqb (less_one 65536 n) 0 ≡ true → stops_by c p ≡ false → stops_by c (p + 1) ≡ false
      → count_of version (going c n p x) ≡ record { counter = going c c.constant (p + 1) (eqb version 2); terminal = true }
  count-reload n p x e g s = reload-by n p x _ e g s refl

  count-end : (n p : ℕ) (x : Bool) → eqb (less_one 65536 n) 0 ≡ true → stops_by c p ≡ false → stops_by c (p + 1) ≡ true
      → count_of version (going c n p x) ≡ record { counter = ended c (eqb version 2); terminal = true }
  unfolding count_of terminal_of
  count-end n p x e g s =
      let w = none-to-come c p g s in
      simp (e, w.1, w.0)

-- ---- k clocks of a counter that runs
module _ (version : ℕ) (c : Counter) (runs : c.cip ≡ true) (hc : c.count < 65536) (ht : c.constant < 65536) where
  abbrev counted : ℕ → ℕ × ℕ
  counted k = iterate k (countdown 65536 c.constant) (c.count, 0)

  abbrev pulsed : ℕ → Bool
  pulsed zero = c.pulse
  pulsed (suc k) = eqb version 2 && eqb (less_one 65536 (counted k).0) 0

  abbrev tick : Counter × ℕ → Counter × ℕ
  tick = ticked_by version true

  -- one clock more of the countdown
  counted-more : (k : ℕ) → eqb (less_one 65536 (counted k).0) 0 ≡ false → counted (suc k) ≡ (less_one 65536 (counted k).0, (counted k).1)
  unfolding iterate countdown
  counted-more k e = simp e

  counted-last : (k : ℕ) → eqb (less_one 65536 (counted k).0) 0 ≡ true → counted (suc k) ≡ (c.constant, (counted k).1 + 1)
  unfolding iterate countdown
  counted-last k e = simp e

  -- the clock of the last terminal
  clock-of : (k : ℕ) → eqb (less_one 65536 (counted k).0) 0 ≡ true → (counted k).1 + 1 ≡ last_terminal c → suc k ≡ last_clock c
  unfolding last_clock
  clock-of k e l =
      let p : (counted k).1 ≡ last_terminal c - 1 = omega (arith, l) in
      last-clock 65536 c.count c.constant hc ht k e ∙ ap (λ (m : ℕ). full_count c + m * full_constant c) p

  -- what has stopped stays so
  stops-up : (n m : ℕ) → n ≤ m → stops_by c n ≡ true → stops_by c m ≡ true
  unfolding stops_by
  stops-up n m h s =
      let b = both (not (continuous c)) (leb (last_terminal c) n) s in
      simp (b.0, le-leb (last_terminal c) m (omega (arith, leb-true (last_terminal c) n b.1)))

  still : (k : ℕ) (v : Bool) → eqb (less_one 65536 (counted k).0) 0 ≡ v → stops_by c (counted k).1 ≡ true → stops_by c (counted (suc k)).1 ≡ true
  still k false e s = ap (λ (m : ℕ × ℕ). stops_by c m.1) (counted-more k e) ∙ s
  still k true e s = ap (λ (m : ℕ × ℕ). stops_by c m.1) (counted-last k e) ∙ stops-up (counted k).1 ((counted k).1 + 1) (omega arith) s

  -- it runs as the countdown does; or has stopped, with its last terminal
  abbrev view : ℕ × ℕ → Bool → Counter × ℕ
  view n x = (going c n.0 n.1 x, n.1)

  record Runs (k : ℕ) (s : Counter × ℕ) : Type 0 where
    goes : stops_by c (counted k).1 ≡ false
    state : s ≡ view (counted k) (pulsed k)

  record Ends (k : ℕ) (s : Counter × ℕ) : Type 0 where
    stops : stops_by c (counted k).1 ≡ true
    after : last_clock c ≤ k
    state : s ≡ (ended c (eqb version 2 && eqb k (last_clock c)), last_terminal c)

  tick-counts : (b : Counter) (n : ℕ) (r : Counted) → b.cip ≡ true → count_of version b ≡ r → tick (b, n) ≡ (r.counter, n + num r.terminal)
  unfolding ticked_by clocked_by
  tick-counts b n r h e = simp (h, e)

  tick-ended : (x : Bool) (n : ℕ) → tick (ended c x, n) ≡ (ended c false, n)
  unfolding ticked_by clocked_by
  tick-ended x n = ap (λ (m : ℕ). (ended c false, m)) (add-zero n)

  next-runs : (k : ℕ) (s : Counter × ℕ) (v w : Bool) → eqb (less_one 65536 (counted k).0) 0 ≡ v → stops_by c ((counted k).1 + 1) ≡ w
      → Runs k s → Runs (suc k) (tick s) ⊎ Ends (suc k) (tick s)
  next-runs k s false w e u r =
      let n = counted k in
      let d = counted-more k e in
      inl
      (record {
        goes = ap (λ (m : ℕ × ℕ). stops_by c m.1) d ∙ r.goes;
        state = ap tick r.state ∙ tick-counts _ n.1 _ runs (count-more version c n.0 n.1 (pulsed k) e)
            ∙ ap (λ (m : ℕ). (going c (less_one 65536 n.0) n.1 false, m)) (add-zero n.1)
            ∙ ap₂ view (sym d) (sym (ap (λ (b : Bool). eqb version 2 && b) e ∙ and-false (eqb version 2)));
      })
  next-runs k s true false e u r =
      let n = counted k in
      let d = counted-last k e in
      inl
      (record {
        goes = ap (λ (m : ℕ × ℕ). stops_by c m.1) d ∙ u;
        state = ap tick r.state ∙ tick-counts _ n.1 _ runs (count-reload version c n.0 n.1 (pulsed k) e r.goes u)
            ∙ ap₂ view (sym d) (sym (ap (λ (b : Bool). eqb version 2 && b) e ∙ and-true (eqb version 2)));
      })
  next-runs k s true true e u r =
      let n = counted k in
      let d = counted-last k e in
      let l = stops-last c n.1 r.goes u in
      let at : suc k ≡ last_clock c = clock-of k e l in
      inr
      (record {
        stops = ap (λ (m : ℕ × ℕ). stops_by c m.1) d ∙ u;
        after = omega arith;
        state = ap tick r.state ∙ tick-counts _ n.1 _ runs (count-end version c n.0 n.1 (pulsed k) e r.goes u)
            ∙ ap₂ (λ (x : Bool) (m : ℕ). (ended c x, m))
            (sym (ap (λ (b : Bool). eqb version 2 && b) (eq-eqb _ _ at) ∙ and-true (eqb version 2))) l;
      })

  next-ends : (k : ℕ) (s : Counter × ℕ) (v : Bool) → eqb (less_one 65536 (counted k).0) 0 ≡ v → Ends k s → Ends (suc k) (tick s)
  next-ends k s v e r =
      let ne : (suc k ≡ last_clock c → ⊥) = λ x. omega (arith, r.after) in
      record {
        stops = still k v e r.stops;
        after = omega (arith, r.after);
        state = ap tick r.state ∙ tick-ended _ (last_terminal c)
            ∙ ap (λ (x : Bool). (ended c x, last_terminal c)) (sym (ap (λ (b : Bool). eqb version 2 && b) (ne_eqb _ _ ne) ∙ and-false (eqb version 2)));
      }

  reached : (k : ℕ) → Runs k (iterate k tick (c, 0)) ⊎ Ends k (iterate k tick (c, 0))
  unfolding iterate half_after
  reached zero = inl (record { goes = stops-none c; state = refl })
  reached (suc k) =
      ⊎_elim (next-runs k (iterate k tick (c, 0)) _ _ refl refl) (λ r. inr (next-ends k (iterate k tick (c, 0)) _ refl r)) (reached k)

  -- the countdown by division
  divided : (k : ℕ) → counted k ≡ (count_after (full_count c) (full_constant c) k % 65536, reloads_in c k)
  unfolding reloads_in
  divided k = counts-by-division 65536 c.count c.constant hc ht k

  pulse-divided : (k : ℕ) → pulsed (suc k) ≡ (eqb version 2 && terminal_at c (suc k))
  unfolding terminal_at
  pulse-divided k = ap (λ (v : Bool). eqb version 2 && v) (last-by-division 65536 c.count c.constant hc ht k)

  stops-divided : (k : ℕ) → stops_by c (reloads_in c k) ≡ stops_by c (counted k).1
  stops-divided k = ap (λ (n : ℕ × ℕ). stops_by c n.1) (sym (divided k))

  -- what the division tells: of one that runs, and of one that has stopped
  abbrev told : ℕ → Counter × ℕ
  told k = (counter_after version true c k, terminals_in true c k)

  terminals-by : (k : ℕ) (v : Bool) → stops_by c (reloads_in c k) ≡ v → terminals_in true c k ≡ cond v (last_terminal c) (reloads_in c k)
  unfolding terminals_in
  terminals-by k v g = simp (runs, g)

  counter-by : (k : ℕ) (v : Bool) → 1 ≤ k → stops_by c (reloads_in c k) ≡ v
      → counter_after version true c k ≡ cond v (stopped_after version c k) (running_after version c k)
  unfolding counter_after
  counter-by k v h g = simp (ne_eqb k 0 (λ e. omega arith), runs, g)

  tells-runs : (k : ℕ) → stops_by c (reloads_in c k) ≡ false → view (counted k) (pulsed k) ≡ told k
  unfolding iterate half_after counter_after running_after
  tells-runs zero g = ap (λ (n : ℕ). (c, n)) (ap (λ (n : ℕ × ℕ). n.1) (divided 0) ∙ sym (terminals-by 0 false g))
  tells-runs (suc k) g =
      ap₂ view (divided (suc k)) (pulse-divided k)
      ∙ ap₂ (λ (b : Counter) (n : ℕ). (b, n)) (sym (counter-by (suc k) false (omega arith) g)) (sym (terminals-by (suc k) false g))

  tells-ends : (k : ℕ) → last_clock c ≤ k → stops_by c (reloads_in c k) ≡ true
      → (ended c (eqb version 2 && eqb k (last_clock c)), last_terminal c) ≡ told k
  unfolding last_clock stopped_after
  tells-ends k h g =
      let some : 1 ≤ k = omega (arith, full-pos 65536 c.count hc) in
      ap₂ (λ (b : Counter) (n : ℕ). (b, n)) (sym (counter-by k true some g)) (sym (terminals-by k true g))

  running-after : (k : ℕ) → iterate k tick (c, 0) ≡ told k
  running-after k =
      ⊎_elim
      (λ r. r.state ∙ tells-runs k (stops-divided k ∙ r.goes))
      (λ r. r.state ∙ tells-ends k r.after (stops-divided k ∙ r.stops))
      (reached k)

-- ---- a counter that does not run, and one to which no clock comes
module _ (version : ℕ) (c : Counter) where
  stopped-after : (k : ℕ) → c.cip ≡ false → iterate k (ticked_by version true) (c, 0) ≡ (counter_after version true c k, terminals_in true c k)
  unfolding iterate ticked_by clocked_by counter_after terminals_in
  stopped-after zero o = simp o
  stopped-after (suc zero) o = simp o
  stopped-after (suc (suc k)) o = ap (ticked_by version true) (stopped-after (suc k) o)
      ∙ simp (ne_eqb (suc k) 0 (λ e. omega arith), ne_eqb (suc (suc k)) 0 (λ e. omega arith), o)

  still_after : (k : ℕ) → iterate k (ticked_by version false) (c, 0) ≡ (c, 0)
  unfolding iterate ticked_by
  still_after zero = refl
  still_after (suc k) = still_after k

-- ---- the law
alone-by : (version : ℕ) (comes : Bool) (c : Counter) (v : Bool) → c.cip ≡ v → c.count < 65536 → c.constant < 65536 → (k : ℕ)
    → iterate k (ticked_by version comes) (c, 0) ≡ (counter_after version comes c k, terminals_in comes c k)
unfolding counter_after terminals_in
alone-by version false c v e hc ht k = still_after version c k
alone-by version true c true e hc ht k = running-after version c e hc ht k
alone-by version true c false e hc ht k = stopped-after version c k e

pub alone-after : (version : ℕ) (comes : Bool) (c : Counter) → c.count < 65536 → c.constant < 65536 → (k : ℕ)
    → iterate k (ticked_by version comes) (c, 0) ≡ (counter_after version comes c k, terminals_in comes c k)
alone-after version comes c hc ht k = alone-by version comes c _ refl hc ht k
