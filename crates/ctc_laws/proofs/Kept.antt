-- What keeps a channel sound: a count, a clock, an edge, a word; and a channel in a device.
-- Assumes nothing.
use Prim.Native.Nat.{ℕ, zero, suc, ◌+◌, ◌*◌, ◌/◌, ◌%◌, ◌<◌, ◌≤◌}
use mathlib.Core.Path.{◌≡◌, refl, sym, ap, subst, ◌∙◌}
use mathlib.Core.List.{List, [], ◌∷◌}
use mathlib.Core.Bool.{Bool, true, false, not, ◌&&◌, ◌||◌, and-false, or-true}
use native.Mathlib.Omega.{arith}
use lib.Dec.{eqb}
use lib.ListN.{get_or, set}
use borrow.Author.Tests.{eqb-true, eqb-false, eq-eqb, lt-ltb}
use Rattle.basics.specs.Byte.{bit, differs}
use Rattle.basics.proofs.Tests.{by-test}
use Rattle.rules.specs.Counters.{less_one}
use Rattle.ctc_rules.specs.declared.Channel.{Channel}
use Rattle.ctc_rules.specs.declared.Ctc.{Ctc}
use Rattle.ctc_rules.specs.declared.Zeroed.{Zeroed}
use Rattle.ctc_rules.specs.Set.{set_count, set_prescaler, set_running, set_ip, set_ius, set_channel}
use Rattle.ctc_rules.specs.Record.{interrupt_on, counter_mode, by256, factor_of, rising_edge, by_trigger, blank_channel, channel_at}
use Rattle.ctc_rules.specs.Channels.{count_channel, timer_runs, clock_channel, started_of, edge_channel, active_edge, level_channel, stored_word, soft_reset, goes_on, control_word, stored_constant, constant_word}
use Rattle.ctc_rules.specs.Sound.{control_bits, runs_loaded, constant_loaded, counter_runs, prescaler_below, prescaler_timed, sound_channel, sound_ctc}
use Rattle.ctc_laws.proofs.Parts.{channel-parts, channel-sound, sound-below, device-parts, device-sound}
use Rattle.ctc_laws.proofs.Divided.{factor-pos}

-- a sound channel
abbrev pub Fine : Channel → Type 0
Fine c = sound_channel c ≡ true

-- ---- what soundness does not look at
pub count-blind : (c : Channel) (n : ℕ) (i s : Bool) → sound_channel (set_ius (set_ip (set_count c n) i) s) ≡ sound_channel c
unfolding sound_channel control_bits runs_loaded constant_loaded counter_runs prescaler_below prescaler_timed factor_of timer_runs
count-blind c n i s = refl

module _ (c : Channel) where
  -- ---- a count
  pub count-fine : Fine c → Fine (count_channel c).channel
  unfolding count_channel
  count-fine h =
      by-test (λ (z : Zeroed). Fine z.channel) (eqb (less_one 256 c.count) 0) _ _ (λ _. count-blind c c.constant (c.ip || interrupt_on c) c.ius ∙ h)
      (λ _. count-blind c (less_one 256 c.count) c.ip c.ius ∙ h)

  -- ---- a clock: another prescaler of a timer that runs
  prescaled-fine : (p : ℕ) → Fine c → timer_runs c ≡ true → p < factor_of c → Fine (set_prescaler c p)
  unfolding control_bits runs_loaded constant_loaded counter_runs prescaler_below prescaler_timed factor_of timer_runs
  prescaled-fine p h r l =
      let k = channel-parts c h in
      channel-sound (set_prescaler c p)
      (record {
        bits = k.bits;
        runs = k.runs;
        constant = k.constant;
        counter = k.counter;
        below = lt-ltb p _ l;
        timed = ap (λ (v : Bool). not (not v) || eqb p 0) r;
      })

pub clock-fine : (c : Channel) → Fine c → Fine (clock_channel c).channel
unfolding clock_channel
clock-fine c h =
    by-test (λ (z : Zeroed). Fine z.channel) (not (timer_runs c)) _ _ (λ _. h)
    (λ n.
    let r = runs (timer_runs c) n in
    by-test (λ (z : Zeroed). Fine z.channel) (eqb (c.prescaler + 1) (factor_of c)) _ _
    (λ _. count-fine (set_prescaler c 0) (prescaled-fine c 0 h r (factor-pos c)))
    (λ e.
    let ne = eqb-false (c.prescaler + 1) (factor_of c) e in
    prescaled-fine c (c.prescaler + 1) h r (omega (arith, sound-below c h, ne))))
  where
    runs : (b : Bool) → not b ≡ false → b ≡ true
    runs true n = refl
    runs false n = sym n

-- ---- a start
started-fine : (c : Channel) → control_bits c ≡ true → c.loaded ≡ true → Fine (started_of c)
unfolding control_bits runs_loaded constant_loaded counter_runs prescaler_below prescaler_timed factor_of timer_runs
started-fine c b l =
    channel-sound (started_of c)
    (record {
      bits = b;
      runs = l;
      constant = simp l;
      counter = or-true (not (c.loaded && counter_mode c));
      below = lt-ltb 0 _ (factor-pos c);
      timed = or-true (not (not (true && not (counter_mode c))));
    })

-- ---- an edge
pub edge-fine : (c : Channel) → Fine c → Fine (edge_channel c)
unfolding edge_channel
edge-fine c h =
    by-test Fine (not c.loaded) _ _ (λ _. h)
    (λ n.
    by-test Fine (counter_mode c) _ _ (λ _. count-fine c h)
    (λ _. by-test Fine c.running _ _ (λ _. h) (λ _. started-fine c (channel-parts c h).bits (loaded c.loaded n))))
  where
    loaded : (b : Bool) → not b ≡ false → b ≡ true
    loaded true n = refl
    loaded false n = sym n

pub level-fine : (c : Channel) (before after : Bool) → Fine c → Fine (level_channel c before after)
unfolding level_channel
level-fine c before after h = by-test Fine (active_edge c before after) _ _ (λ _. edge-fine c h) (λ _. h)

-- ---- a control word
pub word-bits : (b : ℕ) → eqb (b / 8 * 8 % 8) 0 ≡ true
word-bits b = eq-eqb (b / 8 * 8 % 8) 0 (omega arith)

reset-fine : (c : Channel) (b : ℕ) → Fine (soft_reset (stored_word c b))
unfolding control_bits runs_loaded constant_loaded counter_runs prescaler_below prescaler_timed factor_of timer_runs
reset-fine c b =
    channel-sound (soft_reset (stored_word c b))
    (record { bits = word-bits b; runs = refl; constant = refl; counter = refl; below = lt-ltb 0 _ (factor-pos (stored_word c b)); timed = refl })

-- a channel in its new mode: as a counter, as a timer by 256, and as one by 16
only_self : (a : Bool) → (not a || a) ≡ true
only_self true = refl
only_self false = refl

only-first : (a b : Bool) → (not (a && b) || a) ≡ true
only-first true true = refl
only-first true false = refl
only-first false b = refl

counter-fine : (c : Channel) (b : ℕ) → Fine c → Fine (set_prescaler (set_running (stored_word c b) c.loaded) 0)
unfolding control_bits runs_loaded constant_loaded counter_runs prescaler_below prescaler_timed factor_of timer_runs
counter-fine c b h =
    let s = stored_word c b in
    channel-sound (set_prescaler (set_running s c.loaded) 0)
    (record {
      bits = word-bits b;
      runs = only_self c.loaded;
      constant = (channel-parts c h).constant;
      counter = only-first c.loaded (counter_mode s);
      below = lt-ltb 0 _ (factor-pos s);
      timed = or-true (not (not (c.loaded && not (counter_mode s))));
    })

-- its prescaler is 0 where it does not run
idle-zero : (c : Channel) → Fine c → c.running ≡ false → c.prescaler ≡ 0
unfolding prescaler_timed timer_runs
idle-zero c h r =
    let t = (channel-parts c h).timed in
    eqb-true c.prescaler 0 (subst (λ (v : Bool). (not (not (v && not (counter_mode c))) || eqb c.prescaler 0) ≡ true) r t)

timed-by : (c : Channel) (p : ℕ) (m v : Bool) → m ≡ false → c.running ≡ v → (c.running ≡ false → p ≡ 0)
    → (not (not (c.running && not m)) || eqb p 0) ≡ true
timed-by c p m true e r z = simp (e, r)
timed-by c p m false e r z = simp (e, r, eq-eqb p 0 (z r))

timer-fine : (c : Channel) (b p : ℕ) → Fine c → counter_mode (stored_word c b) ≡ false → p < factor_of (stored_word c b) → (c.running ≡ false → p ≡ 0)
    → Fine (set_prescaler (stored_word c b) p)
unfolding control_bits runs_loaded constant_loaded counter_runs prescaler_below prescaler_timed factor_of timer_runs
timer-fine c b p h m l z =
    let k = channel-parts c h in
    channel-sound (set_prescaler (stored_word c b) p)
    (record {
      bits = word-bits b;
      runs = k.runs;
      constant = k.constant;
      counter = ap (λ (v : Bool). not (c.loaded && v) || c.running) m ∙ (simp and-false);
      below = lt-ltb p _ l;
      timed = timed-by c p (counter_mode (stored_word c b)) _ m refl z;
    })

factor-most : (c : Channel) → factor_of c ≤ 256
unfolding factor_of
factor-most c = by-test (λ (n : ℕ). n ≤ 256) (by256 c) 256 16 (λ _. omega arith) (λ _. omega arith)

factor-256 : (c : Channel) → by256 c ≡ true → factor_of c ≡ 256
unfolding factor_of
factor-256 c e = simp e

factor-16 : (c : Channel) → by256 c ≡ false → factor_of c ≡ 16
unfolding factor_of
factor-16 c e = simp e

goes-fine : (c : Channel) (b : ℕ) → Fine c → Fine (goes_on (stored_word c b))
unfolding goes_on
goes-fine c b h =
    let s = stored_word c b in
    by-test Fine (counter_mode s) _ _ (λ _. counter-fine c b h)
    (λ m.
    by-test Fine (by256 s) _ _
    (λ e. timer-fine c b c.prescaler h m (omega (arith, sound-below c h, factor-most c, factor-256 s e)) (idle-zero c h))
    (λ e.
    timer-fine c b (c.prescaler % 16) h m (omega (arith, factor-16 s e)) (λ r. let z = idle-zero c h r in omega arith)))

pub control-fine : (c : Channel) (b : ℕ) → Fine c → Fine (control_word c b)
unfolding control_word
control-fine c b h =
    by-test Fine (bit b 1) _ _ (λ _. reset-fine c b)
    (λ _. by-test Fine (differs (bit b 4) (rising_edge c)) _ _ (λ _. edge-fine (goes_on (stored_word c b)) (goes-fine c b h)) (λ _. goes-fine c b h))

-- ---- a constant
running-fine : (c : Channel) (b : ℕ) → Fine c → c.running ≡ true → Fine (stored_constant c b)
unfolding control_bits runs_loaded constant_loaded counter_runs prescaler_below prescaler_timed factor_of timer_runs
running-fine c b h r =
    let k = channel-parts c h in
    channel-sound (stored_constant c b)
    (record {
      bits = k.bits;
      runs = or-true (not c.running);
      constant = refl;
      counter = ap (λ (v : Bool). not (true && counter_mode c) || v) r ∙ or-true (not (true && counter_mode c));
      below = k.below;
      timed = k.timed;
    })

armed-fine : (c : Channel) (b : ℕ) → Fine c → counter_mode c ≡ false → Fine (set_count (stored_constant c b) b)
unfolding control_bits runs_loaded constant_loaded counter_runs prescaler_below prescaler_timed factor_of timer_runs
armed-fine c b h m =
    let k = channel-parts c h in
    channel-sound (set_count (stored_constant c b) b)
    (record {
      bits = k.bits;
      runs = or-true (not c.running);
      constant = refl;
      counter = simp m;
      below = k.below;
      timed = k.timed;
    })

first-not : (a b : Bool) → (a || b) ≡ false → a ≡ false
first-not false b e = refl
first-not true b e = e

pub constant-fine : (c : Channel) (b : ℕ) → Fine c → Fine (constant_word c b)
unfolding constant_word control_bits
constant-fine c b h =
    by-test Fine c.running _ _ (running-fine c b h)
    (λ _.
    by-test Fine (counter_mode c || not (by_trigger c)) _ _ (λ _. started-fine (set_count (stored_constant c b) b) (channel-parts c h).bits refl)
    (λ n. armed-fine c b h (first-not (counter_mode c) (not (by_trigger c)) n)))

-- ---- a channel of a device replaced by one that is sound if it is
pub set-kept : {A : Type 0} (P : A → Type 0) (l : List A) (i j : ℕ) (x y : A) → P (get_or l j y) → (i ≡ j → P x) → P (get_or (set l i x) j y)
set-kept P [] i j x y h g = h
set-kept P (a ∷ l) zero zero x y h g = g refl
set-kept P (a ∷ l) zero (suc j) x y h g = h
set-kept P (a ∷ l) (suc i) zero x y h g = h
set-kept P (a ∷ l) (suc i) (suc j) x y h g = set-kept P l i j x y h (λ e. g (ap suc e))

pub set-fine : (d : Ctc) (i : ℕ) (x : Channel) → sound_ctc d ≡ true → (Fine (channel_at d i) → Fine x) → sound_ctc (set_channel d i x) ≡ true
set-fine d i x s h =
    let k = device-parts d s in
    let at : (j : ℕ) → Fine (channel_at d j) → Fine (channel_at (set_channel d i x) j) =
    λ j f. set-kept Fine d.channels i j x blank_channel f (λ e. h (subst (λ (n : ℕ). Fine (channel_at d n)) (sym e) f)) in
    device-sound (set_channel d i x)
    (record { zeroth = at 0 k.zeroth; first = at 1 k.first; second = at 2 k.second; third = at 3 k.third; vector = k.vector; levels = k.levels })
