-- A channel over k counts, and over n clocks, by division: the down-counter by the law of `theorems/Countdown`, which is one for every
-- modulus, here 256 and in the Z8036's counters 65,536; and the prescaler by its factor.
-- Assumes nothing.
use Prim.Native.Nat.{ℕ, zero, suc, ◌+◌, ◌*◌, ◌/◌, ◌%◌, ◌<◌}
use mathlib.Core.Path.{◌≡◌, refl, sym, ap, ap₂, ◌∙◌}
use mathlib.Core.Bool.{Bool, true, false, not, ◌&&◌, ◌||◌, beq, cond, and-false, or-false}
use native.Mathlib.Nat.{add-zero, add-suc, suc-mul, mod-lt, mod-eq_of_lt, div-eq_of_lt, div-add-mod'}
use native.Mathlib.Omega.{arith}
use lib.Arith.{digits_div, digits_mod}
use lib.Dec.{eqb, lit<}
use borrow.Author.Tests.{eqb-true, eqb-false, ne_eqb}
use Rattle.basics.specs.Byte.{num}
use Rattle.basics.specs.Iterate.{iterate}
use Rattle.basics.proofs.Truth.{same, all3}
use Rattle.rules.specs.Counters.{less_one}
use Rattle.theorems.proofs.Countdown.{countdown, counts-by-division}
use Rattle.ctc_rules.specs.declared.Channel.{Channel}
use Rattle.ctc_rules.specs.declared.ChannelRan.{ChannelRan}
use Rattle.ctc_rules.specs.declared.Zeroed.{Zeroed}
use Rattle.ctc_rules.specs.Set.{set_count, set_prescaler, set_ip}
use Rattle.ctc_rules.specs.Record.{interrupt_on, counter_mode, by256, factor_of}
use Rattle.ctc_rules.specs.Channels.{count_channel, timer_runs, clock_channel, edge_channel}
use Rattle.ctc_laws.specs.Divided.{count_more, tick_channel, unticked, timer_counts, zeros_in, down_after, counts_after, timer_after, clocks_after}

-- ---- one clock more of a prescaler that is taken modulo m
module _ (m x : ℕ) (h : 0 < m) where
  inside : (x % m + 1 ≡ m → ⊥) → (suc x / m ≡ x / m) × (suc x % m ≡ x % m + 1)
  inside n =
      let l : x % m + 1 < m = omega (arith, mod-lt x h) in
      let e : suc x ≡ x / m * m + (x % m + 1) = omega (arith, div-add-mod' x m) in
      (ap (λ (y : ℕ). y / m) e ∙ digits_div (x / m) l, ap (λ (y : ℕ). y % m) e ∙ digits_mod (x / m) l)

  around : x % m + 1 ≡ m → (suc x / m ≡ suc (x / m)) × (suc x % m ≡ 0)
  around n =
      let e : suc x ≡ suc (x / m) * m + 0 = omega (arith, div-add-mod' x m, suc-mul (x / m) m) in
      (ap (λ (y : ℕ). y / m) e ∙ digits_div (suc (x / m)) h, ap (λ (y : ℕ). y % m) e ∙ digits_mod (suc (x / m)) h)

factor-by : (v : Bool) → 0 < cond v 256 16
factor-by true = lit< tt
factor-by false = lit< tt

pub factor-pos : (c : Channel) → 0 < factor_of c
unfolding factor_of
factor-pos c = factor-by (by256 c)

-- ---- one clock, and one count, by their cases
module _ (b : Channel) where
  clock-inside : timer_runs b ≡ true → eqb (b.prescaler + 1) (factor_of b) ≡ false
      → clock_channel b ≡ record { channel = set_prescaler b (b.prescaler + 1); zero = false }
  unfolding clock_channel
  clock-inside r e = simp (r, e)

  clock-around : timer_runs b ≡ true → eqb (b.prescaler + 1) (factor_of b) ≡ true → clock_channel b ≡ count_channel (set_prescaler b 0)
  unfolding clock_channel
  clock-around r e = simp (r, e)

  clock-none : timer_runs b ≡ false → clock_channel b ≡ record { channel = b; zero = false }
  unfolding clock_channel
  clock-none r = simp r

  count-more : eqb (less_one 256 b.count) 0 ≡ false → count_channel b ≡ record { channel = set_count b (less_one 256 b.count); zero = false }
  unfolding count_channel
  count-more e = simp e

  count-zero : eqb (less_one 256 b.count) 0 ≡ true
      → count_channel b ≡ record { channel = set_ip (set_count b b.constant) (b.ip || interrupt_on b); zero = true }
  unfolding count_channel
  count-zero e = simp e

tick-of : (s : ChannelRan) (z : Zeroed) → clock_channel s.channel ≡ z
    → tick_channel s ≡ record { channel = z.channel; zeros = s.zeros + num z.zero }
unfolding tick_channel
tick-of s z e = ap (λ (y : Zeroed). record { channel = y.channel; zeros = s.zeros + num y.zero }) e

-- IP after one zero count more
once_more : (a b v : Bool) → ((a || (b && v)) || b) ≡ (a || (b && true))
once_more a b v = same _ _ (all3 (λ a b v. beq ((a || (b && v)) || b) (a || (b && true))) tt a b v)

-- ---- counts: the down-counter goes as the countdown goes
module _ (c : Channel) where
  -- with this down-counter after these zero counts
  abbrev shown : ℕ × ℕ → ChannelRan
  shown s = record { channel = set_ip (set_count c s.0) (c.ip || (interrupt_on c && not (eqb s.1 0))); zeros = s.1 }

  shown-more : (s : ℕ × ℕ) → eqb (less_one 256 s.0) 0 ≡ false → count_more (shown s) ≡ shown (less_one 256 s.0, s.1)
  unfolding count_more
  shown-more s l =
      ap (λ (z : Zeroed). record { channel = z.channel; zeros = s.1 + num z.zero }) (count-more (shown s).channel l)
      ∙ ap (λ (n : ℕ). record { channel = (shown (less_one 256 s.0, s.1)).channel; zeros = n }) (add-zero s.1)

  shown-zero : (s : ℕ × ℕ) → eqb (less_one 256 s.0) 0 ≡ true → count_more (shown s) ≡ shown (c.constant, s.1 + 1)
  unfolding count_more
  shown-zero s l =
      let ip : ((c.ip || (interrupt_on c && not (eqb s.1 0))) || interrupt_on c) ≡ (c.ip || (interrupt_on c && not (eqb (s.1 + 1) 0))) =
      once_more c.ip (interrupt_on c) (not (eqb s.1 0))
      ∙ ap (λ (v : Bool). c.ip || (interrupt_on c && not v)) (sym (ne_eqb (s.1 + 1) 0 (λ x. omega arith))) in
      ap (λ (z : Zeroed). record { channel = z.channel; zeros = s.1 + num z.zero }) (count-zero (shown s).channel l)
      ∙ ap (λ (v : Bool). record { channel = set_ip (set_count c c.constant) v; zeros = s.1 + 1 }) ip

  shown_by : (s : ℕ × ℕ) (v : Bool) → eqb (less_one 256 s.0) 0 ≡ v → count_more (shown s) ≡ shown (countdown 256 c.constant s)
  unfolding countdown
  shown_by s false l = shown-more s l ∙ ap (λ (u : Bool). shown (cond u (c.constant, s.1 + 1) (less_one 256 s.0, s.1))) (sym l)
  shown_by s true l = shown-zero s l ∙ ap (λ (u : Bool). shown (cond u (c.constant, s.1 + 1) (less_one 256 s.0, s.1))) (sym l)

  abbrev counted : ℕ → ℕ × ℕ
  counted k = iterate k (countdown 256 c.constant) (c.count, 0)

  shown-first : unticked c ≡ shown (c.count, 0)
  shown-first = simp (and-false, or-false)

  counted-at : (k : ℕ) → iterate k count_more (unticked c) ≡ shown (counted k)
  unfolding iterate
  counted-at zero = shown-first
  counted-at (suc k) = ap count_more (counted-at k) ∙ shown_by (counted k) _ refl

  -- k counts of a channel, by division: the law of any modulus, at 256
  pub channel-counts : c.count < 256 → c.constant < 256 → (k : ℕ) → iterate k count_more (unticked c) ≡ counts_after c k
  unfolding counts_after zeros_in down_after
  channel-counts hc ht k = counted-at k ∙ ap shown (counts-by-division 256 c.count c.constant hc ht k)

-- ---- k active edges of a loaded channel in counter mode are k counts
edge-counts : (b : Channel) → b.loaded ≡ true → counter_mode b ≡ true → edge_channel b ≡ (count_channel b).channel
unfolding edge_channel
edge-counts b l m = simp (l, m)

module _ (c : Channel) (l : c.loaded ≡ true) (m : counter_mode c ≡ true) where
  edges_at : (k : ℕ) → iterate k edge_channel c ≡ (shown c (counted c k)).channel
  unfolding iterate count_more
  edges_at zero = ap (λ (s : ChannelRan). s.channel) (shown-first c)
  edges_at (suc k) =
      ap edge_channel (edges_at k) ∙ edge-counts (shown c (counted c k)).channel l m ∙ ap (λ (s : ChannelRan). s.channel) (shown_by c (counted c k) _ refl)

  pub edges-by-division : c.count < 256 → c.constant < 256 → (k : ℕ) → iterate k edge_channel c ≡ (counts_after c k).channel
  edges-by-division hc ht k =
      edges_at k ∙ ap (λ (s : ChannelRan). s.channel) (sym (counted-at c k) ∙ channel-counts c hc ht k)

-- ---- a timer that runs
module _ (c : Channel) (runs : timer_runs c ≡ true) where
  -- with this prescaler, and this down-counter after these zero counts
  abbrev at : ℕ → ℕ × ℕ → ChannelRan
  at p s = shown (set_prescaler c p) s

  still-runs : (p : ℕ) (s : ℕ × ℕ) → timer_runs (at p s).channel ≡ true
  unfolding timer_runs
  still-runs p s = runs

  same-factor : (p : ℕ) (s : ℕ × ℕ) → factor_of (at p s).channel ≡ factor_of c
  unfolding factor_of
  same-factor p s = refl

  ticks-inside : (p : ℕ) (s : ℕ × ℕ) → eqb (p + 1) (factor_of c) ≡ false → tick_channel (at p s) ≡ at (p + 1) s
  ticks-inside p s e =
      tick-of (at p s) _ (clock-inside (at p s).channel (still-runs p s) (ap (eqb (p + 1)) (same-factor p s) ∙ e))
      ∙ ap (λ (n : ℕ). record { channel = (at (p + 1) s).channel; zeros = n }) (add-zero s.1)

  -- at the factor the channel counts
  ticks-around : (p : ℕ) (s : ℕ × ℕ) → eqb (p + 1) (factor_of c) ≡ true → tick_channel (at p s) ≡ at 0 (countdown 256 c.constant s)
  unfolding count_more
  ticks-around p s e =
      tick-of (at p s) _ (clock-around (at p s).channel (still-runs p s) (ap (eqb (p + 1)) (same-factor p s) ∙ e))
      ∙ shown_by (set_prescaler c 0) s _ refl

  -- one clock more, after x clocks of the prescaler's own
  ticks : (x : ℕ) (v : Bool) → eqb (x % factor_of c + 1) (factor_of c) ≡ v
      → tick_channel (at (x % factor_of c) (counted c (x / factor_of c))) ≡ at (suc x % factor_of c) (counted c (suc x / factor_of c))
  unfolding iterate
  ticks x false e =
      let i = inside (factor_of c) x (factor-pos c) (eqb-false _ _ e) in
      ticks-inside (x % factor_of c) (counted c (x / factor_of c)) e ∙ ap₂ (λ (p k : ℕ). at p (counted c k)) (sym i.1) (sym i.0)
  ticks x true e =
      let i = around (factor_of c) x (factor-pos c) (eqb-true _ _ e) in
      ticks-around (x % factor_of c) (counted c (x / factor_of c)) e ∙ ap₂ (λ (p k : ℕ). at p (counted c k)) (sym i.1) (sym i.0)

  module _ (below : c.prescaler < factor_of c) where
    ran-at : (n : ℕ) → iterate n tick_channel (unticked c) ≡ at ((c.prescaler + n) % factor_of c) (counted c ((c.prescaler + n) / factor_of c))
    unfolding iterate
    ran-at zero =
        let p : (c.prescaler + 0) % factor_of c ≡ c.prescaler = ap (λ (x : ℕ). x % factor_of c) (add-zero c.prescaler) ∙ mod-eq_of_lt below in
        let k : (c.prescaler + 0) / factor_of c ≡ 0 = ap (λ (x : ℕ). x / factor_of c) (add-zero c.prescaler) ∙ div-eq_of_lt below in
        shown-first c ∙ ap₂ (λ (p k : ℕ). at p (counted c k)) (sym p) (sym k)
    ran-at (suc n) =
        ap tick_channel (ran-at n) ∙ ticks (c.prescaler + n) _ refl
        ∙ ap (λ (x : ℕ). at (x % factor_of c) (counted c (x / factor_of c))) (sym (add-suc c.prescaler n))

    -- by division
    pub running-after : c.count < 256 → c.constant < 256 → (n : ℕ) → iterate n tick_channel (unticked c) ≡ timer_after c n (timer_counts c n)
    unfolding timer_after timer_counts zeros_in down_after
    running-after hc ht n =
        ran-at n ∙ ap (at ((c.prescaler + n) % factor_of c)) (counts-by-division 256 c.count c.constant hc ht ((c.prescaler + n) / factor_of c))

-- ---- a channel that takes no clocks
stopped-after : (c : Channel) → timer_runs c ≡ false → (n : ℕ) → iterate n tick_channel (unticked c) ≡ unticked c
unfolding iterate
stopped-after c r zero = refl
stopped-after c r (suc n) = ap tick_channel (stopped-after c r n) ∙ tick-of (unticked c) _ (clock-none c r)

-- ---- the law
by-division : (c : Channel) (v : Bool) → timer_runs c ≡ v → c.prescaler < factor_of c → c.count < 256 → c.constant < 256 → (n : ℕ)
    → iterate n tick_channel (unticked c) ≡ clocks_after c n
unfolding clocks_after
by-division c true r h hc ht n = running-after c r h hc ht n ∙ (simp r)
by-division c false r h hc ht n = stopped-after c r n ∙ (simp r)

-- n clocks of a channel, one by one, are what division gives
pub clocks-by-division : (c : Channel) → c.prescaler < factor_of c → c.count < 256 → c.constant < 256 → (n : ℕ)
    → iterate n tick_channel (unticked c) ≡ clocks_after c n
clocks-by-division c h hc ht n = by-division c _ refl h hc ht n
