-- What keeps a counter sound: its turn in a step, a command, a read of its low byte, its enable, its time constant, its mode.
-- Assumes nothing.
use Prim.Native.Nat.{ℕ}
use mathlib.Core.Path.{◌≡◌, refl}
use mathlib.Core.Bool.{Bool, true, false, not, ◌&&◌, ◌||◌, cond, So, false≢true, and-false}
use lib.Dec.{eqb}
use Rattle.rules.specs.declared.Counter.{Counter}
use Rattle.rules.specs.declared.Counted.{Counted}
use Rattle.rules.specs.declared.Reach.{Reach}
use Rattle.basics.specs.Byte.{bit}
use Rattle.rules.specs.Registers.{later_counter_mode}
use Rattle.rules.specs.With.{with_count, with_frozen, with_rcc, with_gcb, with_cip, with_half, with_pulse, with_constant, with_mode}
use Rattle.rules.specs.Counters.{square, continuous, retrigger, takes, loaded, less_one, terminal_of, count_of, clocks, clocked_by, turn_of, frozen_by, triggered_by, commanded_by, thawed, enabled_by}
use Rattle.basics.proofs.Tests.{so-both, left, right, by-test}
use Rattle.theorems.proofs.Parts.{CounterSound}

no : {A : Type 0} → So false → A
no h = absurd (false≢true h)

-- another count, CIP and half; and another pulse
abbrev at : Counter → ℕ → Bool → Bool → Counter
at c n r s = with_half (with_cip (with_count c n) r) s

enabled-of : (e : Bool) (c : Counter) → So (takes e c) → So e
unfolding takes
enabled-of e c h = left e (not c.cip || retrigger c) h

module _ {n : ℕ} {e : Bool} where
  at-sound : {c : Counter} (m : ℕ) (r s : Bool) → CounterSound n e c → (So r → So e) → (So s → So r) → CounterSound n e (at c m r s)
  at-sound m r s h f g = record { mode = h.mode; cip = f; half = g; frozen = h.frozen; pulse = h.pulse }

  pulse-sound : {c : Counter} (v : Bool) → CounterSound n e c → (So v → So (eqb n 2 && e)) → CounterSound n e (with_pulse c v)
  pulse-sound v h f = record { mode = h.mode; cip = h.cip; half = h.half; frozen = h.frozen; pulse = f }

  loaded-sound : (c : Counter) → CounterSound n e c → So e → CounterSound n e (loaded c)
  unfolding loaded
  loaded-sound c h p = pulse-sound false (at-sound c.constant true false h (λ _. p) no) no

  -- ---- a turn in a step
  terminal-sound : (c : Counter) → CounterSound n e c → So c.cip → CounterSound n e (terminal_of c)
  unfolding terminal_of
  terminal-sound c h p =
      by-test (CounterSound n e) (square c && not c.half) (at c c.constant c.cip true)
      (cond (continuous c) (at c c.constant c.cip false) (at c 0 false false))
      (λ _. at-sound c.constant c.cip true h h.cip (λ _. p))
      (λ _.
      by-test (CounterSound n e) (continuous c) (at c c.constant c.cip false) (at c 0 false false)
      (λ _. at-sound c.constant c.cip false h h.cip no) (λ _. at-sound 0 false false h no no))

  count-sound : (c : Counter) → CounterSound n e c → So c.cip → CounterSound n e (count_of n c).counter
  unfolding count_of
  count-sound c h p =
      by-test (λ (r : Counted). CounterSound n e r.counter) (eqb (less_one 65536 c.count) 0)
      (record { counter = with_pulse (terminal_of c) (eqb n 2); terminal = true })
      (record { counter = with_pulse (with_count c (less_one 65536 c.count)) false; terminal = false })
      (λ _. pulse-sound (eqb n 2) (terminal-sound c h p) (λ v. so-both v (h.cip p)))
      (λ _. pulse-sound false (at-sound (less_one 65536 c.count) c.cip c.half h h.cip h.half) no)

  clocked-sound : (c : Counter) → CounterSound n e c → CounterSound n e (clocked_by n c).counter
  unfolding clocked_by
  clocked-sound c h =
      by-test (λ (r : Counted). CounterSound n e r.counter) c.cip (count_of n c) (record { counter = with_pulse c false; terminal = false })
      (count-sound c h) (λ _. pulse-sound false h no)

  pub turn-sound : (reach : Reach) (c : Counter) → CounterSound n e c → CounterSound n e (turn_of n e reach c).counter
  unfolding turn_of
  turn-sound reach c h =
      by-test (λ (r : Counted). CounterSound n e r.counter) (reach.trigger && takes e c) (record { counter = loaded c; terminal = false })
      (cond (clocks e reach c) (clocked_by n c) (record { counter = c; terminal = false }))
      (λ t. loaded-sound c h (enabled-of e c (right reach.trigger (takes e c) t)))
      (λ _.
      by-test (λ (r : Counted). CounterSound n e r.counter) (clocks e reach c) (clocked_by n c) (record { counter = c; terminal = false })
      (λ _. clocked-sound c h) (λ _. h))

  -- ---- a command
  gcb-sound : (c : Counter) (v : Bool) → CounterSound n e c → CounterSound n e (with_gcb c v)
  gcb-sound c v h = record { mode = h.mode; cip = h.cip; half = h.half; frozen = h.frozen; pulse = h.pulse }

  frozen-sound : (v : Bool) (c : Counter) → CounterSound n e c → CounterSound n e (frozen_by v c)
  unfolding frozen_by
  frozen-sound v c h =
      by-test (CounterSound n e) (v && not c.rcc) (with_frozen (with_rcc c true) c.count) c
      (λ _. record { mode = h.mode; cip = h.cip; half = h.half; frozen = no; pulse = h.pulse }) (λ _. h)

  triggered-sound : (v : Bool) (c : Counter) → CounterSound n e c → CounterSound n e (triggered_by v e c)
  unfolding triggered_by
  triggered-sound v c h =
      by-test (CounterSound n e) (v && takes e c) (loaded c) c (λ t. loaded-sound c h (enabled-of e c (right v (takes e c) t))) (λ _. h)

  pub commanded-sound : (b : ℕ) (c : Counter) → CounterSound n e c → CounterSound n e (commanded_by e b c)
  unfolding commanded_by
  commanded-sound b c h =
      triggered-sound (bit b 1) (frozen_by (bit b 3) (with_gcb c (bit b 2)))
      (frozen-sound (bit b 3) (with_gcb c (bit b 2)) (gcb-sound c (bit b 2) h))

  -- ---- the rest
  pub thawed-sound : (c : Counter) → CounterSound n e c → CounterSound n e (thawed c)
  unfolding thawed
  thawed-sound c h = record { mode = h.mode; cip = h.cip; half = h.half; frozen = λ _. refl; pulse = h.pulse }

  pub enabled-sound : (v : Bool) (c : Counter) → CounterSound n e c → CounterSound n v (enabled_by v c)
  unfolding enabled_by
  enabled-sound v c h =
      by-test (CounterSound n v) v c (with_pulse (at c c.count false false) false)
      (λ t. record { mode = h.mode; cip = λ _. t; half = h.half; frozen = h.frozen; pulse = λ p. so-both (left (eqb n 2) e (h.pulse p)) t })
      (λ _. record { mode = h.mode; cip = no; half = no; frozen = h.frozen; pulse = no })

  pub constant-sound : (c : Counter) (m : ℕ) → CounterSound n e c → CounterSound n e (with_constant c m)
  constant-sound c m h = record { mode = h.mode; cip = h.cip; half = h.half; frozen = h.frozen; pulse = h.pulse }

  pub mode-sound : (c : Counter) (b : ℕ) → later_counter_mode b ≡ false → CounterSound n e c → CounterSound n e (with_mode c b)
  mode-sound c b m h = record { mode = m; cip = h.cip; half = h.half; frozen = h.frozen; pulse = h.pulse }

-- a counter that is not enabled is left as it is
pub turn-off : (n : ℕ) (e : Bool) (reach : Reach) (c : Counter) → e ≡ false → turn_of n e reach c ≡ record { counter = c; terminal = false }
unfolding turn_of takes clocks
turn-off n e reach c p = simp (p, and-false)
