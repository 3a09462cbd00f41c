-- a byte is below 256
use Prim.Native.Nat.{ℕ, ◌%◌, ◌<◌}
use mathlib.Core.Bool.{Bool, true, false, not, ◌&&◌, ◌||◌, cond}
use mathlib.Core.Path.{◌≡◌, refl, sym}
use lib.Dec.{eqb, ltb}
use borrow.Author.Rules.{rules}
use borrow.Author.Tests.{lt-ltb}
use Rattle.ctc_rules.specs.declared.Channel.{Channel}
use Rattle.ctc_rules.specs.Record.{counter_mode, by256, factor_of}
use Rattle.ctc_rules.specs.Channels.{timer_runs}
use Rattle.ctc_rules.specs.Sound.{sound_channel, control_bits, runs_loaded, constant_loaded, counter_runs, prescaler_below, prescaler_timed}
use Rattle.ctc_rules.proofs.sound_channel.Goals as goal

below : (b : Bool) (p : ℕ) → p < 256 → (b || ltb p 16) ≡ ltb p (cond b 256 16)
below true p h = sym (lt-ltb p 256 h)
below false p h = refl

twice : (b v : Bool) → (b || v) ≡ (not (not b) || v)
twice true v = refl
twice false v = refl

module _ (c : Channel) where
  constant : (c.loaded || eqb c.constant 0) ≡ constant_loaded c
  unfolding constant_loaded
  constant = twice c.loaded (eqb c.constant 0)

  prescaler : c.prescaler < 256 → (by256 c || ltb c.prescaler 16) ≡ prescaler_below c
  unfolding prescaler_below factor_of
  prescaler h = below (by256 c) c.prescaler h

  timed : ((c.running && not (counter_mode c)) || eqb c.prescaler 0) ≡ prescaler_timed c
  unfolding prescaler_timed timer_runs
  timed = twice (c.running && not (counter_mode c)) (eqb c.prescaler 0)

  whole : c.prescaler < 256
      → (eqb (c.control % 8) 0 && (not c.running || c.loaded) && (c.loaded || eqb c.constant 0) && (not (c.loaded && counter_mode c) || c.running)
      && (by256 c || ltb c.prescaler 16) && ((c.running && not (counter_mode c)) || eqb c.prescaler 0)) ≡ sound_channel c
  unfolding sound_channel control_bits runs_loaded counter_runs
  whole h = simp (constant, prescaler h, timed)

pub returns : goal.returns
returns c =
    whole c.args.c (search rules)
