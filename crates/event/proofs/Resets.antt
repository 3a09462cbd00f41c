-- X leaves what a write of RESET leaves: in a record that is reset nothing moves, so its step leaves it as it is.
-- Assumes nothing.
use Prim.Native.Nat.{ℕ}
use mathlib.Core.Path.{◌≡◌, refl, ap}
use mathlib.Core.Bool.{Bool, false, and-false}
use Rattle.basics.specs.Byte.{byte_of}
use Rattle.rules.specs.declared.Device.{Device}
use Rattle.rules.specs.declared.Counted.{Counted}
use Rattle.rules.specs.declared.Link.{Link}
use Rattle.rules.specs.declared.Reach.{Reach}
use Rattle.rules.specs.declared.Turned.{Turned}
use Rattle.rules.specs.declared.Fate.TheVariants.{Nothing}
use Rattle.rules.specs.Record.{idle, reset_of}
use Rattle.rules.specs.Registers.{kind_of, kind_in, port_on, counter_on}
use Rattle.rules.specs.Access.{master_written, written_of}
use Rattle.rules.specs.Moves.{works_at, falls, moves_at, moves_of}
use Rattle.rules.specs.Counters.{takes, clocks, turn_of}
use Rattle.rules.specs.PortData.{catches, catches_at, caught_bit, caught_of}
use Rattle.rules.specs.Patterns.{match_of, event_by, hides_by}
use Rattle.rules.specs.Interrupts.{fate_of, after_fate}
use Rattle.rules.specs.Step.{event_at, turned, counter_turn, caught_at, catchers, matched_by, pattern_turn, settled, step_of}
use Rattle.rules.specs.Events.{effect, write_effect}

-- a counter at rest, disabled
idle-turn : (n : ℕ) (h : Reach) → turn_of n false h idle ≡ record { counter = idle; terminal = false }
unfolding turn_of takes clocks
idle-turn n h = simp (and-false)

-- (b), (c), (d)
abbrev stays : Device → Turned
stays d = record { device = reset_of d; fate = Nothing }

turn-1 : (d : Device) (k : Link) (t : Bool) (v w : ℕ) → counter_turn k t v w 0 (reset_of d) ≡ stays d
unfolding counter_turn turned reset_of counter_on fate_of after_fate
turn-1 d k t v w = ap (λ (r : Counted). turned (reset_of d) 0 r) (idle-turn _ _)

turn-2 : (d : Device) (k : Link) (t : Bool) (v w : ℕ) → counter_turn k t v w 1 (reset_of d) ≡ stays d
unfolding counter_turn turned reset_of counter_on fate_of after_fate
turn-2 d k t v w = ap (λ (r : Counted). turned (reset_of d) 1 r) (idle-turn _ _)

turn-3 : (d : Device) (k : Link) (t : Bool) (v w : ℕ) → counter_turn k t v w 2 (reset_of d) ≡ stays d
unfolding counter_turn turned reset_of counter_on fate_of after_fate
turn-3 d k t v w = ap (λ (r : Counted). turned (reset_of d) 2 r) (idle-turn _ _)

-- (e), (f)
settled-reset : (d : Device) (v w : ℕ) → settled v w (reset_of d) ≡ reset_of d
unfolding settled pattern_turn matched_by match_of event_at event_by hides_by fate_of after_fate catchers caught_at caught_of caught_bit catches_at catches byte_of port_on reset_of
settled-reset d v w = refl

stepped : (d : Device) → (step_of false d (reset_of d)).device ≡ reset_of d
unfolding step_of
stepped d = simp (turn-1, turn-2, turn-3) (settled-reset d _ _)

moved : (d : Device) → moves_of d (reset_of d) ≡ reset_of d
unfolding moves_of moves_at falls works_at reset_of
moved d = simp (and-false)

direct : (d : Device) → written_of d (kind_of 0x00) 0x01 ≡ reset_of d
unfolding written_of kind_of kind_in master_written
direct d = refl

pub reset-written : (d : Device) → write_effect d 0x00 0x01 ≡ effect (reset_of d) 0
unfolding write_effect
reset-written d = simp (and-false, direct d, moved d, stepped d)
