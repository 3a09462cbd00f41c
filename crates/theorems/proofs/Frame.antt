-- What a step leaves as it is after (a): all but the counters, the catchers, the patterns' PMF and the sources.
-- Assumes nothing.
use Prim.Native.Nat.{ℕ, ◌<◌}
use mathlib.Core.Path.{◌≡◌, refl, ap, ◌∙◌}
use mathlib.Core.Bool.{Bool, true}
use mathlib.Core.List.{List}
use lib.ListN.{get_or, set}
use Rattle.rules.specs.declared.Device.{Device}
use Rattle.rules.specs.declared.Port.{Port}
use Rattle.rules.specs.declared.Pattern.{Pattern}
use Rattle.rules.specs.declared.Counted.{Counted}
use Rattle.rules.specs.declared.Link.{Link}
use Rattle.rules.specs.Record.{port_at, pattern_at, counter_at, bare, blank, of_port, of_counter}
use Rattle.rules.specs.With.{with_counter, with_pattern, with_source, with_pmf, with_catcher}
use Rattle.rules.specs.Registers.{counter_enabled}
use Rattle.rules.specs.Counters.{reach_of, turn_of}
use Rattle.rules.specs.Step.{event_at, turned, counter_turn, caught_at, catchers, matched_by, pattern_turn, settled, step_of}
use Rattle.basics.proofs.Places.{each3, set_keeps}
use Rattle.theorems.proofs.Fates.{by-source}

-- e is d but for its counters, catchers, patterns' PMF and sources: of the ports all but the catchers; and of A and B, which may have a
-- handshake, its settings and what they hold
pub record Frame (d e : Device) : Type 0 where
  pub version : e.version ≡ d.version
  pub master : e.master ≡ d.master
  pub config : e.config ≡ d.config
  pub phase : e.phase ≡ d.phase
  pub ports : (p : ℕ) → p < 3 → with_catcher (port_at e p) 0 ≡ with_catcher (port_at d p) 0
  pub modes : (p : ℕ) → (pattern_at e p).mode ≡ (pattern_at d p).mode
  pub handshakes : (p : ℕ) → (pattern_at e p).handshake ≡ (pattern_at d p).handshake
  pub transfers : e.transfers ≡ d.transfers

-- what leaves all of these as they are
unchanged : (d e : Device) → e.version ≡ d.version → e.master ≡ d.master → e.config ≡ d.config → e.phase ≡ d.phase → e.ports ≡ d.ports
    → e.patterns ≡ d.patterns → e.transfers ≡ d.transfers → Frame d e
unchanged d e n m c h q p t =
    record {
      version = n;
      master = m;
      config = c;
      phase = h;
      ports = λ j _. ap (λ (l : List Port). with_catcher (get_or l j (bare 0)) 0) q;
      modes = λ j. ap (λ (l : List Pattern). (get_or l j blank).mode) p;
      handshakes = λ j. ap (λ (l : List Pattern). (get_or l j blank).handshake) p;
      transfers = t;
    }

pub frame-refl : (d : Device) → Frame d d
frame-refl d = unchanged d d refl refl refl refl refl refl refl

pub frame-trans : {d e f : Device} → Frame d e → Frame e f → Frame d f
frame-trans p q =
    record {
      version = q.version ∙ p.version;
      master = q.master ∙ p.master;
      config = q.config ∙ p.config;
      phase = q.phase ∙ p.phase;
      ports = λ j l. q.ports j l ∙ p.ports j l;
      modes = λ j. q.modes j ∙ p.modes j;
      handshakes = λ j. q.handshakes j ∙ p.handshakes j;
      transfers = q.transfers ∙ p.transfers;
    }

pub frame-event : (d : Device) (k : ℕ) (hides happens : Bool) → Frame d (event_at d k hides happens)
frame-event d k hides happens =
    by-source (Frame d) d k hides happens (frame-refl d) (λ s. unchanged d (with_source d k s) refl refl refl refl refl refl refl)

pub frame-turned : (d : Device) (i : ℕ) (r : Counted) → Frame d (turned d i r).device
unfolding turned event_at
frame-turned d i r =
    frame-trans (unchanged d (with_counter d i r.counter) refl refl refl refl refl refl refl)
    (frame-event (with_counter d i r.counter) (of_counter i) true r.terminal)

pub frame-turn : (k : Link) (timer : Bool) (were are i : ℕ) (d : Device) → Frame d (counter_turn k timer were are i d).device
unfolding counter_turn
frame-turn k timer were are i d = frame-turned d i _

pub frame-catchers : (d : Device) → Frame d (catchers d)
unfolding catchers caught_at
frame-catchers d =
    record {
      version = refl;
      master = refl;
      config = refl;
      phase = refl;
      ports = each3 (λ p. with_catcher (port_at (catchers d) p) 0 ≡ with_catcher (port_at d p) 0) refl refl refl;
      modes = λ p. refl;
      handshakes = λ p. refl;
      transfers = refl;
    }

-- PMF is no part of the settings
pub pmf-modes : (d : Device) (p : ℕ) (matches : Bool) (j : ℕ) → (pattern_at (with_pattern d p (with_pmf (pattern_at d p) matches)) j).mode ≡ (pattern_at d j).mode
pmf-modes d p matches j =
    set_keeps (λ i q. q.mode ≡ (pattern_at d i).mode) d.patterns p j (with_pmf (pattern_at d p) matches) blank (λ _. refl) refl

pmf-handshakes : (d : Device) (p : ℕ) (matches : Bool) (j : ℕ)
    → (pattern_at (with_pattern d p (with_pmf (pattern_at d p) matches)) j).handshake ≡ (pattern_at d j).handshake
pmf-handshakes d p matches j =
    set_keeps (λ i q. q.handshake ≡ (pattern_at d i).handshake) d.patterns p j (with_pmf (pattern_at d p) matches) blank (λ _. refl) refl

frame-matched : (p : ℕ) (matches : Bool) (d : Device) → Frame d (matched_by p matches d)
unfolding matched_by
frame-matched p matches d =
    let w : Frame d (with_pattern d p (with_pmf (pattern_at d p) matches)) =
    record {
      version = refl;
      master = refl;
      config = refl;
      phase = refl;
      ports = λ j _. refl;
      modes = pmf-modes d p matches;
      handshakes = pmf-handshakes d p matches;
      transfers = refl;
    } in
    frame-trans w (frame-event (with_pattern d p (with_pmf (pattern_at d p) matches)) (of_port p) _ _)

pub frame-pattern : (p before : ℕ) (d : Device) → Frame d (pattern_turn p before d)
unfolding pattern_turn
frame-pattern p before d = frame-matched p _ d

frame-settled : (a b : ℕ) (d : Device) → Frame d (settled a b d)
unfolding settled
frame-settled a b d =
    frame-trans (frame-trans (frame-catchers d) (frame-pattern 0 a (catchers d))) (frame-pattern 1 b (pattern_turn 0 a (catchers d)))

pub frame_step : (timer : Bool) (d0 d1 : Device) → Frame d1 (step_of timer d0 d1).device
unfolding step_of
frame_step timer d0 d1 =
    frame-trans (frame-trans (frame-trans (frame-turn _ _ _ _ _ d1) (frame-turn _ _ _ _ _ _)) (frame-turn _ _ _ _ _ _)) (frame-settled _ _ _)

-- ---- the counters go by their turns alone
pub event-counters : (d : Device) (k : ℕ) (hides happens : Bool) → (event_at d k hides happens).counters ≡ d.counters
event-counters d k hides happens = by-source (λ e. e.counters ≡ d.counters) d k hides happens refl (λ s. refl)

-- the turn of counter i, in a device with these counters
abbrev pub turn_at : Link → Bool → ℕ → ℕ → ℕ → Device → Counted
turn_at link timer were are i d = turn_of d.version (counter_enabled d i) (reach_of (counter_at d i) link timer were are) (counter_at d i)

pub turn-counters : (k : Link) (timer : Bool) (were are i : ℕ) (d : Device)
    → (counter_turn k timer were are i d).device.counters ≡ set d.counters i (turn_at k timer were are i d).counter
unfolding counter_turn turned event_at
turn-counters k timer were are i d = event-counters (with_counter d i _) (of_counter i) true _

pub settled-counters : (a b : ℕ) (d : Device) → (settled a b d).counters ≡ d.counters
unfolding settled pattern_turn matched_by catchers
settled-counters a b d = event-counters _ (of_port 1) _ _ ∙ event-counters _ (of_port 0) _ _
