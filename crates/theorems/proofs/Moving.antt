-- Paper 02, W-210: a timer clock, part by part. Where the catchers have caught, it moves each counter with its source and each port's PMF
-- with its source, as `moved_by` tells, and nothing else; so T n is that, as often as it has timer clocks.
-- Assumes nothing.
use Prim.Native.Nat.{ℕ, zero, suc, ◌<◌}
use mathlib.Core.Path.{◌≡◌, refl, sym, ap, ◌∙◌}
use mathlib.Core.Bool.{Bool, true, false, not-and_self}
use mathlib.Core.List.{List, [], ◌∷◌}
use lib.Dec.{lit<}
use lib.ListN.{get_or, set}
use Rattle.rules.specs.declared.Device.{Device}
use Rattle.rules.specs.declared.Pattern.{Pattern}
use Rattle.rules.specs.declared.Counter.{Counter}
use Rattle.rules.specs.declared.Counted.{Counted}
use Rattle.rules.specs.declared.Fate.{Fate}
use Rattle.rules.specs.declared.Fate.TheVariants.{Nothing, Taken, Kept, Lost}
use Rattle.rules.specs.declared.Link.{Link}
use Rattle.rules.specs.declared.Reach.{Reach}
use Rattle.rules.specs.declared.Turned.{Turned}
use Rattle.rules.specs.declared.Stepped.{Stepped}
use Rattle.rules.specs.declared.Ran.{Ran}
use Rattle.basics.specs.Byte.{bit}
use Rattle.basics.specs.Iterate.{iterate}
use Rattle.rules.specs.Record.{Shaped, pattern_at, counter_at, source_at, quiet, idle, blank}
use Rattle.rules.specs.With.{with_patterns, with_counters, with_sources, with_phase}
use Rattle.rules.specs.Report.{no_report, sums, nums, reports_added}
use Rattle.rules.specs.Registers.{counter_enabled, lc, reset}
use Rattle.rules.specs.Handshakes.{is_line, ackin_at, offers_at, shown_at}
use Rattle.rules.specs.Counters.{output_of, unlinked, link_of, reach_of, turn_of}
use Rattle.rules.specs.PortData.{direction_at, special_at, lined, value_at, pins_at, path_at, seen_at}
use Rattle.rules.specs.Patterns.{on_at, hit_at, and_match, or_match, match_of, event_by, hides_by}
use Rattle.rules.specs.Interrupts.{fate_of, after_fate, came, was_lost}
use Rattle.rules.specs.Step.{lines_at, event_at, turned, counter_turn, matched_by, pattern_turn, settled, step_of, reported, ran_of}
use Rattle.basics.proofs.Lists.{two, three, five}
use Rattle.theorems.specs.declared.Part.{Part}
use Rattle.theorems.specs.declared.Side.{Side}
use Rattle.theorems.specs.Free.{timer_clocks}
use Rattle.theorems.specs.Alone.{left_by, struck_by}
use Rattle.theorems.specs.Moving.{Caught, Moving, part_at, side_at, moving_of, with_moving, turn_in, part_by, link_by, side_by, seen_with, moved_by, phase_after, run_with}
use Rattle.theorems.proofs.Frame.{Frame}
use Rattle.theorems.proofs.Lines.{gate-kept}
use Rattle.theorems.proofs.Caught.{caught-kept, caught-phase}
use Rattle.theorems.proofs.Shapes.{phase-shaped}
use Rattle.theorems.proofs.Ticking.{timed, phased, ran-timed}

-- ---- an event leaves at its place what its fate leaves, whichever it is
set-as-it-was : {A : Type 0} (x : A) (l : List A) (k : ℕ) → set l k (get_or l k x) ≡ l
set-as-it-was x [] k = refl
set-as-it-was x (y ∷ l) zero = refl
set-as-it-was x (y ∷ l) (suc k) = ap (λ (m : List _). y ∷ m) (set-as-it-was x l k)

fate-at : (d : Device) (k : ℕ) (f : Fate) → after_fate d k f ≡ with_sources d (set d.sources k (left_by f (source_at d k)))
unfolding after_fate left_by
fate-at d k Nothing = ap (with_sources d) (sym (set-as-it-was quiet d.sources k))
fate-at d k Taken = refl
fate-at d k Kept = refl
fate-at d k Lost = ap (with_sources d) (sym (set-as-it-was quiet d.sources k))

-- ---- a turn goes by the gate line alone, where no line moves
reach-gate : (c : Counter) (k : Link) (v w : ℕ) → bit v 3 ≡ bit w 3 → reach_of c k true v v ≡ reach_of c k true w w
unfolding reach_of
reach-gate c k v w h = simp (not-and_self, h)

-- ---- the parts, one of them anew
abbrev with_one : Moving → Part → Moving
with_one m x = record { one = x; two = m.two; three = m.three; a = m.a; b = m.b }

abbrev with_two : Moving → Part → Moving
with_two m x = record { one = m.one; two = x; three = m.three; a = m.a; b = m.b }

abbrev with_three : Moving → Part → Moving
with_three m x = record { one = m.one; two = m.two; three = x; a = m.a; b = m.b }

abbrev with_a : Moving → Side → Moving
with_a m x = record { one = m.one; two = m.two; three = m.three; a = x; b = m.b }

abbrev with_b : Moving → Side → Moving
with_b m x = record { one = m.one; two = m.two; three = m.three; a = m.a; b = x }

module _ (d : Device) where
  -- the record with these parts
  abbrev with : Moving → Device
  with m = (with_moving d m).device

  seen-a : (m : Moving) → seen_at (with m) 0 ≡ seen_at d 0
  unfolding with_moving seen_at path_at pins_at value_at direction_at special_at
  seen-a m = refl

  seen_b : (m : Moving) → seen_at (with m) 1 ≡ seen_with d m.one.counter m.two.counter
  unfolding with_moving seen_with seen_at path_at pins_at value_at direction_at special_at
  seen_b m = refl

  -- what a counter's turn leaves, and a pattern's
  abbrev left : Moving → Counted → Part → Turned
  left m r x = record { device = with m; fate = fate_of true r.terminal x.source }

  turned-one : (m : Moving) (r : Counted) → turned (with m) 0 r ≡ left (with_one m (part_by r m.one)) r m.one
  unfolding turned with_moving part_by
  turned-one m r = ap (λ (e : Device). record { device = e; fate = fate_of true r.terminal m.one.source }) (fate-at _ 4 _)

  turned_two : (m : Moving) (r : Counted) → turned (with m) 1 r ≡ left (with_two m (part_by r m.two)) r m.two
  unfolding turned with_moving part_by
  turned_two m r = ap (λ (e : Device). record { device = e; fate = fate_of true r.terminal m.two.source }) (fate-at _ 2 _)

  turned-three : (m : Moving) (r : Counted) → turned (with m) 2 r ≡ left (with_three m (part_by r m.three)) r m.three
  unfolding turned with_moving part_by
  turned-three m r = ap (λ (e : Device). record { device = e; fate = fate_of true r.terminal m.three.source }) (fate-at _ 0 _)

  side-a : (m : Moving) (before : ℕ) → pattern_turn 0 before (with m) ≡ with (with_a m (side_by d 0 before (seen_at d 0) m.a))
  unfolding pattern_turn matched_by event_at with_moving side_by struck_by event_by hides_by match_of and_match or_match on_at hit_at seen_at path_at pins_at value_at direction_at special_at
  side-a m before = fate-at _ 1 _

  side-b : (m : Moving) (before : ℕ)
      → pattern_turn 1 before (with m) ≡ with (with_b m (side_by d 1 before (seen_with d m.one.counter m.two.counter) m.b))
  unfolding pattern_turn matched_by event_at with_moving side_by struck_by event_by hides_by match_of and_match or_match on_at hit_at seen_with seen_at path_at pins_at value_at direction_at special_at
  side-b m before = fate-at _ 3 _

-- ---- one timer clock
module _ (d : Device) (shape : Shaped d) where
  modes-kept : (m : Moving) (p : ℕ) → (pattern_at (with d m) p).mode ≡ (pattern_at d p).mode
  unfolding with_moving
  modes-kept m zero = refl
  modes-kept m (suc zero) = refl
  modes-kept m (suc (suc p)) = ap (λ (l : List Pattern). (get_or l (suc (suc p)) blank).mode) (sym (two blank d.patterns shape.patterns))

  handshakes-kept : (m : Moving) (p : ℕ) → (pattern_at (with d m) p).handshake ≡ (pattern_at d p).handshake
  unfolding with_moving
  handshakes-kept m zero = refl
  handshakes-kept m (suc zero) = refl
  handshakes-kept m (suc (suc p)) = ap (λ (l : List Pattern). (get_or l (suc (suc p)) blank).handshake) (sym (two blank d.patterns shape.patterns))

  frame-with : (m : Moving) → Frame d (with d m)
  unfolding with_moving
  frame-with m =
      record {
        version = refl;
        master = refl;
        config = refl;
        phase = refl;
        ports = λ p _. refl;
        modes = modes-kept m;
        handshakes = handshakes-kept m;
        transfers = refl;
      }

  -- the turn of counter i, with the lines of the record m
  turn_in_lem : (m : Moving) (i : ℕ) → i < 3 → (k : Link) (c : Counter)
      → turn_of d.version (counter_enabled d i) (reach_of c k true (lines_at (with d m) i) (lines_at (with d m) i)) c ≡ turn_in d i k c
  unfolding turn_in
  turn_in_lem m i h k c =
      ap (λ (r : Reach). turn_of d.version (counter_enabled d i) r c)
      (reach-gate c k (lines_at (with d m) i) (lines_at d i) (gate-kept d (with d m) (frame-with m) i h))

  module _ (caught : Caught d) (m : Moving) where
    abbrev r : Counted
    r = turn_in d 0 unlinked m.one.counter

    abbrev s : Counted
    s = turn_in d 1 (link_by d m.one.counter r.counter) m.two.counter

    abbrev t : Counted
    t = turn_in d 2 unlinked m.three.counter

    abbrev m1 : Moving
    m1 = with_one m (part_by r m.one)

    abbrev m2 : Moving
    m2 = with_two m1 (part_by s m.two)

    abbrev m3 : Moving
    m3 = with_three m2 (part_by t m.three)

    abbrev second : Turned → Turned
    second b =
        counter_turn (link_of (lc d) (output_of d.version m.one.counter) (output_of d.version (counter_at b.device 0))) true (lines_at (with d m) 1) (lines_at (with d m) 1) 1
        b.device

    abbrev third : Turned → Turned
    third c = counter_turn unlinked true (lines_at (with d m) 2) (lines_at (with d m) 2) 2 c.device

    turn_one : counter_turn unlinked true (lines_at (with d m) 0) (lines_at (with d m) 0) 0 (with d m) ≡ left d m1 r m.one
    unfolding counter_turn with_moving
    turn_one = ap (turned (with d m) 0) (turn_in_lem m 0 (lit< tt) unlinked m.one.counter) ∙ turned-one d m r

    turn_two : second (left d m1 r m.one) ≡ left d m2 s m.two
    unfolding counter_turn with_moving link_by part_by
    turn_two = ap (turned (with d m1) 1) (turn_in_lem m 1 (lit< tt) (link_by d m.one.counter r.counter) m.two.counter) ∙ turned_two d m1 s

    turn_three : third (left d m2 s m.two) ≡ left d m3 t m.three
    unfolding counter_turn with_moving
    turn_three = ap (turned (with d m2) 2) (turn_in_lem m 2 (lit< tt) unlinked m.three.counter) ∙ turned-three d m2 t

    caught-with : Caught (with d m3)
    unfolding with_moving
    caught-with = caught-kept d (with d m3) refl (modes-kept m3) refl caught

    settles : settled (seen_at (with d m) 0) (seen_at (with d m) 1) (with d m3) ≡ with d (moved_by d m)
    unfolding settled moved_by part_by
    settles =
        ap (λ (e : Device). pattern_turn 1 (seen_at (with d m) 1) (pattern_turn 0 (seen_at (with d m) 0) e)) caught-with
        ∙ ap (λ (x : ℕ). pattern_turn 1 (seen_at (with d m) 1) (pattern_turn 0 x (with d m3))) (seen-a d m)
        ∙ ap (pattern_turn 1 (seen_at (with d m) 1)) (side-a d m3 (seen_at d 0))
        ∙ ap (λ (x : ℕ). pattern_turn 1 x (with d (with_a m3 (side_by d 0 (seen_at d 0) (seen_at d 0) m.a)))) (seen_b d m)
        ∙ side-b d (with_a m3 (side_by d 0 (seen_at d 0) (seen_at d 0) m.a)) (seen_with d m.one.counter m.two.counter)

    abbrev stepped : Turned → Turned → Turned → Device → Stepped
    stepped b c d e =
        record {
          device = e;
          terminals = came b.fate ∷ came c.fate ∷ came d.fate ∷ [];
          lost = was_lost b.fate ∷ was_lost c.fate ∷ was_lost d.fate ∷ [];
        }

    abbrev settle : Turned → Device
    settle c = settled (seen_at (with d m) 0) (seen_at (with d m) 1) c.device

    step-with : step_of true (with d m) (with d m) ≡ stepped (left d m1 r m.one) (left d m2 s m.two) (left d m3 t m.three) (with d (moved_by d m))
    unfolding step_of with_moving
    step-with =
        ap (λ (b : Turned). stepped b (second b) (third (second b)) (settle (third (second b)))) turn_one
        ∙ ap (λ (c : Turned). stepped (left d m1 r m.one) c (third c) (settle (third c))) turn_two
        ∙ ap (λ (c : Turned). stepped (left d m1 r m.one) (left d m2 s m.two) c (settle c)) turn_three
        ∙ ap (stepped (left d m1 r m.one) (left d m2 s m.two) (left d m3 t m.three)) settles

    pub timed-with : timed (with_moving d m) ≡ with_moving d (moved_by d m)
    unfolding reported reports_added sums nums with_moving moved_by part_by
    timed-with = ap (reported (with_moving d m).report) step-with

  -- and k of them
  times-with : Caught d → (k : ℕ) (m : Moving) → iterate k timed (with_moving d m) ≡ with_moving d (iterate k (moved_by d) m)
  unfolding iterate
  times-with caught zero m = refl
  times-with caught (suc k) m = ap timed (times-with caught k m) ∙ timed-with caught (iterate k (moved_by d) m)

-- ---- T n
-- a record has its own parts
moving-whole : (d : Device) → Shaped d → with_moving d (moving_of d) ≡ record { device = d; report = no_report }
unfolding with_moving moving_of part_at side_at
moving-whole d shape =
    sym
    (λ i.
    record {
      device =
          with_sources
          (with_counters (with_patterns d (two blank d.patterns shape.patterns i)) (three idle d.counters shape.counters i))
          (five quiet d.sources shape.sources i);
      report = no_report;
    })

-- the phase is in nothing that moves them
phase-moved : (d : Device) (v : Bool) (m : Moving) → moved_by (with_phase d v) m ≡ moved_by d m
unfolding moved_by turn_in link_by side_by seen_with seen_at lines_at path_at pins_at value_at direction_at special_at lined is_line shown_at offers_at ackin_at
phase-moved d v m = refl

phase-moves : (d : Device) (v : Bool) (k : ℕ) (m : Moving) → iterate k (moved_by (with_phase d v)) m ≡ iterate k (moved_by d) m
unfolding iterate
phase-moves d v zero m = refl
phase-moves d v (suc k) m = ap (moved_by (with_phase d v)) (phase-moves d v k m) ∙ phase-moved d v (iterate k (moved_by d) m)

phase-with : (d : Device) (v w : Bool) (m : Moving) → phased w (with_moving (with_phase d v) m) ≡ phased w (with_moving d m)
unfolding with_moving
phase-with d v w m = refl

moving-phase : (d : Device) (v : Bool) → moving_of (with_phase d v) ≡ moving_of d
unfolding moving_of part_at side_at
moving-phase d v = refl

pub ran-moving : (d : Device) (n : ℕ) → Shaped d → Caught d → reset d ≡ false
    → ran_of n d ≡ run_with d n (iterate (timer_clocks d n) (moved_by d) (moving_of d))
unfolding run_with
ran-moving d n shape caught r =
    let low = with_phase d false in
    let k = timer_clocks d n in
    let lowShape = phase-shaped d false shape in
    let v = phase_after d n in
    ran-timed d n r
    ∙ ap (λ (s : Ran). phased v (iterate k timed s)) (sym (moving-whole low lowShape))
    ∙ ap (phased v) (times-with low lowShape (caught-phase d false caught) k (moving_of low))
    ∙ ap (λ (m : Moving). phased v (with_moving low m)) (phase-moves d false k (moving_of low) ∙ ap (iterate k (moved_by d)) (moving-phase d false))
    ∙ phase-with d false v (iterate k (moved_by d) (moving_of d))
