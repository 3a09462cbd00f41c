-- A step that is no timer clock, and in which nothing moves, leaves the record as (a) left it.
-- Assumes nothing.
use Rattle.std.specs.Prelude.{◌==◌}
use Prim.Native.Nat.{ℕ}
use mathlib.Core.Path.{◌≡◌, refl, sym, ap, ◌∙◌}
use mathlib.Core.Bool.{Bool, true, false, not, ◌&&◌, beq, cond, and-false}
use lib.ListN.{length}
use lib.Seq.{set-get_or}
use borrow.Author.Tests.{eqb-true}
use Rattle.basics.specs.Byte.{bit, rises}
use Rattle.basics.proofs.Tests.{both, triple}
use Rattle.rules.specs.declared.Device.{Device}
use Rattle.rules.specs.declared.Counter.{Counter}
use Rattle.rules.specs.declared.Link.{Link}
use Rattle.rules.specs.declared.Counted.{Counted}
use Rattle.rules.specs.declared.Reach.{Reach}
use Rattle.rules.specs.Record.{pattern_at, counter_at, idle, blank, of_port}
use Rattle.rules.specs.With.{with_pmf, with_pattern, with_patterns, with_counters}
use Rattle.rules.specs.Registers.{port_enabled, lc}
use Rattle.rules.specs.Counters.{output_of, count_input, takes, unlinked, link_of, reach_of, clocks, turn_of}
use Rattle.rules.specs.PortData.{path_at, seen_at}
use Rattle.rules.specs.Patterns.{match_of, event_by, hides_by}
use Rattle.rules.specs.Interrupts.{fate_of, after_fate}
use Rattle.rules.specs.Step.{lines_at, event_at, turned, counter_turn, catchers, matched_by, pattern_turn, settled, step_of}
use Rattle.counters.specs.Rests.{rests_by}
use Rattle.step.specs.Still.{stands_by, stands_at, rests_at, link_after, counters_rest, still}
use Rattle.step.proofs.CaughtUp.{caught-up}

-- ---- tests
no-rise : (b : Bool) → rises b b ≡ false
no-rise true = refl
no-rise false = refl

are-same : (a b : Bool) → beq a b ≡ true → a ≡ b
are-same true true h = refl
are-same true false h = sym h
are-same false true h = h
are-same false false h = refl

is-not : (a : Bool) → not a ≡ true → a ≡ false
is-not true h = sym h
is-not false h = refl

no-count : (only input count rise : Bool) → count ≡ false → rise ≡ false → cond only count (cond input rise false) ≡ false
no-count true i c r g h = g
no-count false true c r g h = h
no-count false false c r g h = refl

-- ---- a counter whose lines are as they were, and to which nothing comes by its link
module _ (k : Link) (t : k.trigger ≡ false) (n : k.count ≡ false) where
  no-trigger : (c : Counter) (l : ℕ) → (reach_of c k false l l).trigger ≡ false
  unfolding reach_of
  no-trigger c l = simp (no-rise, and-false, t)

  none-counted : (c : Counter) (l : ℕ) → (reach_of c k false l l).count ≡ false
  unfolding reach_of
  none-counted c l = no-count k.only (count_input c) k.count _ n (no-rise (bit l 1))

  rests-by-lines : (i : ℕ) (d0 d1 : Device) → lines_at d0 i ≡ lines_at d1 i → rests_at k i d0 d1 ≡ true
  unfolding rests_at rests_by clocks
  rests-by-lines i d0 d1 e = simp (e, no-trigger, none-counted, and-false)

lines-still : (d0 d1 : Device) → path_at d0 1 ≡ path_at d1 1 → path_at d0 2 ≡ path_at d1 2 → (i : ℕ) → lines_at d0 i ≡ lines_at d1 i
unfolding lines_at
lines-still d0 d1 b c i = simp (b, c)

pub rest-by-lines :
    (d0 d1 : Device) → (path_at d0 1 == path_at d1 1 && path_at d0 2 == path_at d1 2 && not (link_after d0 d1).count) ≡ true → counters_rest d0 d1 ≡ true
unfolding counters_rest link_of
rest-by-lines d0 d1 h =
    let same = triple _ _ _ h in
    let lines = lines-still d0 d1 (eqb-true _ _ same.0) (eqb-true _ _ same.1) in
    let none = is-not (link_after d0 d1).count same.2 in
    simp (
      rests-by-lines unlinked refl refl 0 d0 d1 (lines 0),
      rests-by-lines (link_after d0 d1) (simp (none, and-false)) none 1 d0 d1 (lines 1),
      rests-by-lines unlinked refl refl 2 d0 d1 (lines 2),
    )

-- ---- a counter's turn at rest
turn-rests : (v : ℕ) (e : Bool) (h : Reach) (c : Counter) → rests_by e h c ≡ true → turn_of v e h c ≡ record { counter = c; terminal = false }
unfolding rests_by turn_of
turn-rests v e h c r =
    let g = both _ _ r in
    simp (is-not (h.trigger && takes e c) g.0, is-not (clocks e h c) g.1)

turn-still : (k : Link) (i : ℕ) (d0 d1 : Device) → rests_at k i d0 d1 ≡ true → (counter_turn k false (lines_at d0 i) (lines_at d1 i) i d1).device ≡ d1
unfolding rests_at counter_turn turned fate_of after_fate
turn-still k i d0 d1 r =
    ap (λ (r : Counted). (turned d1 i r).device) (turn-rests d1.version _ _ (counter_at d1 i) r)
    ∙ ap (with_counters d1) (set-get_or d1.counters i idle)

-- ---- a pattern whose match stands
no-event : (d : Device) (k : ℕ) (hides : Bool) → event_at d k hides false ≡ d
unfolding event_at fate_of after_fate
no-event d k hides = refl

pattern-still : (p before : ℕ) (d : Device) → stands_at p before d ≡ true → pattern_turn p before d ≡ d
unfolding pattern_turn matched_by stands_at stands_by
pattern-still p before d h =
    let q = pattern_at d p in
    let m = match_of (port_enabled d p) q before (seen_at d p) in
    let g = both (beq m q.pmf) (not (event_by q q.pmf m)) h in
    ap (λ (x : Bool). event_at (with_pattern d p (with_pmf q m)) (of_port p) (hides_by q) x) (is-not (event_by q q.pmf m) g.1)
    ∙ no-event _ (of_port p) (hides_by q)
    ∙ ap (λ (x : Bool). with_pattern d p (with_pmf q x)) (are-same m q.pmf g.0)
    ∙ ap (with_patterns d) (set-get_or d.patterns p blank)

-- ---- the step
module _ (d0 d1 : Device) where
  abbrev turn : Link → ℕ → Device → Device
  turn k i e = (counter_turn k false (lines_at d0 i) (lines_at d1 i) i e).device

  abbrev link_to : Device → Link
  link_to e = link_of (lc d1) (output_of d0.version (counter_at d0 0)) (output_of d1.version (counter_at e 0))

  turns-still : counters_rest d0 d1 ≡ true → turn unlinked 2 (turn (link_to (turn unlinked 0 d1)) 1 (turn unlinked 0 d1)) ≡ d1
  unfolding counters_rest
  turns-still h =
      let rest = triple _ _ _ h in
      ap (λ (e : Device). turn unlinked 2 (turn (link_to e) 1 e)) (turn-still unlinked 0 d0 d1 rest.0)
      ∙ ap (turn unlinked 2) (turn-still (link_to d1) 1 d0 d1 rest.1)
      ∙ turn-still unlinked 2 d0 d1 rest.2

settled-still : (a b : ℕ) (d : Device) → catchers d ≡ d → stands_at 0 a d ≡ true → stands_at 1 b d ≡ true → settled a b d ≡ d
unfolding settled
settled-still a b d c x y =
    ap (λ (e : Device). pattern_turn 1 b (pattern_turn 0 a e)) c
    ∙ ap (pattern_turn 1 b) (pattern-still 0 a d x)
    ∙ pattern-still 1 b d y

pub step-still : (d0 d1 : Device) → length d1.ports ≡ 3 → still d0 d1 ≡ true → (step_of false d0 d1).device ≡ d1
unfolding step_of still
step-still d0 d1 n h =
    let all = triple _ _ _ h in
    let stand = both _ _ all.2 in
    ap (settled (seen_at d0 0) (seen_at d0 1)) (turns-still d0 d1 all.0) ∙ settled-still _ _ d1 (caught-up d1 n all.1) stand.0 stand.1
