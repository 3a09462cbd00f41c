-- Ports, lines and patterns see of the counters their outputs alone: with other counters of the same modes and outputs they do the same.
-- Assumes nothing.
use Prim.Native.Nat.{ℕ}
use mathlib.Core.Path.{◌≡◌, refl, ap, ap₂, ◌∙◌}
use mathlib.Core.Bool.{Bool, ◌||◌, cond}
use mathlib.Core.List.{List}
use lib.Dec.{eqb}
use lib.ListN.{get_or}
use Rattle.rules.specs.declared.Device.{Device}
use Rattle.rules.specs.declared.Counter.{Counter}
use Rattle.rules.specs.Record.{port_at, pattern_at, counter_at, idle, of_port}
use Rattle.rules.specs.With.{with_counters, with_pattern, with_pmf, with_catcher}
use Rattle.rules.specs.Registers.{port_enabled}
use Rattle.rules.specs.Counters.{output_of}
use Rattle.rules.specs.Handshakes.{outputs, is_line, ackin_at, offers_at, shown_at}
use Rattle.rules.specs.PortData.{caught_of, seen_of, pins_of, path_of, direction_at, special_at, effective_at, standing, lined, value_at, pins_at, path_at, seen_at}
use Rattle.rules.specs.Patterns.{match_of}
use Rattle.rules.specs.Step.{lines_at, caught_at, catchers, matched_by, pattern_turn, settled}
use Rattle.theorems.proofs.Fates.{event-apart}
use Rattle.theorems.proofs.Frame.{frame-pattern, event-counters}

-- the same modes and outputs, in that version
pub record Alike (n : ℕ) (l m : List Counter) : Type 0 where
  pub mode : (i : ℕ) → (get_or m i idle).mode ≡ (get_or l i idle).mode
  pub output : (i : ℕ) → output_of n (get_or m i idle) ≡ output_of n (get_or l i idle)

standing-alike : (n : ℕ) (b c : Counter) (k x : ℕ) → b.mode ≡ c.mode → output_of n b ≡ output_of n c → standing n b k x ≡ standing n c k x
unfolding standing
standing-alike n b c k x m o = simp (m, o)

abbrev others : Device → List Counter → Device
others d m = with_counters d m

module _ (d : Device) (m : List Counter) (a : Alike d.version d.counters m) where
  value-alike : (p : ℕ) → value_at (others d m) p ≡ value_at d p
  unfolding value_at lined is_line shown_at offers_at ackin_at
  value-alike p =
      ap₂ (λ (x y : ℕ). cond (eqb p 0 || outputs (pattern_at d p)) (port_at d p).output (cond (eqb p 1) x y))
      (standing-alike d.version (get_or m 0 idle) (counter_at d 0) 4 _ (a.mode 0) (a.output 0)
      ∙ ap (standing d.version (counter_at d 0) 4) (standing-alike d.version (get_or m 1 idle) (counter_at d 1) 0 (port_at d p).output (a.mode 1) (a.output 1)))
      (ap (lined d) (standing-alike d.version (get_or m 2 idle) (counter_at d 2) 0 (port_at d p).output (a.mode 2) (a.output 2)))

  pins-alike : (p : ℕ) → pins_at (others d m) p ≡ pins_at d p
  unfolding pins_at direction_at special_at is_line
  pins-alike p = ap (pins_of (port_enabled d p) (effective_at d p)) (value-alike p)

  path-alike : (p : ℕ) → path_at (others d m) p ≡ path_at d p
  unfolding path_at direction_at special_at is_line
  path-alike p = ap₂ (λ (x y : ℕ). path_of (effective_at d p) x y) (pins-alike p) (value-alike p)

  pub seen_alike : (p : ℕ) → seen_at (others d m) p ≡ seen_at d p
  unfolding seen_at direction_at special_at is_line
  seen_alike p = ap (seen_of (port_enabled d p) (effective_at d p)) (path-alike p)

  pub lines-alike : (i : ℕ) → lines_at (others d m) i ≡ lines_at d i
  unfolding lines_at
  lines-alike i = simp (path-alike 1, path-alike 2)

  caught-alike : (p : ℕ) → caught_at (others d m) p ≡ caught_at d p
  unfolding caught_at direction_at special_at is_line
  caught-alike p = ap (λ (x : ℕ). with_catcher (port_at d p) (caught_of (port_enabled d p) (effective_at d p) x)) (path-alike p)

  catchers-alike : catchers (others d m) ≡ others (catchers d) m
  unfolding catchers
  catchers-alike = simp (caught-alike 0, caught-alike 1, caught-alike 2)

-- a pattern's turn does not look at the counters but for what is seen
matched-others : (p : ℕ) (matches : Bool) (d : Device) (m : List Counter) → matched_by p matches (others d m) ≡ others (matched_by p matches d) m
unfolding matched_by
matched-others p matches d m =
    event-apart (λ (e : Device). others e m) (λ e. refl) (λ e k s. refl) (with_pattern d p (with_pmf (pattern_at d p) matches)) (of_port p) _ _

pattern-alike : (p before : ℕ) (d : Device) (m : List Counter) → Alike d.version d.counters m
    → pattern_turn p before (others d m) ≡ others (pattern_turn p before d) m
unfolding pattern_turn
pattern-alike p before d m a =
    ap (λ (x : ℕ). matched_by p (match_of (port_enabled d p) (pattern_at d p) before x) (others d m)) (seen_alike d m a p)
    ∙ matched-others p _ d m

pub pattern-counters : (p before : ℕ) (d : Device) → (pattern_turn p before d).counters ≡ d.counters
unfolding pattern_turn matched_by
pattern-counters p before d = event-counters _ (of_port p) _ _

pub settled-alike : (a b : ℕ) (d : Device) (m : List Counter) → Alike d.version d.counters m → settled a b (others d m) ≡ others (settled a b d) m
unfolding settled catchers
settled-alike a b d m h =
    ap (λ (e : Device). pattern_turn 1 b (pattern_turn 0 a e)) (catchers-alike d m h)
    ∙ ap (pattern_turn 1 b) (pattern-alike 0 a (catchers d) m h)
    ∙ pattern-alike 1 b (pattern_turn 0 a (catchers d)) m (rw ((frame-pattern 0 a (catchers d)).version, pattern-counters 0 a (catchers d)) h)
