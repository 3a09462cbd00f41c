-- What a step leaves of port A or B, in every mode: "PMF is the last step's match" of what was seen before with what is seen after it, and the
-- source is left by the event, or by none.
-- Assumes nothing.
use Prim.Native.Nat.{ℕ, ◌<◌}
use mathlib.Core.Path.{◌≡◌, refl, sym, ap, ◌∙◌}
use mathlib.Core.Bool.{Bool, true}
use mathlib.Core.List.{List}
use native.Mathlib.Omega.{arith}
use lib.ListN.{get_or, length}
use lib.Seq.{get_or-set_same, get_or-set_other}
use Rattle.rules.specs.declared.Device.{Device}
use Rattle.rules.specs.declared.Port.{Port}
use Rattle.rules.specs.declared.Pattern.{Pattern}
use Rattle.rules.specs.declared.Source.{Source}
use Rattle.rules.specs.declared.Link.{Link}
use Rattle.rules.specs.Record.{Shaped, port_at, pattern_at, source_at, bare, blank, of_port, of_counter}
use Rattle.rules.specs.With.{with_direction, with_special, with_pattern, with_counter, with_pmf}
use Rattle.rules.specs.Registers.{port_on, port_enabled}
use Rattle.rules.specs.Handshakes.{ackin_at}
use Rattle.rules.specs.PortData.{pins_of, path_of, seen_of, effective_at, lined, value_at, pins_at, path_at, seen_at}
use Rattle.rules.specs.Patterns.{match_of, event_by, hides_by}
use Rattle.rules.specs.Step.{lines_at, event_at, turned, counter_turn, catchers, matched_by, pattern_turn, settled, step_of}
use Rattle.basics.proofs.Places.{each2}
use Rattle.theorems.specs.Alone.{struck_by}
use Rattle.theorems.specs.Moving.{side_at, side_by}
use Rattle.theorems.proofs.Effective.{line_kept, direction-kept, special-kept, shown-kept}
use Rattle.theorems.proofs.Fates.{by-source, event-here, event-there}
use Rattle.theorems.proofs.Frame.{Frame, frame-turn, frame-pattern}
use Rattle.theorems.proofs.Caught.{pattern-ports}
use Rattle.theorems.proofs.Alike.{pattern-counters}
use Rattle.theorems.proofs.Losses.{turn-there}
use Rattle.theorems.proofs.Shapes.{counter-turn-shaped, catchers-shaped, pattern-turn-shaped}

-- ---- what a port shows and sees goes by the frame, the ports and the counters
module _ (d e : Device) (f : Frame d e) (ports : e.ports ≡ d.ports) (counters : e.counters ≡ d.counters) where
  port-kept : (p : ℕ) → port_at e p ≡ port_at d p
  port-kept p = ap (λ (l : List Port). get_or l p (bare 0)) ports

  lined-kept : (x : ℕ) → lined e x ≡ lined d x
  unfolding lined ackin_at
  lined-kept x = simp (line_kept d e f.modes, shown-kept d e f.modes f.config f.transfers f.handshakes (λ p. simp ports))

  value-kept : (p : ℕ) → value_at e p ≡ value_at d p
  unfolding value_at
  value-kept p = simp (f.modes p, f.version, ports, counters, lined-kept)

  effective-kept : (p : ℕ) → effective_at e p ≡ effective_at d p
  effective-kept p =
      let h = port-kept p in
      let t = direction-kept d e f.modes p (ap (λ (q : Port). q.direction) h) in
      let u = special-kept d e f.modes p (ap (λ (q : Port). q.special) h) in
      λ i. with_special (with_direction (h i) (t i)) (u i)

  path-kept : (p : ℕ) → path_at e p ≡ path_at d p
  unfolding path_at pins_at
  path-kept p =
      let q = effective-kept p in
      let v = value-kept p in
      λ i. path_of (q i) (pins_of (port_on (f.config i) p) (q i) (v i)) (v i)

  pub seen-kept : (p : ℕ) → seen_at e p ≡ seen_at d p
  unfolding seen_at
  seen-kept p = λ i. seen_of (port_on (f.config i) p) (effective-kept p i) (path-kept p i)

  pub lines-kept : (i : ℕ) → lines_at e i ≡ lines_at d i
  unfolding lines_at
  lines-kept i = simp (path-kept 1, path-kept 2)

-- ---- the turns: a pattern's turn at its own port, and at the other; a counter's
event-patterns : (d : Device) (k : ℕ) (hides happens : Bool) → (event_at d k hides happens).patterns ≡ d.patterns
event-patterns d k hides happens = by-source (λ e. e.patterns ≡ d.patterns) d k hides happens refl (λ s. refl)

-- whether port p's pattern matches, and what its source is left by then
abbrev match_at : ℕ → ℕ → Device → ℕ → Bool
match_at p before d after = match_of (port_enabled d p) (pattern_at d p) before after

abbrev struck_at : ℕ → Device → Bool → Source
struck_at p d m = struck_by (hides_by (pattern_at d p)) (event_by (pattern_at d p) (pattern_at d p).pmf m) (source_at d (of_port p))

module _ (p before : ℕ) (d : Device) where
  pattern-here : p < length d.patterns → pattern_at (pattern_turn p before d) p ≡ with_pmf (pattern_at d p) (match_at p before d (seen_at d p))
  unfolding pattern_turn matched_by
  pattern-here h = ap (λ (l : List Pattern). get_or l p blank) (event-patterns _ (of_port p) _ _) ∙ get_or-set_same d.patterns p _ blank h

  pattern-there : (j : ℕ) → (j ≡ p → ⊥) → pattern_at (pattern_turn p before d) j ≡ pattern_at d j
  unfolding pattern_turn matched_by
  pattern-there j h = ap (λ (l : List Pattern). get_or l j blank) (event-patterns _ (of_port p) _ _) ∙ get_or-set_other d.patterns p j _ blank h

  source-here : of_port p < length d.sources → source_at (pattern_turn p before d) (of_port p) ≡ struck_at p d (match_at p before d (seen_at d p))
  unfolding pattern_turn matched_by struck_by
  source-here h = event-here (with_pattern d p _) (of_port p) _ _ h

  source-there : (j : ℕ) → (j ≡ of_port p → ⊥) → source_at (pattern_turn p before d) j ≡ source_at d j
  unfolding pattern_turn matched_by
  source-there j h = event-there (with_pattern d p _) (of_port p) j _ _ h

  seen-there : (j : ℕ) → seen_at (pattern_turn p before d) j ≡ seen_at d j
  seen-there = seen-kept d (pattern_turn p before d) (frame-pattern p before d) (pattern-ports p before d) (pattern-counters p before d)

turn-patterns : (k : Link) (timer : Bool) (were are i : ℕ) (d : Device) → (counter_turn k timer were are i d).device.patterns ≡ d.patterns
unfolding counter_turn turned event_at
turn-patterns k timer were are i d = event-patterns (with_counter d i _) (of_counter i) true _

-- ---- what a step leaves of port p's pattern and source
-- d has them as d1 has, and its configuration
record Same (p : ℕ) (d1 d : Device) : Type 0 where
  config : d.config ≡ d1.config
  pattern : pattern_at d p ≡ pattern_at d1 p
  source : source_at d (of_port p) ≡ source_at d1 (of_port p)

same-on : {p : ℕ} {d1 d e : Device} → Same p d1 d → Same p d e → Same p d1 e
same-on h g = record { config = g.config ∙ h.config; pattern = g.pattern ∙ h.pattern; source = g.source ∙ h.source }

-- e has them as the pattern's turn leaves them, which saw before, and sees what e shows
pub record Sided (p before : ℕ) (d e : Device) : Type 0 where
  pub pattern : pattern_at e p ≡ with_pmf (pattern_at d p) (match_at p before d (seen_at e p))
  pub source : source_at e (of_port p) ≡ struck_at p d (match_at p before d (seen_at e p))

module _ (p before : ℕ) (d : Device) (l : p < length d.patterns) (k : of_port p < length d.sources) where
  sided-turn : (e : Device) → Same p (pattern_turn p before d) e → seen_at e p ≡ seen_at d p → Sided p before d e
  sided-turn e h s =
      record {
        pattern = h.pattern ∙ pattern-here p before d l ∙ ap (λ (x : ℕ). with_pmf (pattern_at d p) (match_at p before d x)) (sym s);
        source = h.source ∙ source-here p before d k ∙ ap (λ (x : ℕ). struck_at p d (match_at p before d x)) (sym s);
      }

sided-from : {p before : ℕ} {d1 d e : Device} → Same p d1 d → Sided p before d e → Sided p before d1 e
sided-from {p} {before} {d1} {d} {e} h g =
    let n = h.config in
    let q = h.pattern in
    record {
      pattern = g.pattern ∙ (λ i. with_pmf (q i) (match_of (port_on (n i) p) (q i) before (seen_at e p)));
      source = g.source ∙ (λ i. struck_by (hides_by (q i)) (event_by (q i) (q i).pmf (match_of (port_on (n i) p) (q i) before (seen_at e p))) (h.source i));
    }

-- a counter's turn, and the catchers, leave them
same_turn : (k : Link) (timer : Bool) (were are i p : ℕ) (d : Device) → Same p d (counter_turn k timer were are i d).device
same_turn k timer were are i p d =
    record {
      config = (frame-turn k timer were are i d).config;
      pattern = ap (λ (l : List Pattern). get_or l p blank) (turn-patterns k timer were are i d);
      source = turn-there k timer were are i d (of_port p) (λ e. omega (arith, e));
    }

same-catchers : (p : ℕ) (d : Device) → Same p d (catchers d)
unfolding catchers
same-catchers p d = record { config = refl; pattern = refl; source = refl }

-- a pattern's turn leaves the other port's
same-other : (p before j : ℕ) (d : Device) → (j ≡ p → ⊥) → Same j d (pattern_turn p before d)
same-other p before j d h =
    record {
      config = (frame-pattern p before d).config;
      pattern = pattern-there p before d j h;
      source = source-there p before d (of_port j) (λ e. h (omega (arith, e)));
    }

settled-sided : (f : ℕ → ℕ) (d : Device) → Shaped d → (p : ℕ) → p < 2 → Sided p (f p) d (settled (f 0) (f 1) d)
unfolding settled
settled-sided f d s =
    let c = catchers d in
    let t = catchers-shaped d s in
    let e = pattern_turn 0 (f 0) c in
    let u = pattern-turn-shaped 0 (f 0) c t in
    each2 (λ p. Sided p (f p) d (settled (f 0) (f 1) d))
    (sided-from (same-catchers 0 d)
    (sided-turn 0 (f 0) c (omega (arith, t.patterns)) (omega (arith, t.sources)) (pattern_turn 1 (f 1) e) (same-other 1 (f 1) 0 e (λ x. omega (arith, x)))
    (seen-there 1 (f 1) e 0 ∙ seen-there 0 (f 0) c 0)))
    (sided-from (same-on (same-catchers 1 d) (same-other 0 (f 0) 1 c (λ x. omega (arith, x))))
    (sided-turn 1 (f 1) e (omega (arith, u.patterns)) (omega (arith, u.sources)) (pattern_turn 1 (f 1) e) (record { config = refl; pattern = refl; source = refl })
    (seen-there 1 (f 1) e 1)))

pub step-sided : (timer : Bool) (d0 d1 : Device) → Shaped d1 → (p : ℕ) → p < 2 → Sided p (seen_at d0 p) d1 (step_of timer d0 d1).device
unfolding step_of
step-sided timer d0 d1 s p l =
    sided-from (same-on (same-on (same_turn _ timer _ _ 0 p d1) (same_turn _ timer _ _ 1 p _)) (same_turn _ timer _ _ 2 p _))
    (settled-sided (seen_at d0) _
    (counter-turn-shaped _ timer _ _ 2 _ (counter-turn-shaped _ timer _ _ 1 _ (counter-turn-shaped _ timer _ _ 0 d1 s))) p l)

-- (f), as `side_by` tells it
pub step-side : (timer : Bool) (d0 d1 : Device) → Shaped d1 → (p : ℕ) → p < 2
    → side_at (step_of timer d0 d1).device p ≡ side_by d1 p (seen_at d0 p) (seen_at (step_of timer d0 d1).device p) (side_at d1 p)
unfolding side_at side_by
step-side timer d0 d1 s p l =
    let h = step-sided timer d0 d1 s p l in
    λ i. record { pmf = (h.pattern i).pmf; source = h.source i }
