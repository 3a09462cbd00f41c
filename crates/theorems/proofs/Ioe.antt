-- Paper 02, W-211: "IOE has no effect". A step with another IOE at a port in mode 11 is the same step, but for that IOE.
-- Assumes nothing.
use Prim.Native.Nat.{ℕ, zero, suc, ◌/◌, ◌%◌}
use mathlib.Core.Path.{◌≡◌, refl, sym, ap, ◌∙◌}
use mathlib.Core.Bool.{Bool, true, and-false}
use mathlib.Core.List.{List, [], ◌∷◌}
use lib.Dec.{eqb}
use lib.ListN.{get_or, set}
use Rattle.rules.specs.declared.Device.{Device}
use Rattle.rules.specs.declared.Pattern.{Pattern}
use Rattle.rules.specs.Record.{pattern_at, blank, of_port}
use Rattle.rules.specs.With.{with_ports, with_pattern, with_patterns, with_pmf, with_ioe}
use Rattle.rules.specs.Registers.{port_enabled}
use Rattle.rules.specs.Patterns.{is_priority, on_at, hit_at, and_match, or_match, match_of, event_by, hides_by}
use Rattle.rules.specs.Step.{event_at, catchers, matched_by, pattern_turn, settled, step_of}
use Rattle.basics.proofs.Places.{set_keeps}
use Rattle.theorems.proofs.Fates.{event-apart}
use Rattle.theorems.proofs.Frame.{Frame, frame-pattern}
use Rattle.theorems.proofs.Caught.{caught-kept-at}
use Rattle.theorems.proofs.Apart.{step_with, Aside, step-apart}
use Rattle.theorems.proofs.Sides.{seen-kept, lines-kept}

-- ---- a list with one of its elements changed: two changes that commute may be made in either order
abbrev changed : {A : Type 0} → A → List A → ℕ → (A → A) → List A
changed x l i f = set l i (f (get_or l i x))

swap : {A : Type 0} (x : A) (f g : A → A) → ((a : A) → f (g a) ≡ g (f a)) → (l : List A) (i j : ℕ)
    → changed x (changed x l i f) j g ≡ changed x (changed x l j g) i f
swap x f g h [] i j = refl
swap x f g h (y ∷ l) zero zero = ap (λ (a : _). a ∷ l) (sym (h y))
swap x f g h (y ∷ l) zero (suc j) = refl
swap x f g h (y ∷ l) (suc i) zero = refl
swap x f g h (y ∷ l) (suc i) (suc j) = ap (λ (m : List _). y ∷ m) (swap x f g h l i j)

-- ---- one pattern
ioe-match : (on : Bool) (q : Pattern) (v : Bool) (before after : ℕ) → match_of on (with_ioe q v) before after ≡ match_of on q before after
unfolding match_of and_match or_match on_at hit_at
ioe-match on q v before after = refl

ioe-hides : (q : Pattern) (v : Bool) → is_priority q ≡ true → hides_by (with_ioe q v) ≡ hides_by q
unfolding hides_by
ioe-hides q v h = simp (h, and-false)

module _ (p : ℕ) (v : Bool) where
  -- the record with IOE v at port p
  abbrev pub ioed : Device → Device
  ioed d = with_pattern d p (with_ioe (pattern_at d p) v)

  -- ---- what does not go by IOE
  frame-ioed : (d : Device) → Frame d (ioed d)
  frame-ioed d =
      record {
        version = refl;
        master = refl;
        config = refl;
        phase = refl;
        ports = λ j _. refl;
        modes = λ j. set_keeps (λ i q. q.mode ≡ (pattern_at d i).mode) d.patterns p j (with_ioe (pattern_at d p) v) blank (λ _. refl) refl;
        handshakes = λ j. set_keeps (λ i q. q.handshake ≡ (pattern_at d i).handshake) d.patterns p j (with_ioe (pattern_at d p) v) blank (λ _. refl) refl;
        transfers = refl;
      }

  aside : Aside ioed
  aside =
      record {
        version = λ d. refl;
        config = λ d. refl;
        counters = λ d. refl;
        sources = λ d. refl;
        counted = λ d i c. refl;
        sourced = λ d k s. refl;
      }

  -- ---- (e) and (f)
  catchers-ioed : (d : Device) → catchers (ioed d) ≡ ioed (catchers d)
  unfolding catchers
  catchers-ioed d =
      let caught = caught-kept-at d (ioed d) refl (frame-ioed d).modes refl in
      λ i. with_ports (ioed d) (caught 0 i ∷ caught 1 i ∷ caught 2 i ∷ [])

  module _ (j : ℕ) (d : Device) where
    match-ioed : (before after : ℕ) → match_of (port_enabled d j) (pattern_at (ioed d) j) before after ≡ match_of (port_enabled d j) (pattern_at d j) before after
    match-ioed before after =
        set_keeps (λ i q. match_of (port_enabled d j) q before after ≡ match_of (port_enabled d j) (pattern_at d i) before after) d.patterns p j
        (with_ioe (pattern_at d p) v) blank (λ _. ioe-match (port_enabled d j) (pattern_at d p) v before after) refl

    matched-ioed : (m : Bool) → is_priority (pattern_at d p) ≡ true → matched_by j m (ioed d) ≡ ioed (matched_by j m d)
    unfolding matched_by event_by
    matched-ioed m h =
        let q = with_ioe (pattern_at d p) v in
        let hides = set_keeps (λ i r. hides_by r ≡ hides_by (pattern_at d i)) d.patterns p j q blank (λ _. ioe-hides (pattern_at d p) v h) refl in
        let event = set_keeps (λ i r. event_by r r.pmf m ≡ event_by (pattern_at d i) (pattern_at d i).pmf m) d.patterns p j q blank (λ _. refl) refl in
        let stored = ap (with_patterns d) (swap blank (λ (r : Pattern). with_ioe r v) (λ (r : Pattern). with_pmf r m) (λ r. refl) d.patterns p j) in
        (λ i. event_at (stored i) (of_port j) (hides i) (event i))
        ∙ event-apart ioed (λ e. refl) (λ e k s. refl) (with_pattern d j (with_pmf (pattern_at d j) m)) (of_port j) _ _

    pattern-ioed : (before : ℕ) → is_priority (pattern_at d p) ≡ true → pattern_turn j before (ioed d) ≡ ioed (pattern_turn j before d)
    unfolding pattern_turn
    pattern-ioed before h =
        ap (λ (x : ℕ). matched_by j (match_of (port_enabled d j) (pattern_at (ioed d) j) before x) (ioed d)) (seen-kept d (ioed d) (frame-ioed d) refl refl j)
        ∙ ap (λ (m : Bool). matched_by j m (ioed d)) (match-ioed before _)
        ∙ matched-ioed _ h

  -- the mode stays
  stays : (d e : Device) → Frame d e → is_priority (pattern_at d p) ≡ true → is_priority (pattern_at e p) ≡ true
  stays d e f h = ap (λ (m : ℕ). eqb (m / 2 % 4) 3) (f.modes p) ∙ h

  settled-ioed : (a b : ℕ) (d : Device) → is_priority (pattern_at d p) ≡ true → settled a b (ioed d) ≡ ioed (settled a b d)
  unfolding settled catchers
  settled-ioed a b d h =
      let c = catchers d in
      ap (λ (e : Device). pattern_turn 1 b (pattern_turn 0 a e)) (catchers-ioed d) ∙ ap (pattern_turn 1 b) (pattern-ioed 0 c a h)
      ∙ pattern-ioed 1 (pattern_turn 0 a c) b (stays c (pattern_turn 0 a c) (frame-pattern 0 a c) h)

  -- ---- the step
  pub ioe-unseen : (timer : Bool) (d0 d1 : Device) → is_priority (pattern_at d1 p) ≡ true → step_of timer d0 (ioed d1) ≡ step_with ioed (step_of timer d0 d1)
  ioe-unseen timer d0 d1 h =
      step-apart ioed aside timer d0 d1 (lines-kept d1 (ioed d1) (frame-ioed d1) refl refl) (λ e f. settled-ioed _ _ e (stays d1 e f h))
