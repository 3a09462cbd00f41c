-- A step makes a sound record of whatever its direct effect left, if that kept the base: the catchers and PMF are set anew by (e) and (f).
-- Assumes nothing.
use Prim.Native.Nat.{ℕ, ◌<◌}
use mathlib.Core.Path.{◌≡◌, refl, ap, ◌∙◌}
use mathlib.Core.Bool.{Bool, true, false, So}
use mathlib.Core.List.{[], ◌∷◌}
use lib.Dec.{lit<}
use lib.ListN.{get_or}
use Rattle.rules.specs.declared.Pattern.{Pattern}
use Rattle.rules.specs.declared.Device.{Device}
use Rattle.rules.specs.declared.Counted.{Counted}
use Rattle.rules.specs.declared.Link.{Link}
use Rattle.rules.specs.Record.{port_at, pattern_at, transfer_at, counter_at, source_at, bare, blank, of_port, of_counter}
use Rattle.rules.specs.With.{with_pattern, with_counter, with_source, with_ip, with_hidden, with_pmf}
use Rattle.rules.specs.Registers.{port_on, port_enabled, counter_on, counter_enabled}
use Rattle.rules.specs.Handshakes.{is_line, ackin_at, offers_at, shown_at}
use Rattle.rules.specs.PortData.{direction_at, special_at, effective_at, lined, value_at, pins_of, path_of, pins_at, path_at, seen_at}
use Rattle.rules.specs.Counters.{unlinked, reach_of, turn_of}
use Rattle.rules.specs.Patterns.{match_of, event_by, hides_by}
use Rattle.rules.specs.Step.{lines_at, event_at, turned, counter_turn, caught_at, catchers, matched_by, pattern_turn, settled, step_of}
use Rattle.rules.specs.Sound.{pmf_only, sound_port_at}
use Rattle.basics.proofs.Tests.{never}
use Rattle.basics.proofs.Places.{each2, each3, set_keeps, set_gives}
use Rattle.theorems.proofs.Parts.{CounterSound, Cleared, Base, Sound}
use Rattle.theorems.proofs.CounterLaws.{turn-sound, turn-off}
use Rattle.theorems.proofs.SourceLaws.{ip-sound, hidden-sound}
use Rattle.theorems.proofs.Fates.{by-source, by-fate}
use Rattle.theorems.proofs.PortLaws.{effective-four, caught-four, caught-off, caught-sound}
use Rattle.theorems.proofs.Effective.{port-kept}
use Rattle.theorems.proofs.PatternLaws.{pmf-sound, match-off}
use Rattle.theorems.proofs.TransferLaws.{settings-kept}
use Rattle.theorems.proofs.Frame.{pmf-modes}
use Rattle.theorems.proofs.Stores.{cleared-ports, cleared-pattern, cleared-counter, TransferBy, base-ports, base-pattern, base-counter, base-source}

-- ---- an event at a source; under RESET there is none
event-base : (d : Device) (k : ℕ) (hides happens : Bool) → Base d → (Cleared d → happens ≡ false) → Base (event_at d k hides happens)
event-base d k hides happens h f =
    by-fate Base d k hides happens h
    (λ t. base-source d k (with_ip (source_at d k) true) h (ip-sound (source_at d k)) (λ _ _ _ _. refl) (λ c. never (f c) t))
    (λ t p. base-source d k (with_hidden (source_at d k) true) h (λ _. hidden-sound (source_at d k) p) (λ _ _ _ i. i) (λ c. never (f c) t))

-- ---- (b), (c), (d): a counter's turn; under RESET it is not enabled
turned-base : (d : Device) (i : ℕ) (r : Counted) → Base d
    → (CounterSound d.version (counter_enabled d i) (counter_at d i) → CounterSound d.version (counter_enabled d i) r.counter)
    → (d.config ≡ 0 → r ≡ record { counter = counter_at d i; terminal = false }) → Base (turned d i r).device
unfolding turned event_at
turned-base d i r h f g =
    event-base (with_counter d i r.counter) (of_counter i) true r.terminal
    (base-counter d i r.counter h f
    (λ c. cleared-counter d i r.counter c (λ e. ap (λ (r : Counted). r.counter) (g c.config) ∙ e)))
    (λ c. ap (λ (r : Counted). r.terminal) (g c.config))

counter-base : (link : Link) (timer : Bool) (were are i : ℕ) (d : Device) → counter_on 0 i ≡ false → Base d
    → Base (counter_turn link timer were are i d).device
unfolding counter_turn
counter-base link timer were are i d off h =
    let reach = reach_of (counter_at d i) link timer were are in
    turned-base d i (turn_of d.version (counter_enabled d i) reach (counter_at d i)) h (turn-sound reach (counter_at d i))
    (λ c. turn-off d.version (counter_enabled d i) reach (counter_at d i) (ap (λ (n : ℕ). counter_on n i) c ∙ off))

-- ---- (e): the catchers
port-off : (d : Device) (p : ℕ) → p < 3 → d.config ≡ 0 → port_enabled d p ≡ false
unfolding port_on
port-off d p l c =
    each3 (λ p. port_enabled d p ≡ false) (simp c) (simp c) (simp c) p l

caught-bare : (d : Device) → Cleared d → (p : ℕ) → p < 3 → caught_at d p ≡ bare (caught_at d p).outside
unfolding caught_at
caught-bare d h p l =
    let e = h.ports p l in
    let z = caught-off (port_enabled d p) (effective_at d p) (path_at d p) (port-off d p l h.config) in
    λ i.
    record {
      polarity = (e i).polarity;
      direction = (e i).direction;
      special = (e i).special;
      output = (e i).output;
      outside = (port_at d p).outside;
      catcher = z i;
    }

catchers-base : (d : Device) → Base d → Base (catchers d)
unfolding catchers caught_at
catchers-base d h =
    let qs = caught_at d 0 ∷ caught_at d 1 ∷ caught_at d 2 ∷ [] in
    base-ports d qs h
    (each2 (λ p. TransferBy d p (get_or qs p (bare 0)).output (pattern_at d p) (transfer_at d p)) (h.transfers 0 (lit< tt)) (h.transfers 1 (lit< tt)))
    (caught-four (port_enabled d 2) (port_at d 2) (effective_at d 2) (path_at d 2) (effective-four d h.four) h.four)
    (λ c.
    cleared-ports d qs c
    (each3 (λ p. get_or qs p (bare 0) ≡ bare (get_or qs p (bare 0)).outside)
    (caught-bare d c 0 (lit< tt)) (caught-bare d c 1 (lit< tt)) (caught-bare d c 2 (lit< tt))))

-- the paths do not go by the catchers
catchers-ports : (d : Device) (p : ℕ) → p < 3 → So (sound_port_at (catchers d) p)
unfolding sound_port_at catchers caught_at path_at pins_at pins_of path_of direction_at special_at value_at lined is_line shown_at offers_at ackin_at
catchers-ports d =
    each3 (λ p. So (sound_port_at (catchers d) p))
    (caught-sound (port_enabled d 0) (effective_at d 0) (path_at d 0))
    (caught-sound (port_enabled d 1) (effective_at d 1) (path_at d 1))
    (caught-sound (port_enabled d 2) (effective_at d 2) (path_at d 2))

-- ---- (f): a pattern's turn
pmf-blank : (q : Pattern) (m : Bool) → m ≡ false → q ≡ blank → with_pmf q m ≡ blank
pmf-blank q m z e =
    λ i.
    record {
      mode = (e i).mode;
      handshake = (e i).handshake;
      polarity = (e i).polarity;
      transition = (e i).transition;
      mask = (e i).mask;
      ioe = (e i).ioe;
      pmf = z i;
    }

pattern-base : (p before : ℕ) (d : Device) → p < 3 → Base d → Base (pattern_turn p before d)
unfolding pattern_turn matched_by event_by
pattern-base p before d l h =
    let q = pattern_at d p in
    let m = match_of (port_enabled d p) q before (seen_at d p) in
    let off : d.config ≡ 0 → m ≡ false = λ c. match-off (port_enabled d p) q before (seen_at d p) (port-off d p l c) in
    event-base (with_pattern d p (with_pmf q m)) (of_port p) (hides_by q) (event_by q q.pmf m)
    (base-pattern d p (with_pmf q m) h (λ x. x) (settings-kept refl refl) (λ c. cleared-pattern d p (with_pmf q m) c (pmf-blank q m (off c.config))))
    (λ c. simp (off c.config))

-- what goes by the configuration, the ports and the patterns, an event at a source leaves
event-ports : (d : Device) (k : ℕ) (hides happens : Bool) (p : ℕ) → So (sound_port_at d p) → So (sound_port_at (event_at d k hides happens) p)
event-ports d k hides happens p h =
    by-source (λ e. So (sound_port_at e p)) d k hides happens h (λ s. port-kept d (with_source d k s) refl (λ _. refl) p refl h)

event-patterns : (d : Device) (k : ℕ) (hides happens : Bool) (p : ℕ) → So (pmf_only (port_enabled d p) (pattern_at d p))
    → So (pmf_only (port_enabled (event_at d k hides happens) p) (pattern_at (event_at d k hides happens) p))
event-patterns d k hides happens p h =
    by-source (λ (e : Device). So (pmf_only (port_enabled e p) (pattern_at e p))) d k hides happens h (λ _. h)

module _ (p before : ℕ) (d : Device) where
  pattern-ports : (j : ℕ) → So (sound_port_at d j) → So (sound_port_at (pattern_turn p before d) j)
  unfolding pattern_turn matched_by
  pattern-ports j h = event-ports (with_pattern d p _) _ _ _ j (port-kept d (with_pattern d p _) refl (pmf-modes d p _) j refl h)

  -- at its own place, from nothing; and at the other
  pattern-here : So (pmf_only (port_enabled (pattern_turn p before d) p) (pattern_at (pattern_turn p before d) p))
  unfolding pattern_turn matched_by pmf_only
  pattern-here =
      event-patterns (with_pattern d p _) _ _ _ p
      (set_gives (λ q. So (pmf_only (port_enabled d p) q)) d.patterns p _ blank (pmf-sound (port_enabled d p) (pattern_at d p) before (seen_at d p)) refl)

  pattern-there : (j : ℕ) → So (pmf_only (port_enabled d j) (pattern_at d j))
      → So (pmf_only (port_enabled (pattern_turn p before d) j) (pattern_at (pattern_turn p before d) j))
  unfolding pattern_turn matched_by
  pattern-there j h =
      event-patterns (with_pattern d p _) _ _ _ j
      (set_keeps (λ j q. So (pmf_only (port_enabled d j) q)) d.patterns p j _ blank
      (λ _. pmf-sound (port_enabled d p) (pattern_at d p) before (seen_at d p)) h)

-- ---- the step
settled-sound : (a b : ℕ) (d : Device) → Base d → Sound (settled a b d)
unfolding settled
settled-sound a b d h =
    let e = catchers d in
    let f = pattern_turn 0 a e in
    record {
      base = pattern-base 1 b f (lit< tt) (pattern-base 0 a e (lit< tt) (catchers-base d h));
      ports = λ p l. pattern-ports 1 b f p (pattern-ports 0 a e p (catchers-ports d p l));
      patterns =
          each2 (λ p. So (pmf_only (port_enabled (pattern_turn 1 b f) p) (pattern_at (pattern_turn 1 b f) p)))
          (pattern-there 1 b f 0 (pattern-here 0 a e)) (pattern-here 1 b f);
    }

pub step-sound : (timer : Bool) (d0 d1 : Device) → Base d1 → Sound (step_of timer d0 d1).device
unfolding step_of counter_on
step-sound timer d0 d1 h =
    settled-sound (seen_at d0 0) (seen_at d0 1) _
    (counter-base unlinked timer (lines_at d0 2) (lines_at d1 2) 2 _ refl
    (counter-base _ timer (lines_at d0 1) (lines_at d1 1) 1 _ refl
    (counter-base unlinked timer (lines_at d0 0) (lines_at d1 0) 0 d1 refl h)))
