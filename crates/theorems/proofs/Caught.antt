-- Paper 02, W-210: "the catchers settle in the first timer clock". What a port puts out does not reach its catchers, and catching twice is
-- catching once: so after any step they have caught, and in a sound record.
-- Assumes nothing.
use Prim.Native.Nat.{ℕ, ◌<◌}
use mathlib.Core.Path.{◌≡◌, refl, sym, ap, ap₂, ◌∙◌}
use mathlib.Core.Bool.{Bool, true, false, ◌&&◌, ◌||◌, beq, So}
use mathlib.Core.List.{List, [], ◌∷◌}
use lib.Dec.{lit<}
use lib.ListN.{get_or}
use Rattle.rules.specs.declared.Device.{Device}
use Rattle.rules.specs.declared.Port.{Port}
use Rattle.rules.specs.declared.Ran.{Ran}
use Rattle.basics.specs.Byte.{bit, every}
use Rattle.rules.specs.Record.{Shaped, port_at, pattern_at, bare, of_port}
use Rattle.rules.specs.With.{with_direction, with_special, with_catcher, with_ports, with_phase}
use Rattle.rules.specs.Registers.{port_on, port_enabled, reset}
use Rattle.rules.specs.Handshakes.{is_line, ackin_at, offers_at, shown_at}
use Rattle.rules.specs.PortData.{caught_bit, catches_at, caught_of, pins_of, path_of, direction_at, special_at, effective_at, lined, value_at, pins_at, path_at}
use Rattle.rules.specs.Step.{event_at, caught_at, catchers, matched_by, pattern_turn, settled, step_of, reported, clock_of}
use Rattle.rules.specs.Sound.{only, catcher_only, catcher_set, sound_port, sound_port_at, sound_of}
use Rattle.basics.proofs.Truth.{all3, same}
use Rattle.basics.proofs.Laws.{bit_byte_lem, byte-of, by_bits}
use Rattle.basics.proofs.Lists.{three}
use Rattle.basics.proofs.Tabled.{tabled, at}
use Rattle.basics.proofs.Tests.{left, right, each}
use Rattle.theorems.specs.Moving.{Caught}
use Rattle.theorems.proofs.Clauses.{sound-parts}
use Rattle.theorems.proofs.Effective.{direction-kept, special-kept, path-bit, unseen}
use Rattle.theorems.proofs.Fates.{by-source}
use Rattle.theorems.proofs.Frame.{frame-pattern, frame_step}
use Rattle.theorems.proofs.Reports.{clock-first, clock-timer}

-- ---- one bit
-- what is caught goes by the path where it catches
where-it-catches : (t c p : Bool) → caught_bit t c p ≡ caught_bit t c (t && p)
unfolding caught_bit
where-it-catches t c p = same _ _ (all3 (λ t c p. beq (t && (c || p)) (t && (c || (t && p)))) tt t c p)

caught-again : (t c p : Bool) → caught_bit t (caught_bit t c p) p ≡ caught_bit t c p
unfolding caught_bit
caught-again t c p = same _ _ (all3 (λ t c p. beq (t && ((t && (c || p)) || p)) (t && (c || p))) tt t c p)

-- a catcher that stands only where allowed, and where the path is 1, has caught
has-caught : (t c p : Bool) → So (only c t) → So (only (t && p) c) → c ≡ caught_bit t c p
unfolding caught_bit
has-caught true true p h g = refl
has-caught true false true h g = g
has-caught true false false h g = refl
has-caught false true p h g = sym h
has-caught false false p h g = refl

-- ---- the byte of one port
pub caught-unseen : (e : Bool) (q : Port) (v w : ℕ) → caught_of e q (path_of q (pins_of e q v) v) ≡ caught_of e q (path_of q (pins_of e q w) w)
unfolding caught_of catches_at
caught-unseen e q v w =
    let t : ℕ → Bool = λ k. catches_at e q k in
    let path : ℕ → ℕ → Bool = λ v k. bit (path_of q (pins_of e q v) v) k in
    byte-of _ _
    (λ k l.
    where-it-catches (t k) (bit q.catcher k) (path v k)
    ∙ ap (caught_bit (t k) (bit q.catcher k))
    (ap (λ (b : Bool). t k && b) (path-bit e q v k l)
    ∙ unseen e (bit q.direction k) (bit q.special k) (bit q.polarity k) (bit q.outside k) (bit v k) (bit w k)
    ∙ ap (λ (b : Bool). t k && b) (sym (path-bit e q w k l)))
    ∙ sym (where-it-catches (t k) (bit q.catcher k) (path w k)))

caught-twice : (e : Bool) (q : Port) (path : ℕ) → caught_of e (with_catcher q (caught_of e q path)) path ≡ caught_of e q path
unfolding caught_of catches_at
caught-twice e q path =
    byte-of _ _
    (λ k l.
    ap (λ (b : Bool). caught_bit (catches_at e q k) b (bit path k)) (bit_byte_lem _ k l)
    ∙ caught-again (catches_at e q k) (bit q.catcher k) (bit path k))

-- ---- the catchers go by the ports, the configuration and the modes, whatever the ports put out
module _ (d e : Device) (c : e.config ≡ d.config) (m : (p : ℕ) → (pattern_at e p).mode ≡ (pattern_at d p).mode) (ports : e.ports ≡ d.ports) where
  pub caught-kept-at : (p : ℕ) → caught_at e p ≡ caught_at d p
  unfolding caught_at path_at pins_at
  caught-kept-at p =
      let h : port_at e p ≡ port_at d p = ap (λ (l : List Port). get_or l p (bare 0)) ports in
      let t = direction-kept d e m p (ap (λ (q : Port). q.direction) h) in
      let u = special-kept d e m p (ap (λ (q : Port). q.special) h) in
      let q : effective_at e p ≡ effective_at d p = λ i. with_special (with_direction (h i) (t i)) (u i) in
      ap₂ (λ (o r : Port). with_catcher o (caught_of (port_enabled e p) r (path_of r (pins_of (port_enabled e p) r (value_at e p)) (value_at e p)))) h q
      ∙ ap (λ (n : ℕ). with_catcher (port_at d p) (caught_of (port_on n p) (effective_at d p) (path_of (effective_at d p) (pins_of (port_on n p) (effective_at d p) (value_at e p)) (value_at e p)))) c
      ∙ ap (with_catcher (port_at d p)) (caught-unseen (port_enabled d p) (effective_at d p) (value_at e p) (value_at d p))

  pub caught-kept : Caught d → Caught e
  unfolding catchers
  caught-kept h =
      (λ i. with_ports e (caught-kept-at 0 i ∷ caught-kept-at 1 i ∷ caught-kept-at 2 i ∷ []))
      ∙ ap (λ (x : Device). with_ports e x.ports) h
      ∙ ap (with_ports e) (sym ports)

-- ---- after a step
caught-catchers : (d : Device) → Caught (catchers d)
unfolding catchers caught_at path_at pins_at path_of pins_of value_at direction_at special_at lined is_line shown_at offers_at ackin_at
caught-catchers d =
    let again : (p : ℕ) → caught_of (port_enabled d p) (with_catcher (effective_at d p) (caught_of (port_enabled d p) (effective_at d p) (path_at d p))) (path_at d p)
    ≡ caught_of (port_enabled d p) (effective_at d p) (path_at d p) = λ p. caught-twice (port_enabled d p) (effective_at d p) (path_at d p) in
    λ i. with_ports d (with_catcher (port_at d 0) (again 0 i) ∷ with_catcher (port_at d 1) (again 1 i) ∷ with_catcher (port_at d 2) (again 2 i) ∷ [])

event-ports : (d : Device) (k : ℕ) (hides happens : Bool) → (event_at d k hides happens).ports ≡ d.ports
event-ports d k hides happens = by-source (λ e. e.ports ≡ d.ports) d k hides happens refl (λ s. refl)

pub pattern-ports : (p before : ℕ) (d : Device) → (pattern_turn p before d).ports ≡ d.ports
unfolding pattern_turn matched_by
pattern-ports p before d = event-ports _ (of_port p) _ _

caught-pattern : (p before : ℕ) (d : Device) → Caught d → Caught (pattern_turn p before d)
caught-pattern p before d h =
    let f = frame-pattern p before d in
    caught-kept d (pattern_turn p before d) f.config f.modes (pattern-ports p before d) h

pub caught-step : (timer : Bool) (d0 d1 : Device) → Caught (step_of timer d0 d1).device
unfolding step_of settled
caught-step timer d0 d1 = caught-pattern 1 _ _ (caught-pattern 0 _ _ (caught-catchers _))

-- the phase is on no line
pub caught-phase : (d : Device) (v : Bool) → Caught d → Caught (with_phase d v)
caught-phase d v h = caught-kept d (with_phase d v) refl (λ p. refl) refl h

-- of two clocks one is a timer clock
caught-by : (v : Bool) (s : Ran) → reset s.device ≡ false → s.device.phase ≡ v → Caught (clock_of (clock_of s)).device
unfolding reported
caught-by true s r p =
    let d = s.device in
    let f = frame_step true d (with_phase d false) in
    let low : Ran = reported s.report (step_of true d (with_phase d false)) in
    rw (clock-timer s r p)
    (rw (clock-first low (ap (λ (m : ℕ). bit m 0) f.master ∙ r) f.phase) (caught-phase low.device true (caught-step true d (with_phase d false))))
caught-by false s r p =
    let high : Ran = record { device = with_phase s.device true; report = s.report } in
    rw (clock-first s r p) (rw (clock-timer high r refl) (caught-step true high.device (with_phase s.device false)))

pub caught-clocks : (s : Ran) → reset s.device ≡ false → Caught (clock_of (clock_of s)).device
caught-clocks s r = caught-by _ s r refl

-- ---- in a sound record
every-at : (f : ℕ → Bool) → So (every f) → (k : ℕ) → k < 8 → So (f k)
unfolding every
every-at f h k l = sym (at f 8 k true l) ∙ each (tabled f 0 8) h k

port-caught : (e : Bool) (q : Port) (path : ℕ) → q.catcher < 256 → So (sound_port e q path) → q.catcher ≡ caught_of e q path
unfolding sound_port catcher_only catcher_set caught_of
port-caught e q path small h =
    by_bits q.catcher _ small
    (λ k l.
    has-caught (catches_at e q k) (bit q.catcher k) (bit path k) (every-at _ (left (catcher_only e q) (catcher_set e q path) h) k l)
    (every-at _ (right (catcher_only e q) (catcher_set e q path) h) k l))

pub sound-caught : (d : Device) → Shaped d → sound_of d ≡ true → ((p : ℕ) → p < 3 → (port_at d p).catcher < 256) → Caught d
unfolding catchers caught_at sound_port_at
sound-caught d shape s small =
    let h = (sound-parts d s).ports in
    let caught : (p : ℕ) → p < 3 → (port_at d p).catcher ≡ caught_of (port_enabled d p) (effective_at d p) (path_at d p) =
    λ p l. port-caught (port_enabled d p) (effective_at d p) (path_at d p) (small p l) (h p l) in
    sym
    (ap (with_ports d) (three (bare 0) d.ports shape.ports)
    ∙ (λ i. with_ports d
    (with_catcher (port_at d 0) (caught 0 (lit< tt) i) ∷ with_catcher (port_at d 1) (caught 1 (lit< tt) i) ∷ with_catcher (port_at d 2) (caught 2 (lit< tt) i) ∷ [])))
