-- Paper 02, W-203 and W-206: direction and special in effect go by the modes of A and B and the port's own registers, the lines that A and
-- B show also by the configuration, by what the ports hold and by ACKIN. What a port puts out does not reach its catchers.
-- Assumes nothing.
use Prim.Native.Nat.{ℕ, ◌-◌, ◌/◌, ◌<◌}
use mathlib.Core.Path.{◌≡◌, sym, ap, ◌∙◌}
use mathlib.Core.Bool.{Bool, true, ◌&&◌, beq, So, and-false}
use lib.Dec.{lit<}
use Rattle.rules.specs.declared.Device.{Device}
use Rattle.rules.specs.declared.Port.{Port}
use Rattle.basics.specs.Byte.{bit, differs, every}
use Rattle.rules.specs.Record.{port_at, pattern_at}
use Rattle.rules.specs.With.{with_direction, with_special}
use Rattle.rules.specs.Registers.{port_on, port_enabled}
use Rattle.rules.specs.Handshakes.{handshakes, depth, ready_of, is_line, ackin_bit, ackin_at, available_of, offers_at, shown_at}
use Rattle.rules.specs.PortData.{pin_bit, path_bit, catches, catches_at, pins_of, path_of, direction_at, special_at, effective_at, value_at, pins_at, path_at}
use Rattle.rules.specs.Sound.{only, catcher_only, catcher_set, sound_port, sound_port_at}
use Rattle.basics.proofs.Truth.{all7, same}
use Rattle.basics.proofs.Laws.{bit_byte_lem}
use Rattle.basics.proofs.Places.{each2}

-- ---- records with the same modes
module _ (d e : Device) (modes : (p : ℕ) → (pattern_at e p).mode ≡ (pattern_at d p).mode) where
  pub line_kept : (k : ℕ) → is_line e k ≡ is_line d k
  unfolding is_line
  line_kept k = simp (modes (1 - k / 2))

  pub direction-kept : (p : ℕ) → (port_at e p).direction ≡ (port_at d p).direction → direction_at e p ≡ direction_at d p
  unfolding direction_at
  direction-kept p h = simp (line_kept, modes p, h)

  pub special-kept : (p : ℕ) → (port_at e p).special ≡ (port_at d p).special → special_at e p ≡ special_at d p
  unfolding special_at
  special-kept p h = simp (line_kept, modes p, h)

  pub shown-kept : e.config ≡ d.config → e.transfers ≡ d.transfers → ((p : ℕ) → (pattern_at e p).handshake ≡ (pattern_at d p).handshake)
      → ((p : ℕ) → ackin_at e p ≡ ackin_at d p) → (p : ℕ) → shown_at e p ≡ shown_at d p
  unfolding shown_at offers_at ready_of available_of depth
  shown-kept c t s a p = simp (modes p, c, t, s p, a p)

-- ---- the catchers
-- path bit k of a port that puts out the value v
pub path-bit : (enabled : Bool) (q : Port) (v k : ℕ) → k < 8
    → bit (path_of q (pins_of enabled q v) v) k
    ≡ path_bit (bit q.direction k) (pin_bit enabled (bit q.direction k) (bit q.special k) (bit q.polarity k) (bit v k) (bit q.outside k))
    (bit q.polarity k) (bit v k)
unfolding path_of pins_of
path-bit enabled q v k h =
    bit_byte_lem _ k h ∙ ap (λ (x : Bool). path_bit (bit q.direction k) x (bit q.polarity k) (bit v k)) (bit_byte_lem _ k h)

-- a bit that catches is an input, and shows nothing that the port puts out
pub unseen : (e i s p o v w : Bool) → (catches e i s && path_bit i (pin_bit e i s p v o) p v) ≡ (catches e i s && path_bit i (pin_bit e i s p w o) p w)
unfolding catches path_bit pin_bit
unseen e i s p o v w =
    same _ _
    (all7 (λ e i s p o v w. beq (catches e i s && path_bit i (pin_bit e i s p v o) p v) (catches e i s && path_bit i (pin_bit e i s p w o) p w)) tt e i s p o v w)

every-same : (f g : ℕ → Bool) → ((k : ℕ) → k < 8 → f k ≡ g k) → every f ≡ every g
unfolding every
every-same f g h =
    simp (h 0 (lit< tt), h 1 (lit< tt), h 2 (lit< tt), h 3 (lit< tt), h 4 (lit< tt), h 5 (lit< tt), h 6 (lit< tt), h 7 (lit< tt))

pub value-unseen : (e : Bool) (q : Port) (v w : ℕ) → sound_port e q (path_of q (pins_of e q v) v) ≡ sound_port e q (path_of q (pins_of e q w) w)
unfolding sound_port catcher_set catches_at
value-unseen e q v w =
    ap (λ (b : Bool). catcher_only e q && b)
    (every-same _ _
    (λ k l.
    ap (λ (b : Bool). only b (bit q.catcher k))
    (ap (λ (b : Bool). catches_at e q k && b) (path-bit e q v k l)
    ∙ unseen e (bit q.direction k) (bit q.special k) (bit q.polarity k) (bit q.outside k) (bit v k) (bit w k)
    ∙ ap (λ (b : Bool). catches_at e q k && b) (sym (path-bit e q w k l)))))

-- so a port's catchers stay sound as long as its registers, the configuration and the modes stay, whatever the port puts out
pub port-kept : (d e : Device) → e.config ≡ d.config → ((p : ℕ) → (pattern_at e p).mode ≡ (pattern_at d p).mode)
    → (p : ℕ) → port_at e p ≡ port_at d p → So (sound_port_at d p) → So (sound_port_at e p)
unfolding sound_port_at path_at pins_at
port-kept d e c m p h s =
    let t = direction-kept d e m p (ap (λ (q : Port). q.direction) h) in
    let u = special-kept d e m p (ap (λ (q : Port). q.special) h) in
    let q : effective_at e p ≡ effective_at d p = λ i. with_special (with_direction (h i) (t i)) (u i) in
    ap (λ (r : Port). sound_port (port_enabled e p) r (path_of r (pins_of (port_enabled e p) r (value_at e p)) (value_at e p))) q
    ∙ ap (λ (n : ℕ). sound_port (port_on n p) (effective_at d p) (path_of (effective_at d p) (pins_of (port_on n p) (effective_at d p) (value_at e p)) (value_at e p))) c
    ∙ value-unseen (port_enabled d p) (effective_at d p) (value_at e p) (value_at d p)
    ∙ s

-- ---- ACKIN is an input, so its path value is the outside level XOR polarity, whatever Port C's registers hold
input-path : (d : Device) (k : ℕ) → k < 8 → bit (direction_at d 2) k ≡ true
    → bit (path_at d 2) k ≡ differs (bit (port_at d 2).outside k) (bit (port_at d 2).polarity k)
unfolding path_at pins_at path_bit pin_bit
input-path d k l i = path-bit (port_enabled d 2) (effective_at d 2) (value_at d 2) k l ∙ (simp (i, and-false))

pub ackin-path : (d : Device) (p : ℕ) → p < 2 → handshakes (pattern_at d p) ≡ true → ackin_at d p ≡ bit (path_at d 2) (ackin_bit p)
unfolding ackin_at direction_at is_line
ackin-path d p l h =
    each2 (λ p. handshakes (pattern_at d p) ≡ true → ackin_at d p ≡ bit (path_at d 2) (ackin_bit p))
    (λ h. sym (input-path d 2 (lit< tt) (bit_byte_lem _ 2 (lit< tt) ∙ (simp h)))) (λ h. sym (input-path d 0 (lit< tt) (bit_byte_lem _ 0 (lit< tt) ∙ (simp h)))) p l h
