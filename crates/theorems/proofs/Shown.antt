-- Paper 02, W-206: what a port with handshake shows: its line, and of an output port the byte that it put out last.
-- Assumes nothing.
use Prim.Native.Nat.{ℕ, ◌+◌, ◌<◌}
use mathlib.Core.Path.{◌≡◌, refl, ◌∙◌}
use mathlib.Core.Bool.{Bool, true, false, not, ◌&&◌, ◌||◌, beq, So, and-false, or-true}
use native.Mathlib.Omega.{arith}
use lib.Dec.{eqb}
use borrow.Author.Tests.{eqb-false, ne_eqb, not-false}
use Rattle.rules.specs.declared.Device.{Device}
use Rattle.basics.specs.Byte.{bit, differs}
use Rattle.rules.specs.Record.{port_at, pattern_at, transfer_at}
use Rattle.rules.specs.Registers.{kind_in, kind_of, reset, port_enabled}
use Rattle.rules.specs.Handshakes.{inputs, outputs, strobed, ready_of, ackin_at, available_of, offers_at, shown_at}
use Rattle.rules.specs.PortData.{pin_bit, path_bit, catches, seen_bit, catches_at, pins_of, seen_of, direction_at, special_at, effective_at, value_at, pins_at, path_at, seen_at, data_at}
use Rattle.rules.specs.Access.{read_of, reads_byte}
use Rattle.rules.specs.Sound.{sound_of}
use Rattle.rules.specs.Events.{unknown, no_register, too_large, held, no_byte, no_room, code_of, read_effect, effect_of, relit, answer_of, outcome_of, event_of}
use Rattle.basics.proofs.Truth.{same}
use Rattle.basics.proofs.Laws.{below, byte-bits, byte-of, bit_byte_lem}
use Rattle.basics.proofs.Tests.{left, right, not_so}
use Rattle.basics.proofs.Places.{each2}
use Rattle.theorems.specs.Used.{of}
use Rattle.theorems.proofs.Parts.{no-input, handshake-awake}
use Rattle.theorems.proofs.Clauses.{sound-parts}
use Rattle.theorems.proofs.Effective.{path-bit}

-- ---- the line
inactive-by : (d : Device) (p : ℕ) (i : Bool) → inputs (pattern_at d p) ≡ i → port_enabled d p ≡ false → shown_at d p ≡ not i
unfolding shown_at offers_at ready_of available_of
inactive-by d p true e z = simp (e, z)
inactive-by d p false e z = simp (e, z)

-- a disabled port's line is inactive: RFD shows 0, DAV 1
pub disabled-inactive : (d : Device) (p : ℕ) → port_enabled d p ≡ false → shown_at d p ≡ not (inputs (pattern_at d p))
disabled-inactive d p z = inactive-by d p _ refl z

pub no-bit : (k : ℕ) → k < 8 → bit 0 k ≡ false
no-bit k l = same _ false (below (λ k. beq (bit 0 k) false) 8 tt k l)

-- R of the data of a port that is no input port with handshake
read-data : (d : Device) → sound_of d ≡ true → reset d ≡ false → (p : ℕ) → p < 2 → inputs (pattern_at d p) ≡ false
    → (event_of d (of 2 (0x0D + p) 0 0)).answer.value ≡ data_at d p
unfolding event_of code_of unknown no_register too_large held no_byte no_room reads_byte effect_of read_effect read_of kind_of kind_in relit outcome_of answer_of
read-data d s r =
    each2 (λ p. inputs (pattern_at d p) ≡ false → (event_of d (of 2 (0x0D + p) 0 0)).answer.value ≡ data_at d p) (λ i. simp (s, r, i)) (λ i. simp (s, r, i))

module _ (d : Device) (p : ℕ) (o : So (outputs (pattern_at d p))) where
  -- "Data Available goes active only when a byte stands at the pins": DAV shows 0 only while one is held
  pub available-held : shown_at d p ≡ false → (transfer_at d p).bytes ≡ 0 → ⊥
  unfolding shown_at offers_at available_of
  available-held z =
      let t = transfer_at d p in
      let some = not (eqb t.bytes 0) in
      let when = strobed (pattern_at d p) || (not t.unfinished && ackin_at d p) in
      let shown : So (port_enabled d p && some && when) = not-false _ (simp (no-input (pattern_at d p) o) at z) in
      eqb-false t.bytes 0 (not_so (eqb t.bytes 0) (right (port_enabled d p) some (left (port_enabled d p && some) when shown)))

  -- ---- the data
  module _ (l : p < 2) where
    outward : (k : ℕ) → k < 8 → bit (direction_at d p) k ≡ false
    unfolding direction_at
    outward k h = simp (ne_eqb p 2 (λ e. omega (arith, l, e)), no-input (pattern_at d p) o, o) (no-bit k h)

    put-out : value_at d p ≡ (port_at d p).output
    unfolding value_at
    put-out = simp (o, or-true)

    seen-bit : (k : ℕ) → k < 8
        → seen_bit (catches_at (port_enabled d p) (effective_at d p) k) (bit (port_at d p).catcher k) (bit (path_at d p) k) ≡ bit (port_at d p).output k
    unfolding seen_bit catches_at catches path_at pins_at path_bit
    seen-bit k h =
        simp (outward k h, and-false) (path-bit (port_enabled d p) (effective_at d p) (value_at d p) k h ∙ (simp (outward k h, put-out)))

    -- "The byte put out last stays in the data register, and reads return it."
    pub data-register : (port_at d p).output < 256 → data_at d p ≡ (port_at d p).output
    unfolding data_at seen_at seen_of
    data-register h = simp (ne_eqb p 2 (λ e. omega (arith, l, e)), no-input (pattern_at d p) o) (byte-of _ (bit (port_at d p).output) seen-bit ∙ byte-bits _ h)

    -- where one is held it is that
    front-is : sound_of d ≡ true → ((transfer_at d p).bytes ≡ 0 → ⊥) → (port_at d p).output ≡ (transfer_at d p).front
    front-is s n = ((sound-parts d s).base.transfers p l).put o n

    pub data-shown : sound_of d ≡ true → ((transfer_at d p).bytes ≡ 0 → ⊥) → (transfer_at d p).front < 256 → data_at d p ≡ (transfer_at d p).front
    data-shown s n h = data-register (rw (front-is s n) h) ∙ front-is s n

    -- so R of the data gives it
    pub read-shown : sound_of d ≡ true → ((transfer_at d p).bytes ≡ 0 → ⊥) → (transfer_at d p).front < 256
        → (event_of d (of 2 (0x0D + p) 0 0)).answer.value ≡ (transfer_at d p).front
    read-shown s n h =
        read-data d s (handshake-awake d p l (sound-parts d s).base (simp (o, or-true))) p l (no-input (pattern_at d p) o) ∙ data-shown s n h

    -- and it stands, XOR polarity, at the pins that are driven both ways
    own-special : special_at d p ≡ (port_at d p).special
    unfolding special_at
    own-special = simp (ne_eqb p 2 (λ e. omega (arith, l, e)), no-input (pattern_at d p) o)

    pub pins-shown : (k : ℕ) → k < 8 → So (port_enabled d p) → bit (port_at d p).special k ≡ false
        → bit (pins_at d p) k ≡ differs (bit (port_at d p).output k) (bit (port_at d p).polarity k)
    unfolding pins_at pins_of pin_bit
    pins-shown k h e z = bit_byte_lem _ k h ∙ (simp (e, outward k h, own-special, z, put-out))
