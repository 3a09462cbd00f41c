-- Where the special bits are 0, the pins show what is put out: the line of a port with handshake, and the byte of an output port.
-- Assumes nothing.
use Prim.Native.Nat.{ℕ, ◌<◌}
use mathlib.Core.Path.{◌≡◌, refl, sym, ap, subst, ◌∙◌}
use mathlib.Core.Bool.{Bool, true, false, not, ◌&&◌, beq, So}
use lib.Dec.{lit<}
use Rattle.rules.specs.declared.Device.{Device}
use Rattle.rules.specs.declared.Event.{Event}
use Rattle.rules.specs.declared.Kind.TheVariants.{Data}
use Rattle.basics.specs.Byte.{bit, differs, rises}
use Rattle.rules.specs.Record.{Shaped, port_at, pattern_at}
use Rattle.rules.specs.Registers.{port_enabled}
use Rattle.rules.specs.Handshakes.{outputs, handshakes, is_line, ackin_bit}
use Rattle.rules.specs.PortData.{pin_bit, pins_of, level_of, direction_at, special_at, value_at, pins_at, path_at}
use Rattle.rules.specs.Access.{read_of}
use Rattle.rules.specs.Sound.{sound_of}
use Rattle.basics.proofs.Truth.{all2, same}
use Rattle.basics.proofs.Laws.{byte-bits, byte-of, bit_byte_lem}
use Rattle.basics.proofs.Tests.{left, right, not_so}
use Rattle.basics.proofs.Places.{each2}
use Rattle.theorems.proofs.Clauses.{sound-parts}
use Rattle.theorems.proofs.Shown.{no-bit, available-held, data-register, pins-shown}
use Rattle.account.specs.Account.{line_bit, line_at, heeded, acknowledges, after, acknowledged_by, strobed_by, HoldsBytes}
use Rattle.account.specs.Account.{Driven, line_pin, acknowledged_at_pins, strobed_at_pins}
use Rattle.account.proofs.Held.{same_byte}
use Rattle.account.proofs.Moved.{front-byte}
use Rattle.account.proofs.Lines.{line-shown}

-- what is turned over twice
twice : (v p : Bool) → differs (differs v p) p ≡ v
twice v p = same _ _ (all2 (λ v p. beq (differs (differs v p) p) v) tt v p)

-- tests that are one where the second part passes
where-so : (a b c : Bool) → (So c → a ≡ b) → (a && c) ≡ (b && c)
where-so a b true f = ap (λ (v : Bool). v && true) (f refl)
where-so true true false f = refl
where-so true false false f = refl
where-so false true false f = refl
where-so false false false f = refl

-- ---- the line
module _ (d : Device) (p : ℕ) (l : p < 2) (shaken : handshakes (pattern_at d p) ≡ true) where
  line_small : line_bit p < 8
  line_small = each2 (λ p. line_bit p < 8) (lit< tt) (lit< tt) p l

  line-out : bit (direction_at d 2) (line_bit p) ≡ false
  unfolding direction_at is_line
  line-out =
      each2 (λ p. handshakes (pattern_at d p) ≡ true → bit (direction_at d 2) (line_bit p) ≡ false)
      (λ h. bit_byte_lem _ 3 (lit< tt) ∙ (simp h)) (λ h. bit_byte_lem _ 1 (lit< tt) ∙ (simp h)) p l shaken

  line-special : bit (special_at d 2) (line_bit p) ≡ bit (port_at d 2).special (line_bit p)
  unfolding special_at is_line
  line-special =
      each2 (λ p. handshakes (pattern_at d p) ≡ true → bit (special_at d 2) (line_bit p) ≡ bit (port_at d 2).special (line_bit p))
      (λ h. bit_byte_lem _ 3 (lit< tt) ∙ (simp h)) (λ h. bit_byte_lem _ 1 (lit< tt) ∙ (simp h)) p l shaken

  module _ (on : port_enabled d 2 ≡ true) (z : bit (port_at d 2).special (line_bit p) ≡ false) where
    line-driven : bit (pins_at d 2) (line_bit p) ≡ differs (bit (value_at d 2) (line_bit p)) (bit (port_at d 2).polarity (line_bit p))
    unfolding pins_at pins_of pin_bit
    line-driven = bit_byte_lem _ (line_bit p) line_small ∙ (simp (on, line-out, line-special, z))

    pub line-pin : line_pin d p ≡ line_at d p
    unfolding line_pin line_at level_of
    line-pin = bit_byte_lem _ (line_bit p) line_small ∙ (simp line-driven (twice _ _))

  -- ACKIN is heeded only with Port C enabled, and so are the pins
  pub seen-pin : (f : Device) → bit (port_at d 2).special (line_bit p) ≡ false → So (acknowledges d f p) → line_pin d p ≡ line_at d p
  unfolding acknowledges heeded
  seen-pin f z a =
      let fell = rises (bit (path_at f 2) (ackin_bit p)) (bit (path_at d 2) (ackin_bit p)) in
      line-pin (right (port_enabled d p) (port_enabled d 2) (left (heeded d p) (heeded f p) (left (heeded d p && heeded f p) fell a))) z

-- ---- the byte of an output port that holds one
module _ (d : Device) (p : ℕ) (l : p < 2) (o : So (outputs (pattern_at d p))) (on : port_enabled d p ≡ true)
    (z : (port_at d p).special ≡ 0) where
  pins-bits : (k : ℕ) → k < 8 → differs (bit (pins_at d p) k) (bit (port_at d p).polarity k) ≡ bit (port_at d p).output k
  pins-bits k h =
      ap (λ (b : Bool). differs b (bit (port_at d p).polarity k)) (pins-shown d p o l k h on (ap (λ (n : ℕ). bit n k) z ∙ no-bit k h))
      ∙ twice (bit (port_at d p).output k) (bit (port_at d p).polarity k)

  pub byte-shown : (port_at d p).output < 256 → level_of (port_at d p) (pins_at d p) ≡ read_of d (Data p)
  unfolding level_of read_of
  byte-shown h = byte-of _ _ pins-bits ∙ byte-bits (port_at d p).output h ∙ sym (data-register d p o l h)

-- ---- one event, at the pins and by what is put out
module _ (p : ℕ) (l : p < 2) (d : Device) (shaken : handshakes (pattern_at d p) ≡ true) (e : Event) (driven : Driven p d) where
  pub strobed-pins : strobed_at_pins p d e ≡ strobed_by p d e
  unfolding strobed_at_pins strobed_by
  strobed-pins =
      same_byte _ _ _ _
      (where-so (line_pin d p) (line_at d p) (acknowledges d (after d e) p) (seen-pin d p l shaken (after d e) driven.0)) (λ _. refl)

  module _ (k : Shaped d) (s : sound_of d ≡ true) (on : port_enabled d p ≡ true) (o : So (outputs (pattern_at d p)))
      (h : HoldsBytes p d) where
    -- DAV shown, a byte is held, and it is the one in the data register
    put_small : line_at d p ≡ false → (port_at d p).output < 256
    put_small z =
        let some = available-held d p o (sym (line-shown d k p l shaken) ∙ z) in
        subst (λ (n : ℕ). n < 256) (sym (((sound-parts d s).base.transfers p l).put o some)) (front-byte d s p l h some)

    pub acknowledged-pins : acknowledged_at_pins p d e ≡ acknowledged_by p d e
    unfolding acknowledged_at_pins acknowledged_by
    acknowledged-pins =
        let fell = acknowledges d (after d e) p in
        same_byte _ _ _ _
        (where-so (not (line_pin d p)) (not (line_at d p)) fell (λ a. ap not (seen-pin d p l shaken (after d e) driven.0 a)))
        (λ t. byte-shown d p l o on driven.1 (put_small (not_so (line_at d p) (left (not (line_at d p)) fell t))))
