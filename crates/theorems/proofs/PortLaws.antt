-- What keeps port C to four bits, and what the catchers and a pattern are after their turn in a step.
-- Assumes nothing.
use Prim.Native.Nat.{ℕ, ◌+◌, ◌*◌, ◌/◌, ◌%◌, ◌^◌, ◌<◌}
use mathlib.Core.Path.{◌≡◌, ap}
use mathlib.Core.Bool.{Bool, true, false, ◌&&◌, ◌||◌, beq, So}
use native.Mathlib.Nat.{mod-lt}
use native.Mathlib.Omega.{arith}
use lib.Dec.{eqb, ltb, lit<, ltb→lt}
use Rattle.rules.specs.declared.Device.{Device}
use Rattle.rules.specs.declared.Port.{Port}
use Rattle.basics.specs.Byte.{bit, num, byte_of}
use Rattle.rules.specs.Record.{port_at}
use Rattle.rules.specs.Registers.{kept}
use Rattle.rules.specs.Handshakes.{is_line}
use Rattle.rules.specs.With.{with_catcher, with_polarity, with_direction, with_special, with_outside}
use Rattle.rules.specs.PortData.{catches, caught_bit, catches_at, caught_of, direction_at, output_bit, cleared_bit, put_of, unprotected, written_data}
use Rattle.rules.specs.Sound.{only, catcher_only, catcher_set, sound_port}
use Rattle.basics.proofs.Truth.{all3, all4, same}
use Rattle.basics.proofs.Laws.{bit_byte_lem}
use Rattle.basics.proofs.Tests.{so-both, so-every}
use Rattle.theorems.proofs.Parts.{FourBits}

-- ---- bytes of four bits
record Upper (f : ℕ → Bool) : Type 0 where
  four : f 4 ≡ false
  five : f 5 ≡ false
  six : f 6 ≡ false
  seven : f 7 ≡ false

none : (n : ℕ) → n ≡ 0 → eqb (n % 2) 1 ≡ false
none n e = ap (λ (n : ℕ). eqb (n % 2) 1) e

upper-off : (x : ℕ) → x < 16 → Upper (bit x)
upper-off x h =
    record {
      four = none (x / 2 ^ 4) (omega arith);
      five = none (x / 2 ^ 5) (omega arith);
      six = none (x / 2 ^ 6) (omega arith);
      seven = none (x / 2 ^ 7) (omega arith);
    }

byte-four : (f : ℕ → Bool) → Upper f → byte_of f < 16
unfolding byte_of
byte-four f u =
    simp (u.four, u.five, u.six, u.seven)
    (ltb→lt _ _ (all4 (λ a b c d. ltb (num a + 2 * num b + 4 * num c + 8 * num d + 16 * 0 + 32 * 0 + 64 * 0 + 128 * 0) 16) tt (f 0) (f 1) (f 2) (f 3)))

pub kept-four : (b : ℕ) → kept 2 b < 16
unfolding kept
kept-four b = mod-lt b (lit< tt)

pub polarity-four : (q : Port) (n : ℕ) → n < 16 → FourBits q → FourBits (with_polarity q n)
polarity-four q n l h =
    record { polarity = l; direction = h.direction; special = h.special; output = h.output; outside = h.outside; catcher = h.catcher }

pub direction-four : (q : Port) (n : ℕ) → n < 16 → FourBits q → FourBits (with_direction q n)
direction-four q n l h =
    record { polarity = h.polarity; direction = l; special = h.special; output = h.output; outside = h.outside; catcher = h.catcher }

pub special-four : (q : Port) (n : ℕ) → n < 16 → FourBits q → FourBits (with_special q n)
special-four q n l h =
    record { polarity = h.polarity; direction = h.direction; special = l; output = h.output; outside = h.outside; catcher = h.catcher }

pub outside-four : (q : Port) (n : ℕ) → n < 16 → FourBits q → FourBits (with_outside q n)
outside-four q n l h =
    record { polarity = h.polarity; direction = h.direction; special = h.special; output = h.output; outside = l; catcher = h.catcher }

catcher-four : (q : Port) (n : ℕ) → n < 16 → FourBits q → FourBits (with_catcher q n)
catcher-four q n l h =
    record { polarity = h.polarity; direction = h.direction; special = h.special; output = h.output; outside = h.outside; catcher = l }

-- "Port C data: D7-D4 protect D3-D0": nothing reaches its upper bits
pub data-four : (q : Port) (direction b : ℕ) → FourBits q → FourBits (written_data q direction 2 b)
unfolding written_data put_of unprotected output_bit cleared_bit
data-four q direction b h =
    let o = upper-off q.output h.output in
    let c = upper-off q.catcher h.catcher in
    record {
      polarity = h.polarity;
      direction = h.direction;
      special = h.special;
      output = byte-four _ (record { four = o.four; five = o.five; six = o.six; seven = o.seven });
      outside = h.outside;
      catcher = byte-four _ (record { four = simp c.four; five = simp c.five; six = simp c.six; seven = simp c.seven });
    }

-- ---- (e): the catchers
-- a bit that is no input has no catcher
no-input : (e s c p : Bool) → caught_bit (catches e false s) c p ≡ false
unfolding caught_bit catches
no-input e s c p = same _ _ (all4 (λ e s c p. beq (e && false && s && (c || p)) false) tt e s c p)

-- direction in effect, as the port's own
pub effective-four : (d : Device) → FourBits (port_at d 2) → direction_at d 2 < 16
unfolding direction_at is_line
effective-four d h =
    let u = upper-off (port_at d 2).direction h.direction in
    byte-four _ (record { four = u.four; five = u.five; six = u.six; seven = u.seven })

-- the port q, of which r has the direction in effect
pub caught-four : (e : Bool) (q r : Port) (path : ℕ) → r.direction < 16 → FourBits q → FourBits (with_catcher q (caught_of e r path))
unfolding caught_of catches_at
caught-four e q r path l h =
    let u = upper-off r.direction l in
    catcher-four q _
    (byte-four _ (record { four = simp (u.four, no-input); five = simp (u.five, no-input); six = simp (u.six, no-input); seven = simp (u.seven, no-input) })) h

-- a disabled port has none
pub caught-off : (e : Bool) (q : Port) (path : ℕ) → e ≡ false → caught_of e q path ≡ 0
unfolding caught_of catches_at catches caught_bit byte_of
caught-off e q path p = simp p

-- whatever stood there, the catchers stand only where allowed, and where the path is 1
caught-only : (t c p : Bool) → So (only (caught_bit t c p) t)
unfolding caught_bit
caught-only t c p = same _ true (all3 (λ t c p. beq (only (t && (c || p)) t) true) tt t c p)

caught-set : (t c p : Bool) → So (only (t && p) (caught_bit t c p))
unfolding caught_bit
caught-set t c p = same _ true (all3 (λ t c p. beq (only (t && p) (t && (c || p))) true) tt t c p)

pub caught-sound : (e : Bool) (q : Port) (path : ℕ) → So (sound_port e (with_catcher q (caught_of e q path)) path)
unfolding sound_port catcher_only catcher_set caught_of catches_at
caught-sound e q path =
    let f : ℕ → Bool = λ k. caught_bit (catches_at e q k) (bit q.catcher k) (bit path k) in
    so-both
    (so-every _ (λ k l. simp (bit_byte_lem f k l) (caught-only (catches_at e q k) (bit q.catcher k) (bit path k))))
    (so-every _ (λ k l. simp (bit_byte_lem f k l) (caught-set (catches_at e q k) (bit q.catcher k) (bit path k))))
