-- Where no port has a handshake, each has its own settings in effect, and Port C has no lines.
-- Assumes nothing.
use Prim.Native.Nat.{ℕ, zero, suc, ◌-◌, ◌/◌, ◌≤◌, ◌<◌}
use mathlib.Core.Path.{◌≡◌, refl, sym, ap}
use mathlib.Core.Bool.{Bool, true, false, ◌||◌, beq, cond, true≢false, and-false, or-false}
use mathlib.Core.List.{List}
use native.Mathlib.Omega.{arith}
use lib.Dec.{eqb}
use borrow.Author.Tests.{ne_eqb}
use lib.ListN.{length, get_or, get_or-eq_default}
use Rattle.rules.specs.declared.Device.{Device}
use Rattle.rules.specs.Record.{blank, port_at, pattern_at}
use Rattle.rules.specs.Handshakes.{inputs, outputs, handshakes, is_line}
use Rattle.rules.specs.declared.Port.{Port}
use Rattle.rules.specs.PortData.{pin_bit, path_bit, pins_of, path_of, direction_at, special_at, effective_at, standing, lined, value_at}
use Rattle.basics.specs.Byte.{bit}
use Rattle.basics.proofs.Truth.{all6, same}
use Rattle.basics.proofs.Laws.{byte-of, bit_byte_lem, byte-lt, by_bits}
use Rattle.levels.specs.Outputs.{with_outputs}

pub neither : (a b : Bool) → (a || b) ≡ false → (a ≡ false) × (b ≡ false)
neither true b h = (h, absurd (true≢false h))
neither false b h = (refl, h)

-- a list of two, read past its end
pub past : {A : Type 0} (x : A) (l : List A) → length l ≡ 2 → (p : ℕ) → 2 ≤ p → get_or l p x ≡ x
past x l h p g = get_or-eq_default l x {n = p} (omega arith)

-- one of two that are the same
either : (t : Bool) (x y : ℕ) → x ≡ y → cond t x y ≡ y
either true x y e = e
either false x y e = refl

-- an input's pin shows the outside level, so a path value needs no other pin
path-bit : (e i s p v o : Bool) → path_bit i (pin_bit e i s p v o) p v ≡ path_bit i o p v
unfolding pin_bit path_bit
path-bit e i s p v o = same _ _ (all6 (λ e i s p v o. beq (path_bit i (pin_bit e i s p v o) p v) (path_bit i o p v)) tt e i s p v o)

pub path-outside : (e : Bool) (q : Port) (v : ℕ) → path_of q (pins_of e q v) v ≡ path_of q q.outside v
unfolding path_of pins_of
path-outside e q v =
    byte-of _ _
    (λ k h.
    simp (bit_byte_lem (λ k. pin_bit e (bit q.direction k) (bit q.special k) (bit q.polarity k) (bit v k) (bit q.outside k)) k h)
    (path-bit e (bit q.direction k) (bit q.special k) (bit q.polarity k) (bit v k) (bit q.outside k)))

-- the first two of three, and the last
pub of_two : (p x y z w : ℕ) → p < 2 → cond (eqb p 0) x (cond (eqb p 1) y z) ≡ cond (eqb p 0) x (cond (eqb p 1) y w)
of_two zero x y z w h = refl
of_two (suc zero) x y z w h = refl
of_two (suc (suc p)) x y z w h = absurd (omega arith)

pub past_two : (p : ℕ) → 2 ≤ p → (eqb p 0 ≡ false) × (eqb p 1 ≡ false)
past_two p h = (ne_eqb p 0 (λ (e : p ≡ 0). omega arith), ne_eqb p 1 (λ (e : p ≡ 1). omega arith))

third : (a b : Bool) (x y z w : ℕ) → z ≡ w → cond a x (cond b y z) ≡ cond a x (cond b y w)
third a b x y z w e = ap (λ (n : ℕ). cond a x (cond b y n)) e

module _ (d : Device) (none : (handshakes (pattern_at d 0) || handshakes (pattern_at d 1)) ≡ false) (two : length d.patterns ≡ 2) where
  without : (p : ℕ) → handshakes (pattern_at d p) ≡ false
  without zero = (neither (handshakes (pattern_at d 0)) (handshakes (pattern_at d 1)) none).0
  without (suc zero) = (neither (handshakes (pattern_at d 0)) (handshakes (pattern_at d 1)) none).1
  without (suc (suc p)) = ap handshakes (past blank d.patterns two (suc (suc p)) (omega arith))

  plain : (p : ℕ) → (inputs (pattern_at d p) ≡ false) × (outputs (pattern_at d p) ≡ false)
  plain p = neither (inputs (pattern_at d p)) (outputs (pattern_at d p)) (without p)

  unlined : (k : ℕ) → is_line d k ≡ false
  unfolding is_line
  unlined k = simp (without (1 - k / 2), and-false)

  pub lined-own : (x : ℕ) → x < 256 → x ≡ lined d x
  unfolding lined
  lined-own x h = by_bits x _ h (λ k g. simp (unlined k))

  direction-own : (p : ℕ) → (port_at d p).direction < 256 → direction_at d p ≡ (port_at d p).direction
  unfolding direction_at
  direction-own p h = simp ((plain p).0, (plain p).1) (either (eqb p 2) _ (port_at d p).direction (sym (by_bits _ _ h (λ k g. simp (unlined k)))))

  special-own : (p : ℕ) → (port_at d p).special < 256 → special_at d p ≡ (port_at d p).special
  unfolding special_at
  special-own p h = simp (plain p).0 (either (eqb p 2) _ (port_at d p).special (sym (by_bits _ _ h (λ k g. simp (unlined k)))))

  pub effective-own : (p : ℕ) → (port_at d p).direction < 256 → (port_at d p).special < 256 → port_at d p ≡ effective_at d p
  effective-own p hd hs = simp (direction-own p hd, special-own p hs)

  pub value-own : (p : ℕ) → with_outputs d p (port_at d p).output ≡ value_at d p
  unfolding with_outputs value_at standing
  value-own p = simp ((plain p).1, or-false) (third (eqb p 0) (eqb p 1) _ _ _ _ (lined-own _ (byte-lt _)))
