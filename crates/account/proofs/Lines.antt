-- The lines of a port with handshake, as the outside sees them: RFD or DAV shows what the port offers, ACKIN is the path value, and the
-- byte at the pins of an input port is the one that it takes.
-- Assumes nothing.
use Prim.Native.Nat.{ℕ, ◌<◌}
use mathlib.Core.Path.{◌≡◌, refl, ap, ◌∙◌}
use mathlib.Core.Bool.{Bool, true, false, not, ◌&&◌, ◌||◌, So, not-not, and-false, or-true}
use native.Mathlib.Omega.{arith}
use lib.Dec.{eqb, ltb, lit<}
use lib.ListN.{get_or-eq_default}
use borrow.Author.Tests.{ne_eqb}
use Rattle.rules.specs.declared.Device.{Device}
use Rattle.rules.specs.declared.Pattern.{Pattern}
use Rattle.rules.specs.declared.Port.{Port}
use Rattle.basics.specs.Byte.{bit, differs, rises, byte_of}
use Rattle.rules.specs.Record.{Shaped, port_at, pattern_at, transfer_at, blank}
use Rattle.rules.specs.Registers.{port_enabled}
use Rattle.rules.specs.Handshakes.{inputs, outputs, handshakes, strobed, depth, ready_of, is_line, ackin_at, available_of, offers_at, shown_at}
use Rattle.rules.specs.PortData.{pin_bit, path_bit, pins_of, path_of, level_of, direction_at, lined, value_at, pins_at, path_at}
use Rattle.rules.specs.Moves.{can_move}
use Rattle.basics.proofs.Laws.{ones, byte-of, bit_byte_lem}
use Rattle.basics.proofs.Tests.{left, right}
use Rattle.basics.proofs.Places.{each2}
use Rattle.theorems.proofs.Parts.{no-input}
use Rattle.theorems.proofs.Effective.{ackin-path}
use Rattle.account.specs.Account.{line_at, heeded, acknowledges}
use Rattle.account.proofs.Kept.{Alike}

-- ---- RFD or DAV
-- port C has no pattern
no_third : (d : Device) → Shaped d → outputs (pattern_at d 2) ≡ false
no_third d k = ap (λ (q : Pattern). outputs q) (get_or-eq_default d.patterns blank (omega (arith, k.patterns)))

pub line-shown : (d : Device) → Shaped d → (p : ℕ) → p < 2 → handshakes (pattern_at d p) ≡ true → line_at d p ≡ shown_at d p
unfolding line_at value_at lined is_line
line-shown d k =
    each2 (λ p. handshakes (pattern_at d p) ≡ true → line_at d p ≡ shown_at d p)
    (λ h. simp (no_third d k) (bit_byte_lem _ 3 (lit< tt) ∙ (simp h)))
    (λ h. simp (no_third d k) (bit_byte_lem _ 1 (lit< tt) ∙ (simp h)))

-- so RFD is 1, or DAV 0, exactly when the port offers to take or to give a byte
module _ (d : Device) (k : Shaped d) (p : ℕ) (l : p < 2) where
  pub ready-line : So (inputs (pattern_at d p)) → line_at d p ≡ offers_at d p
  unfolding shown_at
  ready-line i = line-shown d k p l (simp i) ∙ (simp i)

  pub available-line : So (outputs (pattern_at d p)) → not (line_at d p) ≡ offers_at d p
  unfolding shown_at
  available-line o = ap not (line-shown d k p l (simp (o, or-true))) ∙ (simp (no-input (pattern_at d p) o) (not-not (offers_at d p)))

-- where it offers to, it can
offers-by : (d : Device) (p : ℕ) (i : Bool) → inputs (pattern_at d p) ≡ i → So (offers_at d p) → So (can_move (pattern_at d p) (transfer_at d p))
unfolding offers_at can_move ready_of available_of
offers-by d p true e h =
    let t = transfer_at d p in
    let room = ltb t.bytes (depth (pattern_at d p)) in
    simp e (right (port_enabled d p) room (left (port_enabled d p && room) (not t.unfinished) (simp e at h)))
offers-by d p false e h =
    let t = transfer_at d p in
    let some = not (eqb t.bytes 0) in
    let when = strobed (pattern_at d p) || (not t.unfinished && ackin_at d p) in
    simp e (right (port_enabled d p) some (left (port_enabled d p && some) when (simp e at h)))

pub offers-can : (d : Device) (p : ℕ) → So (offers_at d p) → So (can_move (pattern_at d p) (transfer_at d p))
offers-can d p = offers-by d p _ refl

-- ---- ACKIN
pub no-rise : (b : Bool) → rises b b ≡ false
no-rise true = refl
no-rise false = refl

pub ackin-alike : {d e : Device} (p : ℕ) → Alike d e → ackin_at e p ≡ ackin_at d p
unfolding ackin_at
ackin-alike p a = simp (a.outside 2 (lit< tt), a.polarity 2 (lit< tt))

module _ (p : ℕ) (l : p < 2) (d f : Device) (before : handshakes (pattern_at d p) ≡ true) (now : handshakes (pattern_at f p) ≡ true) where
  pub acknowledges-by : acknowledges d f p ≡ (heeded d p && heeded f p && rises (ackin_at f p) (ackin_at d p))
  unfolding acknowledges
  acknowledges-by = simp (← (ackin-path d p l before), ← (ackin-path f p l now))

  -- where the levels stay, none is acknowledged
  pub unacknowledged : Alike d f → acknowledges d f p ≡ false
  unacknowledged a = acknowledges-by ∙ (simp (ackin-alike p a, no-rise (ackin_at d p), and-false))

-- ---- what comes in at the pins of an input port: the outside levels XOR polarity
abbrev pub arriving : Port → ℕ
arriving q = byte_of (λ k. differs (bit q.outside k) (bit q.polarity k))

module _ (d : Device) (p : ℕ) (l : p < 2) (i : So (inputs (pattern_at d p))) where
  inward : (k : ℕ) → k < 8 → bit (direction_at d p) k ≡ true
  unfolding direction_at
  inward k h = simp (ne_eqb p 2 (λ e. omega (arith, l, e)), i) (ones k h)

  pin-outside : (k : ℕ) → k < 8 → bit (pins_at d p) k ≡ bit (port_at d p).outside k
  unfolding pins_at pins_of pin_bit
  pin-outside k h = bit_byte_lem _ k h ∙ (simp (inward k h, and-false))

  pub path-arriving : path_at d p ≡ arriving (port_at d p)
  unfolding path_at path_of path_bit
  path-arriving = byte-of _ _ (λ k h. simp (inward k h, pin-outside k h))

  pub level-arriving : level_of (port_at d p) (pins_at d p) ≡ arriving (port_at d p)
  unfolding level_of
  level-arriving = byte-of _ _ (λ k h. simp (pin-outside k h))

pub arriving-alike : {d e : Device} (p : ℕ) → p < 2 → Alike d e → arriving (port_at e p) ≡ arriving (port_at d p)
arriving-alike p l a = simp (a.outside p (omega (arith, l)), a.polarity p (omega (arith, l)))
