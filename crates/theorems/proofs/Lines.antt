-- A counter's lines in a timer clock. The phase is on none of them, so an edge compares the same lines before the step and after (a).
-- The gate line goes by the settings, output register and outside levels of its port, and where a port with handshake shows its line there
-- by what that port holds and its ACKIN; it stays through the step.
-- Assumes nothing.
use Prim.Native.Nat.{ℕ, zero, suc, ◌-◌, ◌/◌, ◌%◌, ◌<◌}
use mathlib.Core.Path.{◌≡◌, refl, sym, ap, ◌∙◌}
use mathlib.Core.Bool.{Bool, true, false, ◌&&◌, cond}
use native.Mathlib.Omega.{arith}
use lib.Dec.{eqb, lit<}
use Rattle.basics.proofs.Laws.{bit_byte_lem}
use Rattle.basics.proofs.Tests.{by-test}
use Rattle.rules.specs.declared.Device.{Device}
use Rattle.rules.specs.declared.Port.{Port}
use Rattle.rules.specs.declared.Counter.{Counter}
use Rattle.basics.specs.Byte.{bit, differs}
use Rattle.rules.specs.Record.{port_at, pattern_at, counter_at}
use Rattle.rules.specs.With.{with_phase, with_catcher, with_direction, with_special}
use Rattle.rules.specs.Registers.{port_on, port_enabled}
use Rattle.rules.specs.Handshakes.{outputs, is_line, ackin_bit, ackin_at, offers_at, shown_at}
use Rattle.rules.specs.PortData.{pin_bit, path_bit, direction_at, special_at, effective_at, standing, lined, value_at, pins_at, path_at}
use Rattle.rules.specs.Step.{lines_at}
use Rattle.theorems.proofs.Effective.{line_kept, direction-kept, special-kept, shown-kept, path-bit}
use Rattle.theorems.proofs.Frame.{Frame}

-- the phase is on no line
pub lines-phase : (d : Device) (v : Bool) (i : ℕ) → lines_at (with_phase d v) i ≡ lines_at d i
unfolding lines_at path_at pins_at value_at direction_at special_at lined is_line shown_at offers_at ackin_at
lines-phase d v i = refl

-- path bit k of a port that puts out v there
line_bit : Bool → Port → Bool → ℕ → Bool
line_bit enabled q v k =
    path_bit (bit q.direction k) (pin_bit enabled (bit q.direction k) (bit q.special k) (bit q.polarity k) v (bit q.outside k))
    (bit q.polarity k) v

-- a counter's output stands at one bit alone
standing-other : (n : ℕ) (c : Counter) (k x j : ℕ) → j < 8 → eqb j k ≡ false → bit (standing n c k x) j ≡ bit x j
unfolding standing
standing-other n c k x j h e = bit_byte_lem _ j h ∙ (simp e)

-- a bit of one of two bytes, by the test
bit-of : (t : Bool) (x y k : ℕ) (v : Bool) → bit y k ≡ v → bit (cond t x y) k ≡ cond t (bit x k) v
bit-of true x y k v e = refl
bit-of false x y k v e = e

-- what C puts out there: a line that is shown, or the output register's bit. (Past the two patterns there is none that has outputs.)
out_bit : Device → ℕ → Bool
out_bit d k =
    cond (outputs (pattern_at d 2)) (bit (port_at d 2).output k) (cond (is_line d k && eqb (k % 2) 1) (shown_at d (1 - k / 2)) (bit (port_at d 2).output k))

module _ (d : Device) (k : ℕ) (h : k < 8) (f : eqb k 0 ≡ false) where
  value-b : eqb k 4 ≡ false → bit (value_at d 1) k ≡ bit (port_at d 1).output k
  unfolding value_at
  value-b e =
      by-test (λ (v : ℕ). bit v k ≡ bit (port_at d 1).output k) (outputs (pattern_at d 1)) _ _ (λ _. refl)
      (λ _. standing-other d.version (counter_at d 0) 4 _ k h e ∙ standing-other d.version (counter_at d 1) 0 (port_at d 1).output k h f)

  line-b : eqb k 4 ≡ false → bit (path_at d 1) k ≡ line_bit (port_enabled d 1) (effective_at d 1) (bit (port_at d 1).output k) k
  unfolding path_at pins_at line_bit
  line-b e =
      path-bit (port_enabled d 1) (effective_at d 1) _ k h ∙ ap (λ (v : Bool). line_bit (port_enabled d 1) (effective_at d 1) v k) (value-b e)

  value-c : bit (value_at d 2) k ≡ out_bit d k
  unfolding value_at lined out_bit
  value-c =
      bit-of (outputs (pattern_at d 2)) _ _ k _
      (bit_byte_lem _ k h
      ∙ ap (λ (v : Bool). cond (is_line d k && eqb (k % 2) 1) (shown_at d (1 - k / 2)) v) (standing-other d.version (counter_at d 2) 0 (port_at d 2).output k h f))

  line-c : bit (path_at d 2) k ≡ line_bit (port_enabled d 2) (effective_at d 2) (out_bit d k) k
  unfolding path_at pins_at line_bit
  line-c = path-bit (port_enabled d 2) (effective_at d 2) _ k h ∙ ap (λ (v : Bool). line_bit (port_enabled d 2) (effective_at d 2) v k) value-c

-- D3 of a byte's halves
high_half : (x : ℕ) → bit (x / 16) 3 ≡ bit x 7
high_half x =
    let e : x / 16 / 8 % 2 ≡ x / 128 % 2 = omega arith in
    ap (λ (y : ℕ). eqb y 1) e

low_half : (x : ℕ) → bit (x % 16) 3 ≡ bit x 3
low_half x =
    let e : x % 16 / 8 % 2 ≡ x / 8 % 2 = omega arith in
    ap (λ (y : ℕ). eqb y 1) e

-- ---- what a frame keeps
module _ (d e : Device) (f : Frame d e) where
  effective-kept : (p : ℕ) → p < 3 → with_catcher (effective_at e p) 0 ≡ with_catcher (effective_at d p) 0
  effective-kept p l =
      let h = f.ports p l in
      let t = direction-kept d e f.modes p (ap (λ (q : Port). q.direction) h) in
      let u = special-kept d e f.modes p (ap (λ (q : Port). q.special) h) in
      λ i. with_special (with_direction (h i) (t i)) (u i)

  bit_kept : (p k : ℕ) (v : Bool) → p < 3 → line_bit (port_enabled e p) (effective_at e p) v k ≡ line_bit (port_enabled d p) (effective_at d p) v k
  unfolding line_bit
  bit_kept p k v l =
      ap (λ (n : ℕ). line_bit (port_on n p) (effective_at e p) v k) f.config
      ∙ ap (λ (q : Port). line_bit (port_enabled d p) q v k) (effective-kept p l)

  out-kept : (k : ℕ) → out_bit e k ≡ out_bit d k
  unfolding out_bit ackin_at
  out-kept k =
      let q = f.ports 2 (lit< tt) in
      let o = ap (λ (q : Port). q.output) q in
      let ackin : (p : ℕ) → ackin_at e p ≡ ackin_at d p =
      λ p. ap (λ (q : Port). differs (bit q.outside (ackin_bit p)) (bit q.polarity (ackin_bit p))) q in
      let shown = shown-kept d e f.modes f.config f.transfers f.handshakes ackin (1 - k / 2) in
      simp (line_kept d e f.modes k, shown, o, f.modes 2)

  kept_b : (k : ℕ) → k < 8 → eqb k 4 ≡ false → eqb k 0 ≡ false → bit (path_at e 1) k ≡ bit (path_at d 1) k
  kept_b k h a b =
      line-b e k h b a ∙ bit_kept 1 k _ (lit< tt)
      ∙ ap (λ (q : Port). line_bit (port_enabled d 1) (effective_at d 1) (bit q.output k) k) (f.ports 1 (lit< tt)) ∙ sym (line-b d k h b a)

  kept-c : (k : ℕ) → k < 8 → eqb k 0 ≡ false → bit (path_at e 2) k ≡ bit (path_at d 2) k
  kept-c k h b =
      line-c e k h b ∙ bit_kept 2 k _ (lit< tt) ∙ ap (λ (v : Bool). line_bit (port_enabled d 2) (effective_at d 2) v k) (out-kept k) ∙ sym (line-c d k h b)

  -- the gate line stays
  pub gate-kept : (i : ℕ) → i < 3 → bit (lines_at e i) 3 ≡ bit (lines_at d i) 3
  unfolding lines_at
  gate-kept zero h = high_half (path_at e 1) ∙ kept_b 7 (lit< tt) refl refl ∙ sym (high_half (path_at d 1))
  gate-kept (suc zero) h = low_half (path_at e 1) ∙ kept_b 3 (lit< tt) refl refl ∙ sym (low_half (path_at d 1))
  gate-kept (suc (suc zero)) h = low_half (path_at e 2) ∙ kept-c 3 (lit< tt) refl ∙ sym (low_half (path_at d 2))
  gate-kept (suc (suc (suc i))) h = absurd (omega arith)
