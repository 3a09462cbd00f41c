-- The direct effect of a write keeps a port as it is, but for the writes that reset it, disable it or set it up again, and for a byte
-- that an output port stores.
-- Assumes nothing.
use Rattle.std.specs.Prelude.{◌==◌}
use Prim.Native.Nat.{ℕ, ◌+◌, ◌*◌, ◌<◌}
use mathlib.Core.Path.{◌≡◌, refl, sym, ap, subst, ◌∙◌}
use mathlib.Core.Bool.{Bool, true, false, not, ◌&&◌, ◌||◌, beq, So}
use native.Mathlib.Omega.{arith}
use lib.Dec.{T, ltb, lit<}
use lib.Seq.{get_or-set_other}
use borrow.Author.Tests.{eq-eqb, eqb-false, ltb-true, ltb-false, ne_eqb, not-false}
use Rattle.rules.specs.declared.Device.{Device}
use Rattle.rules.specs.declared.Pattern.{Pattern}
use Rattle.rules.specs.declared.Port.{Port}
use Rattle.rules.specs.declared.Transfer.{Transfer}
use Rattle.rules.specs.declared.Kind.{Kind}
use Rattle.rules.specs.declared.Kind.TheVariants.{Master, Config, Vector, Polarity, Direction, Special, PortCommand, CounterCommand}
use Rattle.rules.specs.declared.Kind.TheVariants.{Data, Current, Constant, CounterMode, CurrentVector, PortMode, Handshake, PatternPolarity, Transition, Mask, Absent}
use Rattle.basics.specs.Byte.{bit}
use Rattle.rules.specs.With.{with_master, with_pair, with_port, with_pattern, with_ioe}
use Rattle.rules.specs.Record.{pattern_at, transfer_at, blank, vacant, reset_of}
use Rattle.rules.specs.Registers.{port_kind, kind_in, kind_of, port_on, port_enabled}
use Rattle.rules.specs.Handshakes.{outputs}
use Rattle.rules.specs.Moves.{stored_at}
use Rattle.rules.specs.Access.{master_written, kept_by, config_written, port_commanded, counter_commanded, data_written, set_up, written_of}
use Rattle.basics.proofs.Truth.{rows, all3, same}
use Rattle.basics.proofs.Laws.{below}
use Rattle.basics.proofs.Tests.{left, never, by-test}
use Rattle.basics.proofs.Places.{each2, set_keeps}
use Rattle.account.proofs.Kept.{Kept, kept_same, alike-kept, stored-alike, stored_other}

-- ---- the writes that a port does not stand: with D0 to 00H (r), without its enable to 01H (n), to its mode and handshake registers;
-- and the data of an output port (o). By kind, and by address.
abbrev pub touches : ℕ → Bool → Bool → Bool → Kind → Bool
touches p r n o Master = r
touches p r n o Config = n
touches p r n o (Vector v) = false
touches p r n o (Polarity q) = false
touches p r n o (Direction q) = false
touches p r n o (Special q) = false
touches p r n o (PortCommand q) = false
touches p r n o (CounterCommand i) = false
touches p r n o (Data q) = q == p && o
touches p r n o (Current i high) = false
touches p r n o (Constant i high) = false
touches p r n o (CounterMode i) = false
touches p r n o CurrentVector = false
touches p r n o (PortMode q) = q == p
touches p r n o (Handshake q) = q == p
touches p r n o (PatternPolarity q) = false
touches p r n o (Transition q) = false
touches p r n o (Mask q) = false
touches p r n o Absent = false

abbrev pub touched : ℕ → Bool → Bool → Bool → ℕ → Bool
touched p r n o a = ((a == 0x00 && r) || (a == 0x01 && n) || a == 0x20 + 8 * p || a == 0x21 + 8 * p) || (a == 0x0D + p && o)

-- they agree at the 48 addresses, which antt computes, and past them
agree_at : (p : ℕ) → p < 2 → (t : Bool) (r n o : Bool) (a : ℕ) → ltb a 48 ≡ t → touched p r n o a ≡ touches p r n o (kind_of a)
unfolding kind_of kind_in port_kind
agree_at p l true r n o a h =
    same _ _
    (all3 (λ r n o. beq (touched p r n o a) (touches p r n o (kind_of a)))
    (each2 (λ p. (a : ℕ) → a < 48 → T (rows (λ r. rows (λ n. rows (λ o. beq (touched p r n o a) (touches p r n o (kind_of a)))))))
    (below (λ a. rows (λ r. rows (λ n. rows (λ o. beq (touched 0 r n o a) (touches 0 r n o (kind_of a)))))) 48 tt)
    (below (λ a. rows (λ r. rows (λ n. rows (λ o. beq (touched 1 r n o a) (touches 1 r n o (kind_of a)))))) 48 tt) p l a (ltb-true a 48 h))
    r n o)
agree_at p l false r n o a h =
    let g = ltb-false a 48 h in
    let past : (n : ℕ) → n < 48 → (a == n) ≡ false = λ n l. ne_eqb a n (λ e. omega (arith, g, l, e)) in
    simp
    (h, past 0x00 (lit< tt), past 0x01 (lit< tt), past (0x20 + 8 * p) (omega arith), past (0x21 + 8 * p) (omega arith), past (0x0D + p) (omega arith))

pub agree : (p : ℕ) → p < 2 → (r n o : Bool) (a : ℕ) → touched p r n o a ≡ touches p r n o (kind_of a)
agree p l r n o a = agree_at p l _ r n o a refl

-- ---- any other write keeps the port
module _ (p : ℕ) (l : p < 2) (d : Device) (on : port_enabled d p ≡ true) where
  same-port : (q : ℕ) (r : Port) → Kept p d (with_port d q r)
  same-port q r = kept_same p d (with_port d q r) refl refl refl

  -- another pattern with the port's mode
  same-mode : (q : ℕ) (r : Pattern) → r.mode ≡ (pattern_at d q).mode → (pattern_at (with_pattern d q r) p).mode ≡ (pattern_at d p).mode
  same-mode q r m = set_keeps (λ j s. s.mode ≡ (pattern_at d j).mode) d.patterns q p r blank (λ _. m) refl

  same-pattern : (q : ℕ) (r : Pattern) → r.mode ≡ (pattern_at d q).mode → Kept p d (with_pattern d q r)
  same-pattern q r m = record { set-up = record { enabled = refl; mode = same-mode q r m }; transfer = refl }

  config-kept : (b : ℕ) → not (port_on b p) ≡ false → Kept p d (config_written d b)
  unfolding config_written kept_by
  config-kept b n =
      let still = not-false (port_on b p) n in
      record {
        set-up = record { enabled = still ∙ sym on; mode = refl };
        transfer =
            each2 (λ p. So (port_on b p) → with_pair (transfer_at (config_written d b) p) false ≡ with_pair (transfer_at d p) false) (λ o. simp o)
            (λ o. simp o) p l still;
      }

  command-kept : (q b : ℕ) → Kept p d (port_commanded d q b)
  unfolding port_commanded
  command-kept q b =
      record {
        set-up = record { enabled = refl; mode = same-mode q (with_ioe (pattern_at d q) (bit b 0)) refl };
        transfer = set_keeps (λ j t. with_pair t false ≡ with_pair (transfer_at d j) false) d.transfers q p _ vacant (λ _. refl) refl;
      }

  set-up-kept : (q : ℕ) (r : Pattern) → (q == p) ≡ false → Kept p d (set_up d q r)
  set-up-kept q r z =
      let other : p ≡ q → ⊥ = λ e. eqb-false q p z (sym e) in
      record {
        set-up = record { enabled = refl; mode = ap (λ (s : Pattern). s.mode) (get_or-set_other d.patterns q p r blank other) };
        transfer = ap (λ (t : Transfer). with_pair t false) (get_or-set_other d.transfers q p vacant vacant other);
      }

  -- an output port that stores is another
  stores-other : (q : ℕ) → (q == p && outputs (pattern_at d p)) ≡ false → So (outputs (pattern_at d q)) → p ≡ q → ⊥
  stores-other q z o e = never (simp (eq-eqb q p (sym e)) at z) (subst (λ (j : ℕ). So (outputs (pattern_at d j))) (sym e) o)

  data-kept : (q b : ℕ) → (q == p && outputs (pattern_at d p)) ≡ false → Kept p d (data_written d q b)
  unfolding data_written
  data-kept q b z =
      let o = outputs (pattern_at d q) in
      by-test (Kept p d) (o && port_enabled d q) (stored_at d q b) _
      (λ w. alike-kept p (stored-alike d q b) (stored_other d p q (stores-other q z (left o (port_enabled d q) w)) b)) (λ _. same-port q _)

  pub written-kept : (k : Kind) (b : ℕ) → touches p (bit b 0) (not (port_on b p)) (outputs (pattern_at d p)) k ≡ false
      → Kept p d (written_of d k b)
  unfolding written_of master_written counter_commanded
  written-kept Master b z =
      by-test (Kept p d) (bit b 0) (reset_of d) (with_master d b) (λ r. never z r) (λ _. kept_same p d (with_master d b) refl refl refl)
  written-kept Config b z = config-kept b z
  written-kept (Vector v) b z = kept_same p d _ refl refl refl
  written-kept (Polarity q) b z = same-port q _
  written-kept (Direction q) b z = same-port q _
  written-kept (Special q) b z = same-port q _
  written-kept (PortCommand q) b z = command-kept q b
  written-kept (CounterCommand i) b z = kept_same p d _ refl refl refl
  written-kept (Data q) b z = data-kept q b z
  written-kept (Current i high) b z = kept_same p d _ refl refl refl
  written-kept (Constant i high) b z = kept_same p d _ refl refl refl
  written-kept (CounterMode i) b z = kept_same p d _ refl refl refl
  written-kept CurrentVector b z = kept_same p d _ refl refl refl
  written-kept (PortMode q) b z = set-up-kept q _ z
  written-kept (Handshake q) b z = set-up-kept q _ z
  written-kept (PatternPolarity q) b z = same-pattern q _ refl
  written-kept (Transition q) b z = same-pattern q _ refl
  written-kept (Mask q) b z = same-pattern q _ refl
  written-kept Absent b z = kept_same p d _ refl refl refl
