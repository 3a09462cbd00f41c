-- `sound_of`, but for the stored lines, is true of a record exactly when its parts are sound: the test taken apart, and put together.
-- Assumes nothing.
use Prim.Native.Nat.{ℕ, ◌<◌}
use mathlib.Core.Path.{◌≡◌, subst}
use mathlib.Core.Bool.{false, not, beq, So}
use mathlib.Core.List.{[], ◌∷◌}
use lib.Dec.{eqb, lit<}
use borrow.Author.Tests.{eqb-true, eq-eqb}
use Rattle.rules.specs.declared.Device.{Device}
use Rattle.rules.specs.declared.Port.{Port}
use Rattle.rules.specs.With.{with_lines}
use Rattle.rules.specs.Record.{vector_at, port_at, pattern_at, transfer_at, counter_at, source_at, quiet, idle, bare, blank, vacant, of_port, reset_of}
use Rattle.rules.specs.Registers.{reset, port_enabled, counter_enabled, later_config, later_counter_mode}
use Rattle.rules.specs.Sound.{four_bits, later_port, no_later, sound_source, sound_counter, pmf_only, sound_sources, sound_counters, sound_port_at, sound_ports}
use Rattle.rules.specs.Sound.{sound_patterns, sound_transfer_at, sound_transfers, reset_only, sound_version, sound_but_lines, sound_lines, sound_of}
use Rattle.rules.specs.Sound.{same_source, same_counter, same_port, same_pattern, same_transfer}
use Rattle.rules.specs.Sound.{same_sources, same_counters, same_ports, same_patterns, same_transfers, same_vectors, same_lines, same_of}
use Rattle.basics.proofs.Tabled.{tabled}
use Rattle.basics.proofs.Tests.{so-both, left, each, so-not, not_so}
use Rattle.basics.proofs.Places.{each2, each3, each5}
use Rattle.theorems.proofs.Equal.{beq-true, beq-refl, eqb_same, same_source_lem, same-counter, same-port, same-pattern, same-transfer}
use Rattle.theorems.proofs.Equal.{source-same, counter-same, port-same, pattern-same, transfer-same, lines_same}
use Rattle.theorems.proofs.Parts.{if-then, only_if, SourceSound, CounterSound, TransferSound, Cleared, Sound}
use Rattle.theorems.proofs.Parts.{source_sound, sound-source, counter-sound, sound-counter, four-bits, bits-four, transfer-sound, sound-transfer}

-- ---- under RESET
module _ (d : Device) where
  -- as reset leaves it, with its own lines
  abbrev as_reset : Device
  as_reset = with_lines (reset_of d) d.lines

  cleared-of : So (same_of d as_reset) → Cleared d
  unfolding same_of reset_of same_vectors same_ports same_patterns same_transfers same_counters same_sources
  cleared-of h =
      let r = as_reset in
      let part =
      each
      (eqb d.version d.version ∷ eqb d.master 1 ∷ eqb d.config 0
      ∷ same_vectors d r ∷ same_ports d r ∷ same_patterns d r ∷ same_transfers d r ∷ same_counters d r ∷ same_sources d r
      ∷ beq d.iei d.iei ∷ beq d.phase false ∷ same_lines d.lines d.lines ∷ [])
      h in
      let vector = each (eqb (vector_at d 0) 0 ∷ eqb (vector_at d 1) 0 ∷ eqb (vector_at d 2) 0 ∷ []) (part 3) in
      let port = each (same_port (port_at d 0) (port_at r 0) ∷ same_port (port_at d 1) (port_at r 1) ∷ same_port (port_at d 2) (port_at r 2) ∷ []) (part 4) in
      let pattern = each (same_pattern (pattern_at d 0) blank ∷ same_pattern (pattern_at d 1) blank ∷ []) (part 5) in
      let transfer = each (same_transfer (transfer_at d 0) vacant ∷ same_transfer (transfer_at d 1) vacant ∷ []) (part 6) in
      let counter = each (same_counter (counter_at d 0) idle ∷ same_counter (counter_at d 1) idle ∷ same_counter (counter_at d 2) idle ∷ []) (part 7) in
      let source =
      each
      (same_source (source_at d 0) quiet ∷ same_source (source_at d 1) quiet ∷ same_source (source_at d 2) quiet ∷ same_source (source_at d 3) quiet ∷ same_source (source_at d 4) quiet ∷ [])
      (part 8) in
      record {
        master = eqb-true d.master 1 (part 1);
        config = eqb-true d.config 0 (part 2);
        vectors = each3 (λ v. vector_at d v ≡ 0) (eqb-true (vector_at d 0) 0 (vector 0)) (eqb-true (vector_at d 1) 0 (vector 1)) (eqb-true (vector_at d 2) 0 (vector 2));
        ports =
            each3 (λ p. port_at d p ≡ bare (port_at d p).outside)
            (same-port (port_at d 0) (port_at r 0) (port 0)) (same-port (port_at d 1) (port_at r 1) (port 1)) (same-port (port_at d 2) (port_at r 2) (port 2));
        patterns = each2 (λ p. pattern_at d p ≡ blank) (same-pattern (pattern_at d 0) blank (pattern 0)) (same-pattern (pattern_at d 1) blank (pattern 1));
        transfers = each2 (λ p. transfer_at d p ≡ vacant) (same-transfer (transfer_at d 0) vacant (transfer 0)) (same-transfer (transfer_at d 1) vacant (transfer 1));
        counters =
            each3 (λ i. counter_at d i ≡ idle)
            (same-counter (counter_at d 0) idle (counter 0)) (same-counter (counter_at d 1) idle (counter 1)) (same-counter (counter_at d 2) idle (counter 2));
        sources =
            each5 (λ k. source_at d k ≡ quiet)
            (same_source_lem (source_at d 0) quiet (source 0)) (same_source_lem (source_at d 1) quiet (source 1)) (same_source_lem (source_at d 2) quiet (source 2))
            (same_source_lem (source_at d 3) quiet (source 3)) (same_source_lem (source_at d 4) quiet (source 4));
        phase = beq-true d.phase false (part 10);
      }

  same-as : Cleared d → So (same_of d as_reset)
  unfolding same_of reset_of same_vectors same_ports same_patterns same_transfers same_counters same_sources
  same-as h =
      let port : (p : ℕ) → p < 3 → So (same_port (port_at d p) (bare (port_at d p).outside)) =
      λ p l. subst (λ (r : Port). So (same_port (port_at d p) r)) (h.ports p l) (port-same (port_at d p)) in
      so-both
      (so-both
      (so-both
      (so-both
      (so-both
      (so-both
      (so-both
      (so-both
      (so-both
      (so-both (so-both (eqb_same d.version) (eq-eqb d.master 1 h.master)) (eq-eqb d.config 0 h.config))
      (so-both
      (so-both (eq-eqb (vector_at d 0) 0 (h.vectors 0 (lit< tt))) (eq-eqb (vector_at d 1) 0 (h.vectors 1 (lit< tt))))
      (eq-eqb (vector_at d 2) 0 (h.vectors 2 (lit< tt)))))
      (so-both (so-both (port 0 (lit< tt)) (port 1 (lit< tt))) (port 2 (lit< tt))))
      (simp (h.patterns 0 (lit< tt), h.patterns 1 (lit< tt), pattern-same blank)))
      (simp (h.transfers 0 (lit< tt), h.transfers 1 (lit< tt), transfer-same vacant)))
      (simp (h.counters 0 (lit< tt), h.counters 1 (lit< tt), h.counters 2 (lit< tt), counter-same idle)))
      (simp (h.sources 0 (lit< tt), h.sources 1 (lit< tt), h.sources 2 (lit< tt), h.sources 3 (lit< tt), h.sources 4 (lit< tt), source-same quiet)))
      (beq-refl d.iei))
      (simp h.phase))
      (lines_same d.lines)

-- ---- the whole test
pub clauses : (d : Device) → So (sound_but_lines d) → Sound d
unfolding sound_but_lines sound_version no_later sound_sources sound_counters sound_ports sound_patterns sound_transfers sound_transfer_at reset_only
clauses d h =
    let part = each (sound_version d ∷ no_later d ∷ sound_sources d ∷ sound_counters d ∷ sound_ports d ∷ sound_patterns d ∷ sound_transfers d ∷ reset_only d ∷ []) h in
    let mode =
    each
    (not (later_config d.config) ∷ not (later_port d.version (pattern_at d 0)) ∷ not (later_port d.version (pattern_at d 1))
    ∷ tabled (λ i. not (later_counter_mode (counter_at d i).mode)) 0 3)
    (part 1) in
    let source = each (tabled (λ k. sound_source (source_at d k)) 0 5) (part 2) in
    let counter = each (tabled (λ i. sound_counter d.version (counter_enabled d i) (counter_at d i)) 0 3) (part 3) in
    let port = each (four_bits (port_at d 2) ∷ sound_port_at d 0 ∷ sound_port_at d 1 ∷ sound_port_at d 2 ∷ []) (part 4) in
    let pattern = each (pmf_only (port_enabled d 0) (pattern_at d 0) ∷ pmf_only (port_enabled d 1) (pattern_at d 1) ∷ []) (part 5) in
    let transfer = each (sound_transfer_at d 0 ∷ sound_transfer_at d 1 ∷ []) (part 6) in
    record {
      base =
          record {
            version = part 0;
            config = not_so (later_config d.config) (mode 0);
            modes =
                each2 (λ p. later_port d.version (pattern_at d p) ≡ false) (not_so (later_port d.version (pattern_at d 0)) (mode 1)) (not_so (later_port d.version (pattern_at d 1)) (mode 2));
            transfers =
                each2 (λ p. TransferSound (port_enabled d p) (port_at d p).output (pattern_at d p) (source_at d (of_port p)) (transfer_at d p))
                (transfer-sound (transfer 0)) (transfer-sound (transfer 1));
            counters =
                each3 (λ i. CounterSound d.version (counter_enabled d i) (counter_at d i))
                (counter-sound (not_so (later_counter_mode (counter_at d 0).mode) (mode 3)) (counter 0))
                (counter-sound (not_so (later_counter_mode (counter_at d 1).mode) (mode 4)) (counter 1))
                (counter-sound (not_so (later_counter_mode (counter_at d 2).mode) (mode 5)) (counter 2));
            sources =
                each5 (λ k. SourceSound (source_at d k))
                (source_sound (source 0)) (source_sound (source 1)) (source_sound (source 2)) (source_sound (source 3)) (source_sound (source 4));
            four = four-bits (port 0);
            held = λ r. cleared-of d (if-then (reset d) (same_of d (as_reset d)) (part 7) r);
          };
      ports = each3 (λ p. So (sound_port_at d p)) (port 1) (port 2) (port 3);
      patterns = each2 (λ p. So (pmf_only (port_enabled d p) (pattern_at d p))) (pattern 0) (pattern 1);
    }

pub sound-parts : (d : Device) → So (sound_of d) → Sound d
unfolding sound_of
sound-parts d h = clauses d (left (sound_but_lines d) (sound_lines d) h)

pub parts-sound : (d : Device) → Sound d → So (sound_but_lines d)
unfolding sound_but_lines sound_version no_later sound_sources sound_counters sound_ports sound_patterns sound_transfers sound_transfer_at reset_only
parts-sound d h =
    let b = h.base in
    so-both
    (so-both
    (so-both
    (so-both
    (so-both
    (so-both
    (so-both b.version
    (so-both
    (so-both
    (so-both (so-both (so-both (so-not b.config) (so-not (b.modes 0 (lit< tt)))) (so-not (b.modes 1 (lit< tt)))) (so-not (b.counters 0 (lit< tt)).mode))
    (so-not (b.counters 1 (lit< tt)).mode))
    (so-not (b.counters 2 (lit< tt)).mode)))
    (so-both
    (so-both
    (so-both (so-both (sound-source (b.sources 0 (lit< tt))) (sound-source (b.sources 1 (lit< tt)))) (sound-source (b.sources 2 (lit< tt))))
    (sound-source (b.sources 3 (lit< tt))))
    (sound-source (b.sources 4 (lit< tt)))))
    (so-both (so-both (sound-counter (b.counters 0 (lit< tt))) (sound-counter (b.counters 1 (lit< tt)))) (sound-counter (b.counters 2 (lit< tt)))))
    (so-both (so-both (so-both (bits-four b.four) (h.ports 0 (lit< tt))) (h.ports 1 (lit< tt))) (h.ports 2 (lit< tt))))
    (so-both (h.patterns 0 (lit< tt)) (h.patterns 1 (lit< tt))))
    (so-both (sound-transfer (b.transfers 0 (lit< tt))) (sound-transfer (b.transfers 1 (lit< tt)))))
    (only_if (reset d) (same_of d (as_reset d)) (λ r. same-as d (b.held r)))
