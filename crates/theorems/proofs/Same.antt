-- Of two records of the device's shape the test `same_of` decides whether they are equal.
-- Assumes nothing.
use Prim.Native.Nat.{ℕ, ◌<◌}
use mathlib.Core.Path.{◌≡◌, sym, subst, ◌∙◌}
use mathlib.Core.Bool.{true, beq, So}
use mathlib.Core.List.{List, [], ◌∷◌}
use lib.Dec.{eqb}
use lib.ListN.{length, get_or}
use lib.Seq.{ext_get_or}
use borrow.Author.Tests.{eqb-true}
use Rattle.rules.specs.declared.Device.{Device}
use Rattle.rules.specs.Record.{Shaped, vector_at, port_at, pattern_at, transfer_at, counter_at, source_at, quiet, idle, bare, blank, vacant}
use Rattle.rules.specs.Sound.{same_source, same_counter, same_port, same_pattern, same_transfer, same_sources, same_counters, same_ports, same_patterns, same_transfers, same_vectors, same_lines, same_of}
use Rattle.basics.proofs.Tabled.{tabled}
use Rattle.basics.proofs.Tests.{each}
use Rattle.basics.proofs.Places.{each2, each3, each5}
use Rattle.theorems.proofs.Equal.{beq-true, beq-refl, eqb_same, same_source_lem, same-counter, same-port, same-pattern, same-transfer, same_lines_lem}
use Rattle.theorems.proofs.Equal.{source-same, counter-same, port-same, pattern-same, transfer-same, lines_same}

pub same_refl : (d : Device) → same_of d d ≡ true
unfolding same_of same_vectors same_ports same_patterns same_transfers same_counters same_sources
same_refl d = simp (eqb_same, beq-refl, source-same, counter-same, port-same, pattern-same, transfer-same, lines_same)

-- lists of n elements that are equal at each place
lists : {A : Type 0} (n : ℕ) (l m : List A) (x : A) → length l ≡ n → length m ≡ n → ((i : ℕ) → i < n → get_or l i x ≡ get_or m i x) → l ≡ m
lists n l m x p q f = ext_get_or x l m (p ∙ sym q) (λ i h. f i (subst (λ (k : ℕ). i < k) p h))

module _ (d e : Device) where
  vectors-are : So (same_vectors d e) → (v : ℕ) → v < 3 → vector_at d v ≡ vector_at e v
  unfolding same_vectors
  vectors-are h =
      let part = each (eqb (vector_at d 0) (vector_at e 0) ∷ eqb (vector_at d 1) (vector_at e 1) ∷ eqb (vector_at d 2) (vector_at e 2) ∷ []) h in
      each3 (λ v. vector_at d v ≡ vector_at e v) (eqb-true _ _ (part 0)) (eqb-true _ _ (part 1)) (eqb-true _ _ (part 2))

  ports-are : So (same_ports d e) → (p : ℕ) → p < 3 → port_at d p ≡ port_at e p
  unfolding same_ports
  ports-are h =
      let part = each (same_port (port_at d 0) (port_at e 0) ∷ same_port (port_at d 1) (port_at e 1) ∷ same_port (port_at d 2) (port_at e 2) ∷ []) h in
      each3 (λ p. port_at d p ≡ port_at e p) (same-port _ _ (part 0)) (same-port _ _ (part 1)) (same-port _ _ (part 2))

  patterns-are : So (same_patterns d e) → (p : ℕ) → p < 2 → pattern_at d p ≡ pattern_at e p
  unfolding same_patterns
  patterns-are h =
      let part = each (same_pattern (pattern_at d 0) (pattern_at e 0) ∷ same_pattern (pattern_at d 1) (pattern_at e 1) ∷ []) h in
      each2 (λ p. pattern_at d p ≡ pattern_at e p) (same-pattern _ _ (part 0)) (same-pattern _ _ (part 1))

  transfers-are : So (same_transfers d e) → (p : ℕ) → p < 2 → transfer_at d p ≡ transfer_at e p
  unfolding same_transfers
  transfers-are h =
      let part = each (same_transfer (transfer_at d 0) (transfer_at e 0) ∷ same_transfer (transfer_at d 1) (transfer_at e 1) ∷ []) h in
      each2 (λ p. transfer_at d p ≡ transfer_at e p) (same-transfer _ _ (part 0)) (same-transfer _ _ (part 1))

  counters-are : So (same_counters d e) → (i : ℕ) → i < 3 → counter_at d i ≡ counter_at e i
  unfolding same_counters
  counters-are h =
      let part = each (tabled (λ i. same_counter (counter_at d i) (counter_at e i)) 0 3) h in
      each3 (λ i. counter_at d i ≡ counter_at e i) (same-counter _ _ (part 0)) (same-counter _ _ (part 1)) (same-counter _ _ (part 2))

  sources-are : So (same_sources d e) → (k : ℕ) → k < 5 → source_at d k ≡ source_at e k
  unfolding same_sources
  sources-are h =
      let part = each (tabled (λ k. same_source (source_at d k) (source_at e k)) 0 5) h in
      each5 (λ k. source_at d k ≡ source_at e k) (same_source_lem _ _ (part 0)) (same_source_lem _ _ (part 1)) (same_source_lem _ _ (part 2)) (same_source_lem _ _ (part 3))
      (same_source_lem _ _ (part 4))

  pub same-is : Shaped d → Shaped e → same_of d e ≡ true → d ≡ e
  unfolding same_of
  same-is s t h =
      let part =
      each
      (eqb d.version e.version ∷ eqb d.master e.master ∷ eqb d.config e.config
      ∷ same_vectors d e ∷ same_ports d e ∷ same_patterns d e ∷ same_transfers d e ∷ same_counters d e ∷ same_sources d e
      ∷ beq d.iei e.iei ∷ beq d.phase e.phase ∷ same_lines d.lines e.lines ∷ [])
      h in
      let vectors = lists 3 d.vectors e.vectors 0 s.vectors t.vectors (vectors-are (part 3)) in
      let ports = lists 3 d.ports e.ports (bare 0) s.ports t.ports (ports-are (part 4)) in
      let patterns = lists 2 d.patterns e.patterns blank s.patterns t.patterns (patterns-are (part 5)) in
      let transfers = lists 2 d.transfers e.transfers vacant s.transfers t.transfers (transfers-are (part 6)) in
      let counters = lists 3 d.counters e.counters idle s.counters t.counters (counters-are (part 7)) in
      let sources = lists 5 d.sources e.sources quiet s.sources t.sources (sources-are (part 8)) in
      λ i.
      record {
        version = eqb-true d.version e.version (part 0) i;
        master = eqb-true d.master e.master (part 1) i;
        config = eqb-true d.config e.config (part 2) i;
        vectors = vectors i;
        ports = ports i;
        patterns = patterns i;
        transfers = transfers i;
        counters = counters i;
        sources = sources i;
        iei = beq-true d.iei e.iei (part 9) i;
        phase = beq-true d.phase e.phase (part 10) i;
        lines = same_lines_lem d.lines e.lines (part 11) i;
      }
