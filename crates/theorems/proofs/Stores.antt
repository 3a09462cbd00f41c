-- The record with one part replaced: what it keeps of a sound record, and of one as reset leaves it.
-- Assumes nothing.
use Prim.Native.Nat.{ℕ, zero, suc, ◌<◌}
use mathlib.Core.Path.{◌≡◌, refl, ap, subst}
use mathlib.Core.Bool.{Bool, true, false, cond, So}
use mathlib.Core.List.{List, [], ◌∷◌}
use native.Mathlib.Omega.{arith}
use lib.ListN.{get_or, set, length}
use Rattle.rules.specs.declared.Source.{Source}
use Rattle.rules.specs.declared.Counter.{Counter}
use Rattle.rules.specs.declared.Port.{Port}
use Rattle.rules.specs.declared.Pattern.{Pattern}
use Rattle.rules.specs.declared.Transfer.{Transfer}
use Rattle.rules.specs.declared.Device.{Device}
use Rattle.basics.specs.Byte.{bit}
use Rattle.rules.specs.Record.{Shaped, port_at, pattern_at, transfer_at, counter_at, source_at, quiet, idle, bare, blank, vacant, of_port}
use Rattle.rules.specs.With.{with_output, with_ports, with_pattern, with_transfer, with_counter, with_source}
use Rattle.rules.specs.Registers.{reset, port_enabled, counter_enabled}
use Rattle.rules.specs.Moves.{held_at, put_at}
use Rattle.rules.specs.Sound.{later_port}
use Rattle.basics.proofs.Tests.{never}
use Rattle.basics.proofs.Places.{set_keeps, set_gives}
use Rattle.theorems.proofs.Parts.{SourceSound, CounterSound, FourBits, TransferSound, Cleared, Base}
use Rattle.theorems.proofs.TransferLaws.{source-kept}

-- a record as reset leaves it is under RESET
pub awake : {A : Type 0} {d : Device} → reset d ≡ false → Cleared d → A
awake {A} {d} z c = never z (ap (λ (n : ℕ). bit n 0) c.master)

-- a source is one port's
pub one-port : (j p : ℕ) → of_port j ≡ of_port p → j ≡ p
one-port j p e = omega arith

-- two stores at one place keep what holds of both lists place by place, if it holds of what they store
both-keep : {A B : Type 0} (P : ℕ → A → B → Type 0) (l : List A) (m : List B) (i j : ℕ) (v x : A) (w y : B) → i < length l → i < length m
    → P i v w → P j (get_or l j x) (get_or m j y) → P j (get_or (set l i v) j x) (get_or (set m i w) j y)
both-keep P [] m i j v x w y h g p q = absurd (omega arith)
both-keep P (a ∷ l) [] i j v x w y h g p q = absurd (omega arith)
both-keep P (a ∷ l) (b ∷ m) zero zero v x w y h g p q = p
both-keep P (a ∷ l) (b ∷ m) zero (suc j) v x w y h g p q = q
both-keep P (a ∷ l) (b ∷ m) (suc i) zero v x w y h g p q = q
both-keep P (a ∷ l) (b ∷ m) (suc i) (suc j) v x w y h g p q = both-keep (λ k. P (suc k)) l m i j v x w y (omega arith) (omega arith) p q

module _ (d : Device) where
  -- ---- as reset leaves it
  pub cleared-ports : (qs : List Port) → Cleared d
      → ((p : ℕ) → p < 3 → get_or qs p (bare 0) ≡ bare (get_or qs p (bare 0)).outside) → Cleared (with_ports d qs)
  cleared-ports qs h f =
      record {
        master = h.master;
        config = h.config;
        vectors = h.vectors;
        ports = f;
        patterns = h.patterns;
        transfers = h.transfers;
        counters = h.counters;
        sources = h.sources;
        phase = h.phase;
      }

  pub cleared-pattern : (p : ℕ) (q : Pattern) → Cleared d → (pattern_at d p ≡ blank → q ≡ blank) → Cleared (with_pattern d p q)
  cleared-pattern p q h f =
      record {
        master = h.master;
        config = h.config;
        vectors = h.vectors;
        ports = h.ports;
        patterns = λ j l. set_keeps (λ _ r. r ≡ blank) d.patterns p j q blank f (h.patterns j l);
        transfers = h.transfers;
        counters = h.counters;
        sources = h.sources;
        phase = h.phase;
      }

  pub cleared-counter : (i : ℕ) (c : Counter) → Cleared d → (counter_at d i ≡ idle → c ≡ idle) → Cleared (with_counter d i c)
  cleared-counter i c h f =
      record {
        master = h.master;
        config = h.config;
        vectors = h.vectors;
        ports = h.ports;
        patterns = h.patterns;
        transfers = h.transfers;
        counters = λ j l. set_keeps (λ _ e. e ≡ idle) d.counters i j c idle f (h.counters j l);
        sources = h.sources;
        phase = h.phase;
      }

  pub cleared-transfer : (p : ℕ) (t : Transfer) → Cleared d → (transfer_at d p ≡ vacant → t ≡ vacant) → Cleared (with_transfer d p t)
  cleared-transfer p t h f =
      record {
        master = h.master;
        config = h.config;
        vectors = h.vectors;
        ports = h.ports;
        patterns = h.patterns;
        transfers = λ j l. set_keeps (λ _ u. u ≡ vacant) d.transfers p j t vacant f (h.transfers j l);
        counters = h.counters;
        sources = h.sources;
        phase = h.phase;
      }

  -- ---- the base of a step
  -- what port p of the record may hold, with output register o and pattern q; and with its own register
  abbrev pub TransferBy : ℕ → ℕ → Pattern → Transfer → Type 0
  TransferBy p o q t = TransferSound (port_enabled d p) o q (source_at d (of_port p)) t

  abbrev pub TransferAt : ℕ → Pattern → Transfer → Type 0
  TransferAt p q t = TransferBy p (port_at d p).output q t

  pub base-ports : (qs : List Port) → Base d → ((p : ℕ) → p < 2 → TransferBy p (get_or qs p (bare 0)).output (pattern_at d p) (transfer_at d p))
      → FourBits (get_or qs 2 (bare 0)) → (Cleared d → Cleared (with_ports d qs)) → Base (with_ports d qs)
  base-ports qs h t f g =
      record {
        version = h.version;
        config = h.config;
        modes = h.modes;
        transfers = t;
        counters = h.counters;
        sources = h.sources;
        four = f;
        held = λ r. g (h.held r);
      }

  pub base-pattern : (p : ℕ) (q : Pattern) → Base d → (later_port d.version (pattern_at d p) ≡ false → later_port d.version q ≡ false)
      → (TransferAt p (pattern_at d p) (transfer_at d p) → TransferAt p q (transfer_at d p))
      → (Cleared d → Cleared (with_pattern d p q)) → Base (with_pattern d p q)
  base-pattern p q h f t g =
      record {
        version = h.version;
        config = h.config;
        modes = λ j l. set_keeps (λ _ r. later_port d.version r ≡ false) d.patterns p j q blank f (h.modes j l);
        transfers = λ j l. set_keeps (λ j r. TransferAt j r (transfer_at d j)) d.patterns p j q blank t (h.transfers j l);
        counters = h.counters;
        sources = h.sources;
        four = h.four;
        held = λ r. g (h.held r);
      }

  pub base-transfer : (p : ℕ) (t : Transfer) → Base d → (TransferAt p (pattern_at d p) (transfer_at d p) → TransferAt p (pattern_at d p) t)
      → (Cleared d → Cleared (with_transfer d p t)) → Base (with_transfer d p t)
  base-transfer p t h f g =
      record {
        version = h.version;
        config = h.config;
        modes = h.modes;
        transfers = λ j l. set_keeps (λ j u. TransferAt j (pattern_at d j) u) d.transfers p j t vacant f (h.transfers j l);
        counters = h.counters;
        sources = h.sources;
        four = h.four;
        held = λ r. g (h.held r);
      }

  pub base-counter : (i : ℕ) (c : Counter) → Base d
      → (CounterSound d.version (counter_enabled d i) (counter_at d i) → CounterSound d.version (counter_enabled d i) c)
      → (Cleared d → Cleared (with_counter d i c)) → Base (with_counter d i c)
  base-counter i c h f g =
      record {
        version = h.version;
        config = h.config;
        modes = h.modes;
        transfers = h.transfers;
        counters = λ j l. set_keeps (λ j e. CounterSound d.version (counter_enabled d j) e) d.counters i j c idle f (h.counters j l);
        sources = h.sources;
        four = h.four;
        held = λ r. g (h.held r);
      }

  -- where the port at that place has a pair half done, IP stays
  pub base-source : (k : ℕ) (s : Source) → Base d → (SourceSound (source_at d k) → SourceSound s)
      → ((p : ℕ) → of_port p ≡ k → So (transfer_at d p).pair → So (source_at d k).ip → So s.ip)
      → (Cleared d → Cleared (with_source d k s)) → Base (with_source d k s)
  base-source k s h f i g =
      record {
        version = h.version;
        config = h.config;
        modes = h.modes;
        transfers =
            λ p l.
            source-kept
            (set_keeps (λ j r. of_port p ≡ j → So (transfer_at d p).pair → So (source_at d j).ip → So r.ip) d.sources k (of_port p) s quiet
            (λ _. i p) (λ _ _ a. a) refl)
            (h.transfers p l);
        counters = h.counters;
        sources = λ j l. set_keeps (λ _ t. SourceSound t) d.sources k j s quiet f (h.sources j l);
        four = h.four;
        held = λ r. g (h.held r);
      }

-- ---- what port p holds, with its source
pub base-held : (d : Device) (p : ℕ) (t : Transfer) (s : Source) → reset d ≡ false → Base (with_transfer d p t)
    → (SourceSound (source_at d (of_port p)) → SourceSound s) → (So t.pair → So (source_at d (of_port p)).ip → So s.ip) → Base (held_at d p t s)
unfolding held_at
base-held d p t s z h f i =
    let e = with_transfer d p t in
    let here : So (transfer_at e p).pair → So t.pair =
    set_gives (λ u. So u.pair → So t.pair) d.transfers p t vacant (λ r. r) (λ n. never refl n) in
    base-source e (of_port p) s h f (λ j g r. i (here (subst (λ (n : ℕ). So (transfer_at e n).pair) (one-port j p g) r))) (awake z)

-- and with its output register
module _ (d : Device) (p : ℕ) (l : p < 2) (k : Shaped d) (z : reset d ≡ false) (h : Base d) where
  base-put : (b : ℕ) (t : Transfer) → TransferBy d p b (pattern_at d p) t → Base (with_transfer (put_at d p b) p t)
  unfolding put_at
  base-put b t f =
      let q = with_output (port_at d p) b in
      record {
        version = h.version;
        config = h.config;
        modes = h.modes;
        transfers =
            λ j g.
            both-keep (λ j r u. TransferBy d j r.output (pattern_at d j) u) d.ports d.transfers p j q (bare 0) t vacant
            (omega (arith, l, k.ports)) (omega (arith, l, k.transfers)) f (h.transfers j g);
        counters = h.counters;
        sources = h.sources;
        four = set_keeps (λ j r. j ≡ 2 → FourBits r) d.ports p 2 q (bare 0) (λ _ e. absurd (omega arith)) (λ _. h.four) refl;
        held = λ r. never z r;
      }

  -- the port puts out the byte b, or what it put out before
  pub base-moved : (puts : Bool) (b : ℕ) (t : Transfer) (s : Source) → TransferBy d p (cond puts b (port_at d p).output) (pattern_at d p) t
      → (SourceSound (source_at d (of_port p)) → SourceSound s) → (So t.pair → So (source_at d (of_port p)).ip → So s.ip)
      → Base (held_at (cond puts (put_at d p b) d) p t s)
  unfolding put_at
  base-moved true b t s f g i = base-held (put_at d p b) p t s z (base-put b t f) g i
  base-moved false b t s f g i = base-held d p t s z (base-transfer d p t h (λ _. f) (awake z)) g i
