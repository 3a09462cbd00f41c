-- A sound record, clause by clause: what `sound_but_lines` tests, as facts about each source, counter, port, pattern and transfer.
-- Assumes nothing.
use Prim.Native.Nat.{ℕ, ◌/◌, ◌<◌, ◌≤◌}
use mathlib.Core.Path.{◌≡◌, refl, ap, subst}
use mathlib.Core.Bool.{Bool, true, false, not, ◌&&◌, ◌||◌, So, false≢true}
use mathlib.Core.List.{[], ◌∷◌}
use native.Mathlib.Omega.{arith}
use lib.Dec.{eqb, ltb}
use borrow.Author.Tests.{ltb-true, lt-ltb, eqb-true, eqb-false, eq-eqb, ne_eqb, leb-true, le-leb}
use Rattle.rules.specs.declared.Source.{Source}
use Rattle.rules.specs.declared.Counter.{Counter}
use Rattle.rules.specs.declared.Port.{Port}
use Rattle.rules.specs.declared.Pattern.{Pattern}
use Rattle.rules.specs.declared.Transfer.{Transfer}
use Rattle.rules.specs.declared.Device.{Device}
use Rattle.rules.specs.Record.{vector_at, port_at, pattern_at, transfer_at, counter_at, source_at, quiet, idle, bare, blank, vacant, of_port}
use Rattle.rules.specs.Registers.{reset, port_enabled, counter_enabled, later_config, later_counter_mode}
use Rattle.rules.specs.Handshakes.{inputs, outputs, handshakes, itb, strobed, depth}
use Rattle.rules.specs.Sound.{only, four_bits, later_port, err_only, hidden_only, sound_source, cip_only, half_only, frozen_only, pulse_only, sound_counter, pmf_only, sound_port_at}
use Rattle.rules.specs.Sound.{same_transfer, held_only, room_only, bytes_only, unfinished_only, pair_only, front_only, sound_transfer}
use Rattle.basics.proofs.Tests.{so-both, left, right, each, so-not, not_so, never}
use Rattle.theorems.proofs.Equal.{same-transfer, transfer-same}

-- ---- if the first, the second
pub if-then : (a b : Bool) → So (only a b) → So a → So b
if-then true b h p = h
if-then false b h p = absurd (false≢true p)

pub only_if : (a b : Bool) → (So a → So b) → So (only a b)
only_if true b f = f refl
only_if false b f = refl

-- ---- no port is of two types
pub no-input : (q : Pattern) → So (outputs q) → inputs q ≡ false
no-input q o = ne_eqb (q.mode / 64) 1 (λ e. omega (arith, e, eqb-true (q.mode / 64) 2 o))

-- ---- the version, one source, one counter, port C, what one port holds
abbrev pub Version : ℕ → Type 0
Version n = So (eqb n 1 || eqb n 2)

pub record SourceSound (s : Source) : Type 0 where
  pub err : So s.err → So s.ip
  pub hidden : So s.hidden → So (s.ip && not s.err)

pub record CounterSound (version : ℕ) (enabled : Bool) (c : Counter) : Type 0 where
  pub mode : later_counter_mode c.mode ≡ false
  pub cip : So c.cip → So enabled
  pub half : So c.half → So c.cip
  pub frozen : So (not c.rcc) → So (eqb c.frozen 0)
  pub pulse : So c.pulse → So (eqb version 2 && enabled)

pub record FourBits (q : Port) : Type 0 where
  pub polarity : q.polarity < 16
  pub direction : q.direction < 16
  pub special : q.special < 16
  pub output : q.output < 16
  pub outside : q.outside < 16
  pub catcher : q.catcher < 16

-- of a port with that output register and pattern q, whose source is s
pub record TransferSound (enabled : Bool) (output : ℕ) (q : Pattern) (s : Source) (t : Transfer) : Type 0 where
  pub held : So (not (handshakes q && enabled)) → t ≡ vacant
  pub room : t.bytes ≤ depth q
  pub front : t.bytes ≡ 0 → t.front ≡ 0
  pub behind : t.bytes < 2 → t.behind ≡ 0
  pub unfinished : So t.unfinished → So (not (strobed q))
  pub pair : So t.pair → So (s.ip && itb q)
  pub put : So (outputs q) → (t.bytes ≡ 0 → ⊥) → output ≡ t.front

pub source_sound : {s : Source} → So (sound_source s) → SourceSound s
unfolding sound_source err_only hidden_only
source_sound {s} h =
    record {
      err = if-then s.err s.ip (left (err_only s) (hidden_only s) h);
      hidden = if-then s.hidden (s.ip && not s.err) (right (err_only s) (hidden_only s) h);
    }

pub sound-source : {s : Source} → SourceSound s → So (sound_source s)
unfolding sound_source err_only hidden_only
sound-source {s} h = so-both (only_if s.err s.ip h.err) (only_if s.hidden (s.ip && not s.err) h.hidden)

pub counter-sound : {n : ℕ} {e : Bool} {c : Counter} → later_counter_mode c.mode ≡ false → So (sound_counter n e c) → CounterSound n e c
unfolding sound_counter cip_only half_only frozen_only pulse_only
counter-sound {n} {e} {c} m h =
    let part = each (cip_only e c ∷ half_only c ∷ frozen_only c ∷ pulse_only n e c ∷ []) h in
    record {
      mode = m;
      cip = if-then c.cip e (part 0);
      half = if-then c.half c.cip (part 1);
      frozen = if-then (not c.rcc) (eqb c.frozen 0) (part 2);
      pulse = if-then c.pulse (eqb n 2 && e) (part 3);
    }

pub sound-counter : {n : ℕ} {e : Bool} {c : Counter} → CounterSound n e c → So (sound_counter n e c)
unfolding sound_counter cip_only half_only frozen_only pulse_only
sound-counter {n} {e} {c} h =
    so-both
    (so-both (so-both (only_if c.cip e h.cip) (only_if c.half c.cip h.half)) (only_if (not c.rcc) (eqb c.frozen 0) h.frozen))
    (only_if c.pulse (eqb n 2 && e) h.pulse)

pub four-bits : {q : Port} → So (four_bits q) → FourBits q
unfolding four_bits
four-bits {q} h =
    let part =
    each
    (ltb q.polarity 16 ∷ ltb q.direction 16 ∷ ltb q.special 16 ∷ ltb q.output 16 ∷ ltb q.outside 16 ∷ ltb q.catcher 16 ∷ []) h in
    record {
      polarity = ltb-true _ 16 (part 0);
      direction = ltb-true _ 16 (part 1);
      special = ltb-true _ 16 (part 2);
      output = ltb-true _ 16 (part 3);
      outside = ltb-true _ 16 (part 4);
      catcher = ltb-true _ 16 (part 5);
    }

pub bits-four : {q : Port} → FourBits q → So (four_bits q)
unfolding four_bits
bits-four {q} h =
    so-both (so-both (so-both (so-both (so-both (lt-ltb _ 16 h.polarity) (lt-ltb _ 16 h.direction)) (lt-ltb _ 16 h.special)) (lt-ltb _ 16 h.output))
    (lt-ltb _ 16 h.outside))
    (lt-ltb _ 16 h.catcher)

-- an output port that holds a byte
abbrev putting : Pattern → Transfer → Bool
putting q t = outputs q && not (eqb t.bytes 0)

module _ {e : Bool} {o : ℕ} {q : Pattern} {s : Source} {t : Transfer} where
  pub transfer-sound : So (sound_transfer e o q s t) → TransferSound e o q s t
  unfolding sound_transfer held_only room_only bytes_only unfinished_only pair_only front_only
  transfer-sound h =
      let part = each (held_only e q t ∷ room_only q t ∷ bytes_only t ∷ unfinished_only q t ∷ pair_only q s t ∷ front_only o q t ∷ []) h in
      let bytes = each (only (eqb t.bytes 0) (eqb t.front 0) ∷ only (ltb t.bytes 2) (eqb t.behind 0) ∷ []) (part 2) in
      record {
        held = λ n. same-transfer t vacant (if-then (not (handshakes q && e)) (same_transfer t vacant) (part 0) n);
        room = leb-true t.bytes (depth q) (part 1);
        front = λ z. eqb-true t.front 0 (if-then (eqb t.bytes 0) (eqb t.front 0) (bytes 0) (eq-eqb t.bytes 0 z));
        behind = λ l. eqb-true t.behind 0 (if-then (ltb t.bytes 2) (eqb t.behind 0) (bytes 1) (lt-ltb t.bytes 2 l));
        unfinished = if-then t.unfinished (not (strobed q)) (part 3);
        pair = if-then t.pair (s.ip && itb q) (part 4);
        put = λ w n. eqb-true o t.front (if-then (putting q t) (eqb o t.front) (part 5) (so-both w (so-not (ne_eqb t.bytes 0 n))));
      }

  pub sound-transfer : TransferSound e o q s t → So (sound_transfer e o q s t)
  unfolding sound_transfer held_only room_only bytes_only unfinished_only pair_only front_only
  sound-transfer h =
      let none = eqb t.bytes 0 in
      so-both
      (so-both
      (so-both
      (so-both
      (so-both
      (only_if (not (handshakes q && e)) (same_transfer t vacant) (λ n. subst (λ (u : Transfer). So (same_transfer t u)) (h.held n) (transfer-same t)))
      (le-leb t.bytes (depth q) h.room))
      (so-both
      (only_if none (eqb t.front 0) (λ z. eq-eqb t.front 0 (h.front (eqb-true t.bytes 0 z))))
      (only_if (ltb t.bytes 2) (eqb t.behind 0) (λ l. eq-eqb t.behind 0 (h.behind (ltb-true t.bytes 2 l))))))
      (only_if t.unfinished (not (strobed q)) h.unfinished))
      (only_if t.pair (s.ip && itb q) h.pair))
      (only_if (putting q t) (eqb o t.front)
      (λ w. eq-eqb o t.front (h.put (left (outputs q) (not none) w) (eqb-false t.bytes 0 (not_so none (right (outputs q) (not none) w))))))

-- ---- the record as reset leaves it, but for the version, the outside pins, IEI and the stored lines
pub record Cleared (d : Device) : Type 0 where
  pub master : d.master ≡ 1
  pub config : d.config ≡ 0
  pub vectors : (v : ℕ) → v < 3 → vector_at d v ≡ 0
  pub ports : (p : ℕ) → p < 3 → port_at d p ≡ bare (port_at d p).outside
  pub patterns : (p : ℕ) → p < 2 → pattern_at d p ≡ blank
  pub transfers : (p : ℕ) → p < 2 → transfer_at d p ≡ vacant
  pub counters : (i : ℕ) → i < 3 → counter_at d i ≡ idle
  pub sources : (k : ℕ) → k < 5 → source_at d k ≡ quiet
  pub phase : d.phase ≡ false

-- ---- what a step needs of the record after its direct effect
pub record Base (d : Device) : Type 0 where
  pub version : Version d.version
  pub config : later_config d.config ≡ false
  pub modes : (p : ℕ) → p < 2 → later_port d.version (pattern_at d p) ≡ false
  pub transfers : (p : ℕ) → p < 2 → TransferSound (port_enabled d p) (port_at d p).output (pattern_at d p) (source_at d (of_port p)) (transfer_at d p)
  pub counters : (i : ℕ) → i < 3 → CounterSound d.version (counter_enabled d i) (counter_at d i)
  pub sources : (k : ℕ) → k < 5 → SourceSound (source_at d k)
  pub four : FourBits (port_at d 2)
  pub held : So (reset d) → Cleared d

-- ---- and what it makes of it
pub record Sound (d : Device) : Type 0 where
  pub base : Base d
  pub ports : (p : ℕ) → p < 3 → So (sound_port_at d p)
  pub patterns : (p : ℕ) → p < 2 → So (pmf_only (port_enabled d p) (pattern_at d p))

-- ---- under RESET no port has a handshake
awake-by : (d : Device) (p : ℕ) → p < 2 → Base d → So (handshakes (pattern_at d p)) → (r : Bool) → reset d ≡ r → reset d ≡ false
awake-by d p l h w true z = never (ap (λ (q : Pattern). handshakes q) ((h.held z).patterns p l)) w
awake-by d p l h w false z = z

pub handshake-awake : (d : Device) (p : ℕ) → p < 2 → Base d → So (handshakes (pattern_at d p)) → reset d ≡ false
handshake-awake d p l h w = awake-by d p l h w _ refl
