-- Body 1, both ways: what it tells of the record that wrote it, and that it is what its record writes.
-- Assumes nothing.
use Prim.Native.Nat.{ℕ, ◌+◌}
use mathlib.Core.Path.{◌≡◌, refl, sym, ap, ap₂, subst, ◌∙◌}
use mathlib.Core.Bool.{Bool, true, false, ◌&&◌, beq}
use borrow.Author.Tests.{eqb-true}
use lib.Dec.{T, eqb}
use mathlib.Core.List.{List, [], ◌∷◌}
use lib.ListN.{length}
use Rattle.rules.specs.declared.Source.{Source}
use Rattle.rules.specs.declared.Counter.{Counter}
use Rattle.rules.specs.declared.Port.{Port}
use Rattle.rules.specs.declared.Pattern.{Pattern}
use Rattle.rules.specs.declared.Device.{Device}
use Rattle.basics.specs.Byte.{bit, byte_in}
use Rattle.rules.specs.With.{device, with_hidden, with_count, with_half, with_pulse, with_outside, with_catcher, with_ioe, with_pmf, with_patterns, with_counters, with_sources}
use Rattle.rules.specs.Record.{vacant, silent, vector_at, port_at, pattern_at, transfer_at, counter_at, source_at}
use Rattle.rules.specs.Registers.{kind_of, kind_in, port_kind, status_of, port_command_of, counter_command_of}
use Rattle.rules.specs.Handshakes.{irf_of, irf_at, ore_of, ore_at}
use Rattle.rules.specs.Access.{port_command, counter_command, read_of}
use Rattle.bodies.specs.Written.{saved_byte, registers_from, registers_body}
use Rattle.bodies.specs.Taken.{byte_at, Bytes, word_of, source_in, pattern_in, counter_in, registers_in, transfer_in, transfers_in, counter_clear, registers_clear, state_agrees, states_agree}
use Rattle.basics.proofs.Tests.{both, triple}
use Rattle.basics.proofs.Truth.{same}
use Rattle.bodies.proofs.Lists.{then, ap₃, elements}
use Rattle.bodies.proofs.Bytes.{port-ius, port-ie, port-ip, port-err, port-ore, port-irf, port-pmf, port-ioe, port-made}
use Rattle.bodies.proofs.Bytes.{counter-ius, counter-ie, counter-ip, counter-err, counter-rcc, counter-gcb, counter-cip, counter-clear, counter-made}
use Rattle.bodies.proofs.Bytes.{word_read, high-made, low-made}
use Rattle.bodies.proofs.TransfersLaw.{Tells}

-- ---- what body 1 tells of a part of a record; the rest is 0
abbrev countless : Counter → Counter
countless c = with_pulse (with_half (with_count c 0) false) false

abbrev pinless : Port → Port
pinless q = with_catcher (with_outside q 0) 0

abbrev unhidden : Source → Source
unhidden s = with_hidden s false

-- and of a record, with a version that it does not tell
abbrev pub registers_told : ℕ → Device → Device
registers_told n d =
    device n d.master d.config (vector_at d 0 ∷ vector_at d 1 ∷ vector_at d 2 ∷ [])
    (pinless (port_at d 0) ∷ pinless (port_at d 1) ∷ pinless (port_at d 2) ∷ []) (pattern_at d 0 ∷ pattern_at d 1 ∷ [])
    (vacant ∷ vacant ∷ []) (countless (counter_at d 0) ∷ countless (counter_at d 1) ∷ countless (counter_at d 2) ∷ [])
    (unhidden (source_at d 0) ∷ unhidden (source_at d 1) ∷ unhidden (source_at d 2) ∷ unhidden (source_at d 3) ∷ unhidden (source_at d 4) ∷ [])
    false false (silent false)

-- ---- the bytes of one source, pattern and counter, read back
port-source : (s : Source) (q : Pattern) (o f : Bool) → source_in (port_command_of s q o f) ≡ unhidden s
unfolding status_of
port-source s q o f = simp (port-ius, port-ie, port-ip, port-err)

counter-source : (s : Source) (c : Counter) → source_in (counter_command_of s c) ≡ unhidden s
unfolding status_of
counter-source s c = simp (counter-ius, counter-ie, counter-ip, counter-err)

pattern-read : (s : Source) (q : Pattern) (o f : Bool) → with_pmf (with_ioe q (bit (port_command_of s q o f) 0)) (bit (port_command_of s q o f) 1) ≡ q
unfolding status_of
pattern-read s q o f = simp (port-ioe, port-pmf)

counter-read : (s : Source) (c : Counter) →
    record {
      mode = c.mode;
      constant = word_of (byte_in true c.constant) (byte_in false c.constant);
      count = 0;
      frozen = word_of (byte_in true c.frozen) (byte_in false c.frozen);
      rcc = bit (counter_command_of s c) 3;
      gcb = bit (counter_command_of s c) 2;
      cip = bit (counter_command_of s c) 0;
      half = false;
      pulse = false;
    } ≡ countless c
unfolding status_of
counter-read s c = simp (word_read, counter-rcc, counter-gcb, counter-cip)

-- ---- the whole body
pub registers-read : (n : ℕ) (d : Device) → registers_in n (registers_body d) ≡ registers_told n d
unfolding registers_in registers_body registers_from saved_byte read_of kind_of kind_in port_kind port_command counter_command pattern_in counter_in
registers-read n d =
    ap₃ (λ (ps : List Pattern) (cs : List Counter) (ss : List Source).
    with_sources (with_counters (with_patterns (registers_told n d) ps) cs) ss)
    (then (pattern-read (source_at d 1) (pattern_at d 0) (ore_at d 0) (irf_at d 0))
    (then (pattern-read (source_at d 3) (pattern_at d 1) (ore_at d 1) (irf_at d 1)) refl))
    (then (counter-read (source_at d 4) (counter_at d 0)) (then (counter-read (source_at d 2) (counter_at d 1))
    (then (counter-read (source_at d 0) (counter_at d 2)) refl)))
    (then (counter-source (source_at d 0) (counter_at d 2)) (then (port-source (source_at d 1) (pattern_at d 0) (ore_at d 0) (irf_at d 0))
    (then (counter-source (source_at d 2) (counter_at d 1)) (then (port-source (source_at d 3) (pattern_at d 1) (ore_at d 1) (irf_at d 1))
    (then (counter-source (source_at d 4) (counter_at d 0)) refl)))))

-- "IRF and ORE must agree with it": those of a written body do, with a body 5 that tells what the ports hold
abbrev PortTold : Device → ℕ → Type 0
PortTold d p = (byte_at (registers_body d) (0x08 + p) ≡ port_command d p) × (pattern_in (registers_body d) p ≡ pattern_at d p)

port-told : (d : Device) → PortTold d 0 × PortTold d 1
unfolding registers_body registers_from saved_byte read_of kind_of kind_in port_kind port_command pattern_in
port-told d =
    ((refl, pattern-read (source_at d 1) (pattern_at d 0) (ore_at d 0) (irf_at d 0)), (refl, pattern-read (source_at d 3) (pattern_at d 1) (ore_at d 1) (irf_at d 1)))

ore-told : (d : Device) (p : ℕ) → bit (port_command d p) 3 ≡ ore_at d p
unfolding port_command status_of
ore-told d p = simp port-ore

irf-told : (d : Device) (p : ℕ) → bit (port_command d p) 2 ≡ irf_at d p
unfolding port_command status_of
irf-told d p = simp port-irf

agrees : {a b : Bool} → a ≡ b → beq a b ≡ true
agrees {a} {b} e = ap (λ (x : Bool). beq x b) e ∙ itself b
  where
    itself : (x : Bool) → beq x x ≡ true
    itself true = refl
    itself false = refl

state-agrees : (d : Device) (t : List ℕ) (p : ℕ) → PortTold d p → transfer_in t p ≡ transfer_at d p → state_agrees (registers_body d) t p ≡ true
unfolding state_agrees
state-agrees d t p k e =
    ap₂ ◌&&◌ (agrees (ap (λ (x : ℕ). bit x 3) k.0 ∙ ore-told d p ∙ sym (ap₂ ore_of k.1 e)))
    (agrees (ap (λ (x : ℕ). bit x 2) k.0 ∙ irf-told d p ∙ sym (ap₂ irf_of k.1 e)))

pub states-agree : (d : Device) (t : List ℕ) → Tells t d → states_agree (registers_body d) t ≡ true
unfolding states_agree
states-agree d t h = ap₂ ◌&&◌ (state-agrees d t 0 (port-told d).0 h.0) (state-agrees d t 1 (port-told d).1 h.1)

-- ---- back
-- ORE and IRF of a port as body 5 tells them
state-back : (b t : List ℕ) (p : ℕ) → state_agrees b t p ≡ true
    → (ore_of (pattern_in b p) (transfer_in t p) ≡ bit (byte_at b (0x08 + p)) 3) × (irf_of (pattern_in b p) (transfer_in t p) ≡ bit (byte_at b (0x08 + p)) 2)
unfolding state_agrees
state-back b t p g =
    let k =
    both (beq (bit (byte_at b (0x08 + p)) 3) (ore_of (pattern_in b p) (transfer_in t p)))
    (beq (bit (byte_at b (0x08 + p)) 2) (irf_of (pattern_in b p) (transfer_in t p))) g in
    (sym (same _ _ (subst T (sym k.0) tt)), sym (same _ _ (subst T (sym k.1) tt)))

module _ (n : ℕ) (b t : List ℕ) (c : registers_clear b ≡ true) (g : states_agree b t ≡ true) where
  states : (state_agrees b t 0 ≡ true) × (state_agrees b t 1 ≡ true)
  unfolding states_agree
  states = both (state_agrees b t 0) (state_agrees b t 1) g

  pub registers-written : length b ≡ 48 → Bytes b → registers_body (transfers_in (registers_in n b) t) ≡ b
  unfolding registers_in transfers_in registers_body registers_from saved_byte read_of kind_of kind_in port_kind port_command counter_command status_of pattern_in counter_in
  registers-written m h =
      let k =
      both (counter_clear (byte_at b 0x0A) && counter_clear (byte_at b 0x0B) && counter_clear (byte_at b 0x0C)) (eqb (byte_at b 0x1F) 0) c in
      let r = triple (counter_clear (byte_at b 0x0A)) (counter_clear (byte_at b 0x0B)) (counter_clear (byte_at b 0x0C)) k.0 in
      let a = state-back b t 0 states.0 in
      let e = state-back b t 1 states.1 in
      (simp (
        a.0,
        a.1,
        e.0,
        e.1,
        port-made (byte_at b 0x08) (h 0x08),
        port-made (byte_at b 0x09) (h 0x09),
        counter-made (byte_at b 0x0A) (h 0x0A) r.0,
        counter-made (byte_at b 0x0B) (h 0x0B) r.1,
        counter-made (byte_at b 0x0C) (h 0x0C) r.2,
        high-made (byte_at b 0x10) (byte_at b 0x11) (h 0x11),
        low-made (byte_at b 0x10) (byte_at b 0x11) (h 0x11),
        high-made (byte_at b 0x12) (byte_at b 0x13) (h 0x13),
        low-made (byte_at b 0x12) (byte_at b 0x13) (h 0x13),
        high-made (byte_at b 0x14) (byte_at b 0x15) (h 0x15),
        low-made (byte_at b 0x14) (byte_at b 0x15) (h 0x15),
        high-made (byte_at b 0x16) (byte_at b 0x17) (h 0x17),
        low-made (byte_at b 0x16) (byte_at b 0x17) (h 0x17),
        high-made (byte_at b 0x18) (byte_at b 0x19) (h 0x19),
        low-made (byte_at b 0x18) (byte_at b 0x19) (h 0x19),
        high-made (byte_at b 0x1A) (byte_at b 0x1B) (h 0x1B),
        low-made (byte_at b 0x1A) (byte_at b 0x1B) (h 0x1B),
        eqb-true (byte_at b 0x1F) 0 k.1,
      ))
      ∙ elements b 48 m

-- a written body is clear
pub registers-clear : (d : Device) → registers_clear (registers_body d) ≡ true
unfolding registers_body registers_from saved_byte read_of kind_of kind_in port_kind port_command counter_command status_of
registers-clear d = simp counter-clear
