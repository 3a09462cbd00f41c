-- Body 2, both ways: what it tells of the record that wrote it, and that it is what its record writes.
-- Assumes nothing.
use Prim.Native.Nat.{ℕ}
use mathlib.Core.Path.{◌≡◌, refl, ◌∙◌}
use mathlib.Core.Bool.{true}
use mathlib.Core.List.{List, [], ◌∷◌}
use lib.Dec.{ltb}
use lib.ListN.{length}
use Rattle.rules.specs.declared.Source.{Source}
use Rattle.rules.specs.declared.Counter.{Counter}
use Rattle.rules.specs.declared.Device.{Device}
use Rattle.rules.specs.With.{with_hidden, with_count, with_half, with_pulse, with_counters, with_sources}
use Rattle.rules.specs.Record.{counter_at, source_at}
use Rattle.rules.specs.Registers.{kind_of, kind_in, port_kind, status_of}
use Rattle.rules.specs.Access.{port_command, counter_command, read_of}
use Rattle.bodies.specs.Written.{saved_byte, registers_from, registers_body, flags_of, counts_body}
use Rattle.bodies.specs.Taken.{byte_at, Bytes, counter_with, counts_in, counts_clear}
use Rattle.basics.proofs.Tests.{triple}
use Rattle.bodies.proofs.Lists.{elements}
use Rattle.bodies.proofs.Bytes.{pulse-0, pulse-1, pulse-2, pulse-clear, pulse-made, word_read, high-made, low-made}

-- a counter with the count, the half and the pulse of another, and a source with the hidden error of another
abbrev count_like : Counter → Counter → Counter
count_like c other = with_pulse (with_half (with_count c other.count) other.half) other.pulse

abbrev hidden_like : Source → Source → Source
hidden_like s other = with_hidden s other.hidden

-- a record e with what body 2 tells of d
abbrev pub counts_told : Device → Device → Device
counts_told e d =
    with_sources
    (with_counters e
    (count_like (counter_at e 0) (counter_at d 0) ∷ count_like (counter_at e 1) (counter_at d 1) ∷ count_like (counter_at e 2) (counter_at d 2) ∷ []))
    (hidden_like (source_at e 0) (source_at d 0) ∷ source_at e 1 ∷ hidden_like (source_at e 2) (source_at d 2) ∷ source_at e 3
    ∷ hidden_like (source_at e 4) (source_at d 4) ∷ [])

pub counts-read : (e d : Device) → counts_in e (counts_body d) ≡ counts_told e d
unfolding counts_in counts_body flags_of counter_with
counts-read e d = simp (word_read, pulse-0, pulse-1, pulse-2)

pub counts-clear : (d : Device) → counts_clear (counts_body d) ≡ true
unfolding counts_body flags_of
counts-clear d = simp pulse-clear

pub counts-written : (d : Device) (b : List ℕ) → length b ≡ 9 → Bytes b → counts_clear b ≡ true → counts_body (counts_in d b) ≡ b
unfolding counts_in counts_body flags_of counter_with
counts-written d b n h c =
    let k = triple (ltb (byte_at b 2) 8) (ltb (byte_at b 5) 8) (ltb (byte_at b 8) 8) c in
    (simp (
      high-made (byte_at b 0) (byte_at b 1) (h 1),
      low-made (byte_at b 0) (byte_at b 1) (h 1),
      pulse-made (byte_at b 2) (h 2) k.0,
      high-made (byte_at b 3) (byte_at b 4) (h 4),
      low-made (byte_at b 3) (byte_at b 4) (h 4),
      pulse-made (byte_at b 5) (h 5) k.1,
      high-made (byte_at b 6) (byte_at b 7) (h 7),
      low-made (byte_at b 6) (byte_at b 7) (h 7),
      pulse-made (byte_at b 8) (h 8) k.2,
    ))
    ∙ elements b 9 n

-- body 1 is not touched
pub counts-apart : (d : Device) (b : List ℕ) → registers_body (counts_in d b) ≡ registers_body d
unfolding counts_in counter_with registers_body registers_from saved_byte read_of kind_of kind_in port_kind port_command counter_command status_of
counts-apart d b = refl
