-- Body 4, both ways: what it tells of the record that wrote it, and that it is what its record writes.
-- Assumes nothing.
use Prim.Native.Nat.{ℕ}
use mathlib.Core.Path.{◌≡◌, refl, ◌∙◌}
use mathlib.Core.Bool.{true}
use mathlib.Core.List.{List}
use lib.Dec.{ltb}
use lib.ListN.{length}
use Rattle.rules.specs.declared.Device.{Device}
use Rattle.rules.specs.With.{with_iei, with_phase}
use Rattle.rules.specs.Registers.{kind_of, kind_in, port_kind, status_of}
use Rattle.rules.specs.Access.{port_command, counter_command, read_of}
use Rattle.bodies.specs.Written.{saved_byte, registers_from, registers_body, flags_of, counts_body, hidden_of, pins_body, lines_body}
use Rattle.bodies.specs.Taken.{byte_at, Bytes, lines_in, lines_clear}
use Rattle.basics.proofs.Tests.{both}
use Rattle.bodies.proofs.Lists.{elements}
use Rattle.bodies.proofs.Bytes.{line-0, line_clear, line_made}

-- a record e with what body 4 tells of d
abbrev pub lines_told : Device → Device → Device
lines_told e d = with_phase (with_iei e d.iei) d.phase

pub lines-read : (e d : Device) → lines_in e (lines_body d) ≡ lines_told e d
unfolding lines_in lines_body
lines-read e d = simp line-0

pub lines_clear_lem : (d : Device) → lines_clear (lines_body d) ≡ true
unfolding lines_body
lines_clear_lem d = simp line_clear

pub lines-written : (d : Device) (b : List ℕ) → length b ≡ 2 → Bytes b → lines_clear b ≡ true → lines_body (lines_in d b) ≡ b
unfolding lines_in lines_body
lines-written d b n h c =
    let k = both (ltb (byte_at b 0) 2) (ltb (byte_at b 1) 2) c in
    (simp (line_made (byte_at b 0) (h 0) k.0, line_made (byte_at b 1) (h 1) k.1)) ∙ elements b 2 n

-- bodies 1, 2 and 3 are not touched
pub lines-apart-1 : (d : Device) (b : List ℕ) → registers_body (lines_in d b) ≡ registers_body d
unfolding lines_in registers_body registers_from saved_byte read_of kind_of kind_in port_kind port_command counter_command status_of
lines-apart-1 d b = refl

pub lines-apart-2 : (d : Device) (b : List ℕ) → counts_body (lines_in d b) ≡ counts_body d
unfolding lines_in counts_body flags_of
lines-apart-2 d b = refl

pub lines-apart-3 : (d : Device) (b : List ℕ) → pins_body (lines_in d b) ≡ pins_body d
unfolding lines_in pins_body hidden_of
lines-apart-3 d b = refl
