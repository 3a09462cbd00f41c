-- Body 3, both ways: what it tells of the record that wrote it, and that it is what its record writes.
-- Assumes nothing.
use Prim.Native.Nat.{ℕ}
use mathlib.Core.Path.{◌≡◌, refl, ◌∙◌}
use mathlib.Core.Bool.{true}
use mathlib.Core.List.{List, [], ◌∷◌}
use lib.ListN.{length}
use Rattle.rules.specs.declared.Port.{Port}
use Rattle.rules.specs.declared.Device.{Device}
use Rattle.rules.specs.With.{with_hidden, with_outside, with_catcher, with_ports, with_sources}
use Rattle.rules.specs.Record.{port_at, source_at}
use Rattle.rules.specs.Registers.{kind_of, kind_in, port_kind, status_of}
use Rattle.rules.specs.Access.{port_command, counter_command, read_of}
use Rattle.bodies.specs.Written.{saved_byte, registers_from, registers_body, flags_of, counts_body, hidden_of, pins_body}
use Rattle.bodies.specs.Taken.{byte_at, Bytes, pins_in, pins_clear}
use Rattle.bodies.proofs.Lists.{elements}
use Rattle.bodies.proofs.Bytes.{flag-0, flag-1, flag-clear, flag-made}

-- a port with the outside levels and the catchers of another
abbrev pins_like : Port → Port → Port
pins_like q other = with_catcher (with_outside q other.outside) other.catcher

-- a record e with what body 3 tells of d
abbrev pub pins_told : Device → Device → Device
pins_told e d =
    with_sources
    (with_ports e (pins_like (port_at e 0) (port_at d 0) ∷ pins_like (port_at e 1) (port_at d 1) ∷ pins_like (port_at e 2) (port_at d 2) ∷ []))
    (source_at e 0 ∷ with_hidden (source_at e 1) (source_at d 1).hidden ∷ source_at e 2 ∷ with_hidden (source_at e 3) (source_at d 3).hidden
    ∷ source_at e 4 ∷ [])

pub pins-read : (e d : Device) → pins_in e (pins_body d) ≡ pins_told e d
unfolding pins_in pins_body hidden_of
pins-read e d = simp (flag-0, flag-1)

pub pins-clear : (d : Device) → pins_clear (pins_body d) ≡ true
unfolding pins_body hidden_of
pins-clear d = flag-clear (source_at d 1).hidden (source_at d 3).hidden

pub pins-written : (d : Device) (b : List ℕ) → length b ≡ 7 → Bytes b → pins_clear b ≡ true → pins_body (pins_in d b) ≡ b
unfolding pins_in pins_body hidden_of
pins-written d b n h c = (simp (flag-made (byte_at b 6) (h 6) c)) ∙ elements b 7 n

-- bodies 1 and 2 are not touched
pub pins-apart-1 : (d : Device) (b : List ℕ) → registers_body (pins_in d b) ≡ registers_body d
unfolding pins_in registers_body registers_from saved_byte read_of kind_of kind_in port_kind port_command counter_command status_of
pins-apart-1 d b = refl

pub pins-apart-2 : (d : Device) (b : List ℕ) → counts_body (pins_in d b) ≡ counts_body d
unfolding pins_in counts_body flags_of
pins-apart-2 d b = refl
