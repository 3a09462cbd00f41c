-- where the test passes the address is one of 10H-15H
-- the data of a port with handshake stand from 0DH on
use Prim.Native.Nat.{ℕ, ◌-◌, ◌≤◌}
use mathlib.Core.Path.{◌≡◌, sym, ◌∙◌}
use mathlib.Core.Bool.{Bool, true, ◌&&◌}
use lib.Dec.{leb}
use native.Mathlib.Omega.{arith}
use borrow.Author.Tests.{leb-true}
use Rattle.basics.proofs.Tests.{triple}
use Rattle.rules.specs.declared.Device.{Device}
use Rattle.rules.specs.Record.{pattern_at}
use Rattle.rules.specs.Handshakes.{inputs}
use Rattle.rules.specs.Access.{reads_byte}
use Rattle.read_access.proofs.after_read.Goals as goal

inside : (a : ℕ) (odd : Bool) → (leb 0x10 a && leb a 0x15 && odd) ≡ true → (0x10 ≤ a) × (a ≤ 0x15)
inside a odd e =
    let t = triple (leb 0x10 a) (leb a 0x15) odd e in (leb-true _ _ t.0, leb-true _ _ t.1)

from-data : (d : Device) (a : ℕ) → reads_byte d a ≡ true → 0x0D ≤ a
unfolding reads_byte
from-data d a e = leb-true _ _ (triple (leb 0x0D a) (leb a 0x0E) (inputs (pattern_at d (a - 0x0D))) e).0

pub overflow_sub-address-then-reads_byte : goal.overflow_sub-address-then-reads_byte
overflow_sub-address-then-reads_byte c =
    let a = c.args in
    let h = from-data a.d a.address (sym c.reads_byte.ensures ∙ c.if-reads_byte.true) in omega arith
