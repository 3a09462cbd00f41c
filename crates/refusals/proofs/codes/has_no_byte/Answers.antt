-- where the test passes the address is 0DH or 0EH
-- the definition with its tests in the code's order
use Prim.Native.Nat.{◌-◌, ◌≤◌}
use mathlib.Core.Path.{◌≡◌}
use mathlib.Core.Bool.{not, ◌&&◌, beq}
use lib.Dec.{eqb, leb}
use borrow.Author.Tests.{leb-true}
use Rattle.basics.proofs.Tests.{triple}
use Rattle.basics.proofs.Truth.{all5, same}
use Rattle.rules.specs.declared.Device.{Device}
use Rattle.rules.specs.declared.Event.{Event}
use Rattle.rules.specs.Record.{pattern_at, transfer_at}
use Rattle.rules.specs.Handshakes.{inputs, irf_of}
use Rattle.rules.specs.Access.{reads_byte}
use Rattle.rules.specs.Events.{is_r, no_byte}
use Rattle.refusals.proofs.codes.has_no_byte.Goals as goal
use Rattle.refusals.proofs.codes.has_no_byte.Goals.{Then-e}

inside : (c : Then-e) → (0x0D ≤ c.args.e.a) × (c.args.e.a ≤ 0x0E)
inside c =
    let e = c.args.e in
    let t = triple (is_r e) (leb 0x0D e.a) (leb e.a 0x0E) c.if-e.true in (leb-true _ _ t.1, leb-true _ _ t.2)

tested : (d : Device) (e : Event)
    → no_byte d e
    ≡ ((is_r e && leb 0x0D e.a && leb e.a 0x0E) && (inputs (pattern_at d (e.a - 0x0D)) && eqb (transfer_at d (e.a - 0x0D)).bytes 0))
unfolding no_byte reads_byte irf_of
tested d e =
    same _ _
    (all5 (λ r x y h z. beq (r && (x && y && h) && not (h && not z)) ((r && x && y) && (h && z))) tt
    (is_r e) (leb 0x0D e.a) (leb e.a 0x0E) (inputs (pattern_at d (e.a - 0x0D))) (eqb (transfer_at d (e.a - 0x0D)).bytes 0))

pub returns-then-e : goal.returns-then-e
returns-then-e c = simp (tested, c.if-e.true, c.inputs.ensures)

pub returns : goal.returns
returns c = simp (tested, c.if-e.false)
