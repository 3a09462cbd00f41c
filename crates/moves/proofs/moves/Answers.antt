-- a port whose handshake is not at work moves nothing
use Prim.Native.Nat.{ℕ}
use mathlib.Core.Path.{◌≡◌}
use mathlib.Core.Bool.{false, and-false}
use Rattle.rules.specs.declared.Device.{Device}
use Rattle.rules.specs.Moves.{works_at, falls, moves_at, moves_of}
use Rattle.levels.proofs.Plain.{neither}
use Rattle.moves.proofs.moves.Goals as goal

still : (p : ℕ) (d0 d : Device) → works_at d p ≡ false → moves_at p d0 d ≡ d
unfolding moves_at falls
still p d0 d e = simp (e, and-false)

pub returns : goal.returns
unfolding moves_of
returns c =
    let a = c.args in
    let n = neither (works_at a.d1 0) (works_at a.d1 1) (simp (← c.works_at-2.ensures, ← c.works_at.ensures) c.if-works_at.false) in
    simp (still 0 a.d0 a.d1 n.0, still 1 a.d0 a.d1 n.1)
