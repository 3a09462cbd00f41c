use Prim.Native.Nat.{ℕ, zero, suc, ◌≤◌}
use mathlib.Core.Path.{◌≡◌, refl}
use native.Mathlib.Omega.{arith}
use Rattle.theorems.proofs.Caught.{caught-clocks}
use Rattle.clocks.proofs.First.{ran-none, ran-one, ran-rest, room-second, room-rest, still-on}
use Rattle.clocks.proofs.catching.Goals as goal

two-or-more : (n : ℕ) → (n ≡ 0 → ⊥) → (n ≡ 1 → ⊥) → 2 ≤ n
two-or-more zero h g = absurd (h refl)
two-or-more (suc zero) h g = absurd (g refl)
two-or-more (suc (suc n)) h g = omega arith

pub returns-then-n-eq0 : goal.returns-then-n-eq0
returns-then-n-eq0 c = ran-none c.args.start c.requires.1 c.args.n c.if-n-eq0.true

pub returns-then-n-eq1 : goal.returns-then-n-eq1
returns-then-n-eq1 c =
    simp c.clock-first.ensures (ran-one c.args.start c.requires.1 c.args.n c.if-n-eq1.true)

pub clock-second-requires : goal.clock-second-requires
clock-second-requires c =
    simp c.clock-first.ensures (room-second c.args.start c.requires.1)

pub parts-requires : goal.parts-requires
parts-requires c =
    simp (c.clock-second.ensures, c.clock-first.ensures) (caught-clocks c.args.start c.requires.0, still-on c.args.start c.requires.1 c.requires.0)

pub on_top-requires : goal.on_top-requires
on_top-requires c =
    simp (c.parts.ensures, c.clock-second.ensures, c.clock-first.ensures)
    (room-rest c.args.start c.requires.1 c.args.n (two-or-more c.args.n c.if-n-eq0.false c.if-n-eq1.false) c.ranges.n.fits)

pub returns : goal.returns
returns c =
    simp (c.on_top.ensures, c.parts.ensures, c.clock-second.ensures, c.clock-first.ensures)
    (ran-rest c.args.start c.requires.1 c.args.n (two-or-more c.args.n c.if-n-eq0.false c.if-n-eq1.false))
