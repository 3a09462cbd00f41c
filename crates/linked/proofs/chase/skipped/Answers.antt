use Rattle.linked.specs.Chase.{with_terminals}
use Rattle.linked.proofs.Moments.{gains, afterwards, around}
use mathlib.Core.Path.{refl}
use native.Mathlib.Omega.{arith}
use Rattle.linked.proofs.chase.skipped.Goals as goal

pub overflow_sub-there : goal.overflow_sub-there
overflow_sub-there c =
    (gains c.args.f c.args.c c.requires.0 c.requires.2).0

pub overflow_mul-there : goal.overflow_mul-there
overflow_mul-there c =
    omega (arith, afterwards c.args.f c.args.c c.requires.0 c.requires.2)

pub overflow_add-there : goal.overflow_add-there
overflow_add-there c =
    omega (arith, afterwards c.args.f c.args.c c.requires.0 c.requires.2)

pub returns : goal.returns
unfolding with_terminals
returns c =
    around c.args.f c.args.c c.requires.0 c.requires.2 _ refl refl refl refl
