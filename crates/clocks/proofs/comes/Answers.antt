use mathlib.Core.Path.{sym, ap, ◌∙◌}
use Rattle.theorems.specs.Moving.{comes_to}
use Rattle.clocks.proofs.Reaches.{comes-law}
use Rattle.clocks.proofs.comes.Goals as goal

pub returns : goal.returns
returns c =
    simp (c.gate_open.ensures, c.counter_on.ensures) (sym (comes-law c.args.d _)) ∙ ap (comes_to c.args.d) c.index-i.ensures.same
