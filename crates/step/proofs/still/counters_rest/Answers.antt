use mathlib.Core.Path.{sym, ◌∙◌}
use Rattle.step.proofs.Nothing.{rest-by-lines}
use Rattle.step.proofs.still.counters_rest.Goals as goal

pub returns-then-w-n : goal.returns-then-w-n
returns-then-w-n c =
    sym
    (rest-by-lines _ _
    ((simp (c.link-k.ensures, c.ct1_output-2.ensures, c.ct1_output.ensures, c.args.s0.looked, c.args.s1.looked)) ∙ c.if-w-n.true))
