use mathlib.Core.Path.{sym, ap₂, ◌∙◌}
use Rattle.basics.proofs.Lists.{length-mapped}
use Rattle.step.specs.Still.{still}
use Rattle.step.proofs.Nothing.{step-still}
use borrow.Author.Rules.{rules}
use Rattle.step.proofs.still.untimed.Goals as goal

pub returns-then-is_still : goal.returns-then-is_still
returns-then-is_still c =
    let h = sym (ap₂ still c.of-s0.ensures c.of-s1.ensures) ∙ sym c.is_still.ensures ∙ c.if-is_still.true in
    sym (step-still c.args.d0 c.args.d1 (search (rules, length-mapped)) h)
