use mathlib.Core.Path.{sym, ◌∙◌}
use Rattle.theorems.proofs.Reports.{ran-held}
use Rattle.basics.proofs.Lists.{length-mapped as of_map}
use Rattle.step.proofs.CaughtUp.{caught-up}
use borrow.Author.Rules.{rules}
use Rattle.clocks.proofs.run.Goals as goal

pub returns-then-reset : goal.returns-then-reset
returns-then-reset c =
    simp c.start-start.ensures (sym (ran-held _ _ (sym c.reset.ensures ∙ c.if-reset.true)))

pub parts-requires : goal.parts-requires
parts-requires c =
    (caught-up _ (search (rules, of_map)) (sym c.has_caught.ensures ∙ c.if-has_caught.true), sym c.reset.ensures ∙ c.if-reset.false)
