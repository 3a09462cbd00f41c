use borrow.Author.Rules.{rules}
use borrow.Author.Tests.{tests}
use mathlib.Core.Path.{◌≡◌, sym, ◌∙◌}
use mathlib.Core.Bool.{◌&&◌}
use lib.ListN.{length}
use Rattle.std.proofs.lemmas.Iterator.{YieldsList-from_slice}
use Rattle.std.proofs.lemmas.Iterator.Search.{position_from_yields_List}
use Rattle.basics.proofs.Lists.{length-mapped}
use Rattle.rules.specs.declared.Source.{Source}
use Rattle.rules.specs.Record.{quiet}
use Rattle.rules.specs.Interrupts.{pending}
use Rattle.interrupts.proofs.Scanned.{position-is, first-place}
use Rattle.interrupts.proofs.order.pending_first.Goals as goal
use Rattle.interrupts.proofs.order.pending_first.Goals.{After-iter}

five : (c : After-iter) → length c.args.d.sources ≡ 5
five c = search (rules, length-mapped)

pub returns-in_err-position : goal.returns-in_err-position
unfolding pending
returns-in_err-position c =
    let at = position_from_yields_List (λ (s : Source). s.ie && s.ip) _ _ c.position.result c.position.ensures.ran (YieldsList-from_slice c.args.d.sources cc) (λ x b q k. search (rules, tests)) in
    c.from_residual.ensures ∙ sym c.in_err-position.was ∙ at ∙ position-is _ quiet _ (five c.before.before.before.before.before)

pub returns : goal.returns
unfolding pending
returns c =
    let at = position_from_yields_List (λ (s : Source). s.ie && s.ip) _ _ c.position.result c.position.ensures.ran (YieldsList-from_slice c.args.d.sources cc) (λ x b q k. search (rules, tests)) in
    c.of.ensures ∙ first-place _ _ (sym c.in_ok-position.was ∙ at ∙ position-is _ quiet _ (five c.before.before.before.before.before))
