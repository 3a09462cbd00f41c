use borrow.Author.Rules.{rules}
use borrow.Author.Tests.{tests}
use mathlib.Core.Path.{sym, ◌∙◌}
use mathlib.Core.Bool.{◌&&◌}
use mathlib.Core.List.{[], ◌∷◌}
use Rattle.std.proofs.lemmas.Iterator.{YieldsList-from_slice}
use Rattle.std.proofs.lemmas.Iterator.Search.{position_from_yields_List}
use Rattle.rules.specs.declared.Source.{Source}
use Rattle.rules.specs.Record.{source_at}
use Rattle.rules.specs.Interrupts.{pending, pending_counter}
use Rattle.interrupts.proofs.Scanned.{even-none, even-at}
use Rattle.interrupts.proofs.order.pending_counter.Goals as goal

pub returns-in_err-position : goal.returns-in_err-position
unfolding pending pending_counter
returns-in_err-position c =
    let d = c.args.d in
    let at = position_from_yields_List (λ (s : Source). s.ie && s.ip) _ _ c.position.result c.position.ensures.ran (YieldsList-from_slice (source_at d 0 ∷ source_at d 2 ∷ source_at d 4 ∷ []) cc) (λ x b q k. search (rules, tests)) in
    c.from_residual.ensures ∙ even-none _ _ _ (sym c.in_err-position.was ∙ at)

pub returns : goal.returns
unfolding pending pending_counter
returns c =
    let d = c.args.d in
    let at = position_from_yields_List (λ (s : Source). s.ie && s.ip) _ _ c.position.result c.position.ensures.ran (YieldsList-from_slice (source_at d 0 ∷ source_at d 2 ∷ source_at d 4 ∷ []) cc) (λ x b q k. search (rules, tests)) in
    c.of.ensures ∙ even-at _ _ _ _ (sym c.in_ok-position.was ∙ at)
