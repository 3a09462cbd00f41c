use borrow.Author.Rules.{rules}
use borrow.Author.Tests.{tests}
use mathlib.Core.Path.{◌≡◌, ◌∙◌}
use lib.ListN.{length}
use Rattle.std.proofs.lemmas.Iterator.{YieldsList-from_slice}
use Rattle.std.proofs.lemmas.Iterator.Search.{any_from_yields_List}
use Rattle.basics.proofs.Lists.{length-mapped}
use Rattle.rules.specs.declared.Source.{Source}
use Rattle.interrupts.proofs.Scanned.{any-served}
use Rattle.interrupts.proofs.order.is_served.Goals as goal
use Rattle.interrupts.proofs.order.is_served.Goals.{Start}

five : (c : Start) → length c.args.d.sources ≡ 5
five c = search (rules, length-mapped)

pub returns : goal.returns
returns c =
    let any = any_from_yields_List (λ (s : Source). s.ius) _ _ c.any.result c.any.ensures.ran (YieldsList-from_slice c.args.d.sources cc) (λ x b q k. search (rules, tests)) in
    any ∙ any-served c.args.d (five c.before.before.before.before.before)
