use Rattle.std.proofs.Common.{◌∙◌, ap}
use Rattle.row_visit.specs.declared.Pass.{Pass}
use Rattle.row_visit.specs.Visits.{acting_of}
use Rattle.row.specs.Passes.{look_along, pass_along, row_along}
use Rattle.row.proofs.Comes.{answer-comes, row-comes}
use Rattle.row.proofs.event.Goals as goal

-- The second pass begins with what the first has found.
pub returns : goal.returns
returns c =
    let ds = c.args.row.now in
    let e = c.args.e in
    let acting = c.acting.ensures ∙ ap acting_of (c.look-looked.ensures ∙ ap (look_along ds) c.looking.ensures) in (
      ap (λ (s : Pass). s.answer) (c.act.ensures.0 ∙ ap (pass_along ds) acting) ∙ answer-comes ds e,
      c.act.ensures.1 ∙ ap (row_along ds) acting ∙ row-comes ds e,
    )
