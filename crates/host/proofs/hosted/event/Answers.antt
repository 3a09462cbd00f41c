use mathlib.Core.Path.{sym, ap, ◌∙◌}
use Rattle.basics.specs.Buffer.{laid_of}
use Rattle.rules.specs.declared.Outcome.{Outcome}
use Rattle.host.specs.Calls.{called}
use Rattle.host.proofs.Wholes.{refused, done}
use Rattle.host.proofs.hosted.event.Goals as goal

pub returns-in-Ok : goal.returns-in-Ok
returns-in-Ok g c =
    let s = c.args.state.now in
    let b = c.args.answer.now in
    c.settle.ensures
    ∙ ap (λ (o : Outcome g.row.D.Denot g.row.D-Answer.Denot). called (g.D.Hosted.code_of o.answer) (g.D.Hosted.saved o.device s) (laid_of b 0 (g.D.Hosted.bytes_of o.answer))) c.event.ensures
    ∙ done g.D.Hosted.restored s b g.D.Hosted.saved g.D.Hosted.code_of g.D.Hosted.bytes_of
    c.ANSWER.result (λ a. g.met.D.Hosted.long a ∙ sym c.ANSWER.ensures) (λ d. g.D.Hosted.happened d c.args.e) c.in-Ok.d (sym c.in-Ok.is ∙ c.opened.ensures)

pub returns-in-Err : goal.returns-in-Err
returns-in-Err g c =
    refused g.D.Hosted.restored c.args.state.now c.args.answer.now g.D.Hosted.saved g.D.Hosted.code_of g.D.Hosted.bytes_of
    c.ANSWER.result (λ a. g.met.D.Hosted.long a ∙ sym c.ANSWER.ensures) (λ d. g.D.Hosted.happened d c.args.e) c.in-Err.code (sym c.in-Err.is ∙ c.opened.ensures)
