use mathlib.Core.Path.{sym, ap, ◌∙◌}
use Rattle.basics.specs.Buffer.{laid_of}
use Rattle.rules.specs.declared.Outcome.{Outcome}
use Rattle.ctc_rules.specs.declared.Ctc.{Ctc}
use Rattle.ctc_rules.specs.declared.CtcAnswer.{CtcAnswer}
use Rattle.ctc_rules.specs.Events.{end_of_service}
use Rattle.ctc_image.specs.Image.{saved_ctc, restored_ctc}
use Rattle.host.specs.Bytes.{ctc_bytes, ctc_len}
use Rattle.host.specs.Calls.{called, hosted, host_ctc}
use Rattle.host.specs.Laws.{ctc_long}
use Rattle.host.proofs.Wholes.{refused, done}
use Rattle.host.proofs.wolfscarer_ctc_end_of_service.Goals as goal

pub returns-in-Ok : goal.returns-in-Ok
unfolding hosted host_ctc
returns-in-Ok c =
    let s = c.args.state.now in
    let b = c.args.answer.now in
    c.settle.ensures
    ∙ ap (λ (o : Outcome Ctc CtcAnswer). called o.answer.code (saved_ctc o.device s) (laid_of b 0 (ctc_bytes o.answer))) c.end_of_service.ensures
    ∙ done restored_ctc s b saved_ctc (λ a. a.code) ctc_bytes ctc_len ctc_long end_of_service c.in-Ok.d (sym c.in-Ok.is ∙ c.opened.ensures)

pub returns-in-Err : goal.returns-in-Err
unfolding hosted host_ctc
returns-in-Err c =
    refused restored_ctc c.args.state.now c.args.answer.now saved_ctc (λ a. a.code) ctc_bytes ctc_len ctc_long end_of_service _ (sym c.in-Err.is ∙ c.opened.ensures)
