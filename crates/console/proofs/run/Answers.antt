-- All that is read is answered, a last line with no line feed too.
-- Assumes nothing.
use Rattle.std.proofs.Common.{ap, sym, subst, ◌≡◌, ◌∙◌}
use Rattle.std.proofs.KnownBytes.{Appends-trans}
use Rattle.std.proofs.lemmas.Result.{IfOk-weaker}
use Rattle.std.specs.Io.KnownBytes.{Appends}
use Rattle.chip.specs.declared.Chip.{Chip}
use Rattle.session.specs.declared.Session.{Session}
use Rattle.session.specs.Sessions.{start_of, after_of, answers_in, answers_last, device_last}
use Rattle.console.specs.Console.{Printed}
use Rattle.console.proofs.Said.{printed-is}
use Rattle.console.proofs.run.Goals as goal

pub returns-in-Ok : goal.returns-in-Ok
returns-in-Ok g c =
    let a = c.in-Ok.ensures in
    let d = c.args.d in
    let s = start_of d in
    let r = g.R.Read.remaining c.args.input.now in
    let r' = g.R.Read.remaining c.answer_all.new.input in
    let u = g.W.Write.contents c.args.answers.now in
    let v = g.W.Write.contents c.answer_all.new.answers in
    let w = g.W.Write.contents c.answer_last.new.answers in
    let begun = a.2 ∙ ap (λ (x : Session). after_of x a.0) c.start.ensures in
    let answers = subst (λ (x : Session). Appends u v (answers_in x a.0)) c.start.ensures a.3 in
    IfOk-weaker c.answer_last.result (λ (e : Chip). (e ≡ device_last c.in-Ok.s) × Appends v w (answers_last c.in-Ok.s))
    (λ (e : Chip). Printed d e r r' u w)
    (λ e l. (
      a.0,
      a.1,
      l.0 ∙ ap device_last begun,
      subst (Appends u w) (sym (printed-is d a.0))
          (Appends-trans u v w (answers_in s a.0) (answers_last (after_of s a.0)) answers
          (subst (λ (x : Session). Appends v w (answers_last x)) begun l.1)),
    ))
    c.answer_last.ensures
