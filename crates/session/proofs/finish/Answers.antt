use mathlib.Core.Path.{◌≡◌, sym, ap, ◌∙◌}
use native.Mathlib.Omega.{arith}
use Rattle.basics.specs.Buffer.{laid_of}
use Rattle.chip.specs.Chips.{event_chip}
use Rattle.rules.specs.declared.Answer.{Answer}
use Rattle.rules.specs.declared.Outcome.{Outcome}
use Rattle.chip.specs.declared.Chip.{Chip}
use Rattle.session.specs.Sessions.{outcome_by}
use Rattle.session.specs.declared.Told.{Told}
use Rattle.session.proofs.Telling.{told_bytes, told_len, last_none, last_some, laid_none, finished-none, finished-some, finished-within}
use Rattle.session.proofs.finish.Goals as goal

pub returns-then-s-eq0 : goal.returns-then-s-eq0
returns-then-s-eq0 c =
    let a = c.args in
    let z = last_none a.s c.if-s-eq0.true in
    record {
      value = finished-none a.s a.out.now c.if-s-eq0.true;
      out_after = sym (ap (laid_of a.out.now 0) z ∙ laid_none a.out.now 0);
      len_in_bounds = omega arith;
    }

pub returns : goal.returns
returns c =
    let a = c.args in
    let some = c.if-s-eq0.false in
    let o : c.event-o.result ≡ outcome_by a.s.device a.s.text = c.event-o.ensures ∙ ap (event_chip a.s.device) c.event_of_line.ensures in
    let laid = c.write_answer.ensures in
    let r : Told = record { device = c.event-o.result.device; len = c.write_answer.result } in
    let e = finished-some a.s a.out.now r some (ap (λ (x : Outcome Chip Answer). x.device) o) (laid.1 ∙ ap (told_len a.out.now 0) o) in
    let n = ap (λ (r : Told). r.len) e in
    let w = finished-within a.s a.out.now in
    record {
      value = e;
      out_after = laid.0 ∙ ap (told_bytes a.out.now 0) o ∙ ap (laid_of a.out.now 0) (sym (last_some a.s some));
      len_in_bounds = omega arith;
    }
