use mathlib.Core.Path.{sym, ap, ◌∙◌}
use Rattle.basics.specs.Buffer.{laid_of}
use Rattle.chip.specs.Chips.{event_chip}
use Rattle.session.specs.Sessions.{start_of, fed_of}
use Rattle.session.proofs.Telling.{told_bytes, told_len, fed-is, whole-line, whole-fed, part-line, part-fed, laid_none}
use Rattle.session.proofs.cut_line.Goals as goal

pub returns-then-c : goal.returns-then-c
returns-then-c c =
    let a = c.args in
    let w = c.if-c.true in
    let e = c.cut_from-c.ensures in
    let o = ap (event_chip a.f.device) c.event_of_line.ensures in
    let on = c.told_on.ensures in
    record {
      value = fed-is _ _ _ _ (on.session_value ∙ ap (λ r. start_of r.device) o) on.next_value (on.len_value ∙ ap (told_len a.out.now a.f.len) o)
          ∙ whole-fed (fed_of a.f) a.piece.now a.out.now c.cut_from-c.result e w c.requires;
      out_after = on.out_after ∙ ap (told_bytes a.out.now a.f.len) o
          ∙ ap (laid_of a.out.now a.f.len) (sym (whole-line (fed_of a.f) a.piece.now a.out.now c.cut_from-c.result e w));
    }

pub returns : goal.returns
returns c =
    let a = c.args in
    let e = c.cut_from-c.ensures in
    let none = part-line (fed_of a.f) a.piece.now a.out.now c.cut_from-c.result e c.if-c.false in
    record {
      value = part-fed (fed_of a.f) a.piece.now a.out.now c.cut_from-c.result e c.if-c.false;
      out_after = sym (ap (laid_of a.out.now a.f.len) none ∙ laid_none a.out.now a.f.len);
    }
