use Prim.Native.Nat.{ℕ, ◌+◌, ◌-◌, ◌<◌}
use mathlib.Core.Path.{◌≡◌, refl, sym, ap, ◌∙◌}
use native.Mathlib.Omega.{arith}
use borrow.Author.Rules.{rules}
use borrow.Author.Tests.{eqb-true, ltb-true}
use lib.ListN.{length, take, drop, length-drop}
use Rattle.basics.proofs.Tests.{both}
use Rattle.basics.specs.Buffer.{laid_of}
use Rattle.chip.specs.Chips.{event_chip}
use Rattle.texts.specs.Kept.{text_room, typed}
use Rattle.texts.proofs.Keeping.{keeps-from}
use Rattle.lines.specs.Lines.{event_in, line_of, says_of}
use Rattle.lines.specs.Pieces.{feed_at}
use Rattle.lines.proofs.Cutting.{ended, cut-ended}
use Rattle.lines.proofs.Saying.{says-kept}
use Rattle.session.specs.Sessions.{start_of, fed_of}
use Rattle.session.proofs.Telling.{told_bytes, told_len, fed-is, whole-line, whole-fed}
use Rattle.session.proofs.take_line.Goals as goal

-- the line ends in the piece, and nothing is kept of it
pub returns-then-f-e : goal.returns-then-f-e
returns-then-f-e c =
    let a = c.args in
    let piece = a.piece.now in
    let i = a.f.next in
    let m = drop i piece in
    let t = a.f.text in
    let w = take (feed_at m) m in
    let b = both _ _ c.if-f-e.true in
    let empty : t.len ≡ 0 = eqb-true _ _ b.0 in
    let ends : c.line_end-e.result < length piece = ltb-true _ _ b.1 in
    let roomy : length t.bytes ≡ text_room = search rules in
    let inside : feed_at m < length m = omega (arith, c.line_end-e.ensures, length-drop i piece) in
    let k = ended (typed t w) (i + feed_at m + 1) in
    let e = sym (cut-ended t i m inside) in
    let long : c.line_end-e.result - i ≡ feed_at m = omega (arith, c.line_end-e.ensures) in
    let says : c.event_of-event.result ≡ event_in (says_of (typed t w)) =
    c.event_of-event.ensures ∙ ap (λ (n : ℕ). event_in (line_of (take n m))) long
    ∙ sym (ap event_in (says-kept (typed t w) w (keeps-from t w empty roomy))) in
    let o = ap (event_chip a.f.device) says in
    let on = c.told_on.ensures in
    record {
      value = fed-is _ _ _ _ (on.session_value ∙ ap (λ r. start_of r.device) o)
          (on.next_value ∙ ap (λ (n : ℕ). n + 1) c.line_end-e.ensures)
          (on.len_value ∙ ap (told_len a.out.now a.f.len) o)
          ∙ whole-fed (fed_of a.f) piece a.out.now k e refl c.requires;
      out_after = on.out_after ∙ ap (told_bytes a.out.now a.f.len) o
          ∙ ap (laid_of a.out.now a.f.len) (sym (whole-line (fed_of a.f) piece a.out.now k e refl));
    }
