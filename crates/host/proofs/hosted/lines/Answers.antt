use Prim.Native.Nat.{ℕ}
use mathlib.Core.Path.{sym, ap, ◌∙◌}
use mathlib.Core.List.{List}
use Rattle.basics.specs.Buffer.{laid_of}
use Rattle.host.specs.Bytes.{line_bytes}
use Rattle.host.specs.Calls.{called}
use Rattle.host.proofs.Wholes.{lines-refused, lines-done}
use Rattle.host.proofs.hosted.lines.Goals as goal

pub returns-in-Ok : goal.returns-in-Ok
returns-in-Ok g c =
    let s = c.args.state.now in
    let b = c.args.answer.now in
    ap (λ (x : List ℕ). called 0 s x) (c.lay.ensures.0 ∙ ap (laid_of b 0) (c.lines-in-Ok.ensures ∙ ap line_bytes c.lines.ensures))
    ∙ lines-done g.D.Hosted.restored s b g.D.Hosted.lines_of c.in-Ok.d (sym c.in-Ok.is ∙ c.opened.ensures)

pub returns-in-Err : goal.returns-in-Err
returns-in-Err g c =
    lines-refused g.D.Hosted.restored c.args.state.now c.args.answer.now g.D.Hosted.lines_of c.in-Err.code (sym c.in-Err.is ∙ c.opened.ensures)
