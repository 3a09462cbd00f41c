use mathlib.Core.Path.{sym, ◌∙◌}
use mathlib.Core.Bool.{cond}
use Rattle.ports.proofs.Masks.{stand-bits, kept-bits}
use borrow.Author.Rules.{rules}
use Rattle.levels.proofs.port.stand.Goals as goal

pub returns-then-output_enabled : goal.returns-then-output_enabled
returns-then-output_enabled c =
    let a = c.args in
    simp (c.spread.ensures, c.output-on.ensures, c.place-w.ensures)
    (stand-bits a.version a.c (cond a.high 4 0) a.x (search rules) (sym c.output_enabled.ensures ∙ c.if-output_enabled.true))

pub returns : goal.returns
returns c = kept-bits _ _ _ _ (search rules) (sym c.output_enabled.ensures ∙ c.if-output_enabled.false)
