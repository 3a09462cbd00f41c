use mathlib.Core.Path.{sym, ap, ◌∙◌}
use native.Mathlib.Omega.{arith}
use Rattle.std.proofs.lemmas.List.{take_rest}
use Rattle.lines.proofs.Words.{one_said, clocks_short, clocks_else, clocks_leading, clocks_read}
use Rattle.lines.proofs.reading.clocks.Goals as goal

pub returns-in_default : goal.returns-in_default
returns-in_default c = sym (clocks_short c.args.s.now c.in_default.len_below)

pub returns-in_default-2 : goal.returns-in_default-2
returns-in_default-2 c = sym (clocks_else c.args.s.now (omega arith))

pub returns-then-first-s : goal.returns-then-first-s
returns-then-first-s c = sym (clocks_leading c.args.s.now c.if-first-s.true)

pub returns-in_err-decimal : goal.returns-in_err-decimal
unfolding one_said
returns-in_err-decimal c =
    c.from_residual.ensures ∙ ap (one_said 4) (simp take_rest at c.in_err-decimal.ensures)
    ∙ sym (clocks_read c.args.s.now c.in-32.len_at_least (omega arith) c.if-first-s.false)

pub returns : goal.returns
unfolding one_said
returns c =
    ap (one_said 4) (simp take_rest at c.in_ok-decimal.ensures)
    ∙ sym (clocks_read c.args.s.now c.in-32.len_at_least (omega arith) c.if-first-s.false)
