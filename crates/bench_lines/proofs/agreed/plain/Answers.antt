use mathlib.Core.Path.{sym, ap, ◌∙◌}
use Rattle.bench_lines.specs.Compared.{agrees}
use Rattle.bench_lines.proofs.Agreeing.{agreed-by, not-agreed, no_line}
use Rattle.bench_lines.proofs.agreed.plain.Goals as goal

pub returns-then-c : goal.returns-then-c
unfolding agrees
returns-then-c c =
    agreed-by _ _ _ _ c.line_end-e.ensures c.if-e-boards.true (ap agrees (sym c.compare.ensures ∙ c.in-Some.is) ∙ c.if-c.true)

pub returns-else-c : goal.returns-else-c
unfolding agrees
returns-else-c c =
    not-agreed _ _ _ _ c.line_end-e.ensures c.if-e-boards.true (ap agrees (sym c.compare.ensures ∙ c.in-Some.is) ∙ c.if-c.false)

pub returns-in_default : goal.returns-in_default
unfolding agrees
returns-in_default c =
    not-agreed _ _ _ _ c.line_end-e.ensures c.if-e-boards.true (ap agrees (sym c.compare.ensures ∙ c.in_default.is))

pub returns-else-e-boards : goal.returns-else-e-boards
returns-else-e-boards c = no_line _ _ _ _ c.line_end-e.ensures c.if-e-boards.false
