use mathlib.Core.Path.{sym, ◌∙◌}
use Rattle.bench_lines.proofs.Thirteen.{all-left, none-left}
use Rattle.bench_lines.proofs.fields.first_field.Goals as goal

pub returns-then-is_empty-clause-value : goal.returns-then-is_empty-clause-value
returns-then-is_empty-clause-value c = none-left _ (sym c.is_empty.ensures ∙ c.if-is_empty.true)

pub returns-else-is_empty-clause-value : goal.returns-else-is_empty-clause-value
returns-else-is_empty-clause-value c = all-left _ (sym c.is_empty.ensures ∙ c.if-is_empty.false)
