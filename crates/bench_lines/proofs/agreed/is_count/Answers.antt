use mathlib.Core.Logic.{inl}
use mathlib.Core.Path.{sym, ◌∙◌}
use native.Mathlib.Omega.{arith}
use Rattle.texts.proofs.OneDigit.{one-digit}
use Rattle.bench_lines.proofs.Walked.{same-one}
use Rattle.bench_lines.proofs.agreed.is_count.Goals as goal

pub returns-then-x-n : goal.returns-then-x-n
returns-then-x-n c =
    let h = c.if-n-gt9.false in
    λ e. inl (same-one c.if-x-n.true ∙ sym (one-digit _ (omega arith)))
