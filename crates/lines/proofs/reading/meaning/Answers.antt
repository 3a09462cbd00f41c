use mathlib.Core.Path.{refl, ◌∙◌}
use native.Mathlib.Omega.{arith}
use Rattle.std.proofs.lemmas.List.{take_rest}
use Rattle.lines.proofs.Words.{one_said, two_said, three_said, unfit_line, line_X, line_W, line_R, line_P, line_T, line_K, line_E, none-line}
use Rattle.lines.proofs.reading.meaning.Goals as goal

pub returns-then-n : goal.returns-then-n
returns-then-n c = unfit_line c.args.s.now c.if-n.true

pub returns-in-88-eq1 : goal.returns-in-88-eq1
returns-in-88-eq1 c = c.said.ensures ∙ line_X c.args.s.now c.in-88-eq1.is-0 c.in-88-eq1.is-1

pub returns-in_err-number-in-87-eq7 : goal.returns-in_err-number-in-87-eq7
unfolding two_said
returns-in_err-number-in-87-eq7 c = c.from_residual.ensures ∙ line_W c.args.s.now c.in-87-eq7.is-0 c.in-87-eq7.is-1 c.in_err-number-in-87-eq7.ensures refl

pub returns-in_err-number-in-87-eq7-2 : goal.returns-in_err-number-in-87-eq7-2
unfolding two_said
returns-in_err-number-in-87-eq7-2 c = c.from_residual-in_err-number-in-87-eq7-2.ensures ∙ line_W c.args.s.now c.in-87-eq7.is-0 c.in-87-eq7.is-1 c.in_ok-number-in-87-eq7.ensures c.in_err-number-in-87-eq7-2.ensures

pub returns-in_ok-number-in-87-eq7-2 : goal.returns-in_ok-number-in-87-eq7-2
unfolding two_said
returns-in_ok-number-in-87-eq7-2 c = c.said-in-87-eq7.ensures ∙ line_W c.args.s.now c.in-87-eq7.is-0 c.in-87-eq7.is-1 c.in_ok-number-in-87-eq7.ensures c.in_ok-number-in-87-eq7-2.ensures

pub returns-in_err-number-in-82-eq4 : goal.returns-in_err-number-in-82-eq4
unfolding one_said
returns-in_err-number-in-82-eq4 c = c.from_residual-in_err-number-in-82-eq4.ensures ∙ line_R c.args.s.now c.in-82-eq4.is-0 c.in-82-eq4.is-1 c.in_err-number-in-82-eq4.ensures

pub returns-in_ok-number-in-82-eq4 : goal.returns-in_ok-number-in-82-eq4
unfolding one_said
returns-in_ok-number-in-82-eq4 c = c.said-in-82-eq4.ensures ∙ line_R c.args.s.now c.in-82-eq4.is-0 c.in-82-eq4.is-1 c.in_ok-number-in-82-eq4.ensures

pub returns-in_err-number-in-69-eq4 : goal.returns-in_err-number-in-69-eq4
unfolding one_said
returns-in_err-number-in-69-eq4 c = c.from_residual-in_err-number-in-69-eq4.ensures ∙ line_E c.args.s.now c.in-69-eq4.is-0 c.in-69-eq4.is-1 c.in_err-number-in-69-eq4.ensures

pub returns-in_ok-number-in-69-eq4 : goal.returns-in_ok-number-in-69-eq4
unfolding one_said
returns-in_ok-number-in-69-eq4 c = c.said-in-69-eq4.ensures ∙ line_E c.args.s.now c.in-69-eq4.is-0 c.in-69-eq4.is-1 c.in_ok-number-in-69-eq4.ensures

pub returns-in_err-number-in-80-eq10 : goal.returns-in_err-number-in-80-eq10
unfolding three_said
returns-in_err-number-in-80-eq10 c = c.from_residual-in_err-number-in-80-eq10.ensures ∙ line_P c.args.s.now c.in-80-eq10.is-0 c.in-80-eq10.is-1 c.in_err-number-in-80-eq10.ensures refl refl

pub returns-in_err-number-in-80-eq10-2 : goal.returns-in_err-number-in-80-eq10-2
unfolding three_said
returns-in_err-number-in-80-eq10-2 c = c.from_residual-in_err-number-in-80-eq10-2.ensures ∙ line_P c.args.s.now c.in-80-eq10.is-0 c.in-80-eq10.is-1 c.in_ok-number-in-80-eq10.ensures c.in_err-number-in-80-eq10-2.ensures refl

pub returns-in_err-number-in-80-eq10-3 : goal.returns-in_err-number-in-80-eq10-3
unfolding three_said
returns-in_err-number-in-80-eq10-3 c = c.from_residual-in_err-number-in-80-eq10-3.ensures ∙ line_P c.args.s.now c.in-80-eq10.is-0 c.in-80-eq10.is-1 c.in_ok-number-in-80-eq10.ensures c.in_ok-number-in-80-eq10-2.ensures c.in_err-number-in-80-eq10-3.ensures

pub returns-in_ok-number-in-80-eq10-3 : goal.returns-in_ok-number-in-80-eq10-3
unfolding three_said
returns-in_ok-number-in-80-eq10-3 c = c.said-in-80-eq10.ensures ∙ line_P c.args.s.now c.in-80-eq10.is-0 c.in-80-eq10.is-1 c.in_ok-number-in-80-eq10.ensures c.in_ok-number-in-80-eq10-2.ensures c.in_ok-number-in-80-eq10-3.ensures

pub returns-in-84-default : goal.returns-in-84-default
returns-in-84-default c = simp take_rest at c.clocks.ensures ∙ line_T c.args.s.now c.if-n.false c.in-84-default.is-0

pub returns-in-75-eq1 : goal.returns-in-75-eq1
returns-in-75-eq1 c = c.said-in-75-eq1.ensures ∙ line_K c.args.s.now c.in-75-eq1.is-0 c.in-75-eq1.is-1

pub returns-in_default : goal.returns-in_default
returns-in_default c = none-line c.args.s.now c.if-n.false (λ f. omega arith) (λ e f. omega arith) (λ e f. omega arith) (λ e f. omega arith) (λ e f. omega arith) (λ e f. omega arith) (λ e f. omega arith)

pub returns-in_default-2 : goal.returns-in_default-2
returns-in_default-2 c = none-line c.args.s.now c.if-n.false (λ f. omega arith) (λ e f. omega arith) (λ e f. omega arith) (λ e f. omega arith) (λ e f. omega arith) (λ e f. omega arith) (λ e f. omega arith)

pub returns-in_default-3 : goal.returns-in_default-3
returns-in_default-3 c = none-line c.args.s.now c.if-n.false (λ f. omega arith) (λ e f. omega arith) (λ e f. omega arith) (λ e f. omega arith) (λ e f. omega arith) (λ e f. omega arith) (λ e f. omega arith)

pub returns-in_default-4 : goal.returns-in_default-4
returns-in_default-4 c = none-line c.args.s.now c.if-n.false (λ f. omega arith) (λ e f. omega arith) (λ e f. omega arith) (λ e f. omega arith) (λ e f. omega arith) (λ e f. omega arith) (λ e f. omega arith)

pub returns-in_default-5 : goal.returns-in_default-5
returns-in_default-5 c = none-line c.args.s.now c.if-n.false (λ f. omega arith) (λ e f. omega arith) (λ e f. omega arith) (λ e f. omega arith) (λ e f. omega arith) (λ e f. omega arith) (λ e f. omega arith)

pub returns-in_default-6 : goal.returns-in_default-6
returns-in_default-6 c = none-line c.args.s.now c.if-n.false (λ f. omega arith) (λ e f. omega arith) (λ e f. omega arith) (λ e f. omega arith) (λ e f. omega arith) (λ e f. omega arith) (λ e f. omega arith)

pub returns-in_default-7 : goal.returns-in_default-7
returns-in_default-7 c = none-line c.args.s.now c.if-n.false (λ f. omega arith) (λ e f. omega arith) (λ e f. omega arith) (λ e f. omega arith) (λ e f. omega arith) (λ e f. omega arith) (λ e f. omega arith)
