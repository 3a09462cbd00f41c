use mathlib.Core.Path.{◌≡◌, sym, ◌∙◌}
use native.Mathlib.Omega.{arith}
use Prim.Native.Nat.{◌≤◌}
use borrow.Author.Tests.{le-leb}
use Rattle.lines.specs.Lines.{clocks_in}
use Rattle.lines.proofs.Tests.{is_below}
use Rattle.bench_lines.specs.Fields.{decimal_in}
use Rattle.bench_lines.proofs.Plain.{none-plain, plain_by}
use Rattle.bench_lines.proofs.fields.decimal_in.Goals as goal

pub returns-then-n-eq0 : goal.returns-then-n-eq0
unfolding decimal_in
returns-then-n-eq0 c = simp (none-plain c.args.f.now c.if-n-eq0.true)

pub returns-then-f-n : goal.returns-then-f-n
unfolding decimal_in
returns-then-f-n c =
    simp (plain_by c.args.f.now c.if-n-eq0.false, c.if-f-n.true)

pub returns : goal.returns
unfolding decimal_in
returns c =
    let f = c.args.f.now in
    let e : c.in_ok-d.d ≡ clocks_in f = (is_below 4294967296 _ (sym c.in_ok-d.was ∙ c.decimal.ensures)).0 in
    let h : clocks_in f ≤ c.args.most = omega arith in
    e ∙ sym (simp (plain_by f c.if-n-eq0.false, c.if-f-n.false, le-leb _ _ h))
