use mathlib.Core.Path.{◌≡◌}
use native.Mathlib.Omega.{arith}
use lib.ListN.{length}
use Rattle.bench_lines.proofs.Reading.{read_none, read_more, read-space, read-end}
use Rattle.bench_lines.proofs.fields.field_end.Goals as goal

pub loop-i-init : goal.loop-i-init
loop-i-init c = read_none c.args.line.now c.args.at

pub returns-then-line-i-eq32 : goal.returns-then-line-i-eq32
returns-then-line-i-eq32 c = read-space _ _ _ (omega arith) c.loop-i-test.true c.loop-i.invariant c.if-line-i-eq32.true

pub loop-i-preserved : goal.loop-i-preserved
loop-i-preserved c = read_more _ _ _ (omega arith) c.loop-i-test.true c.loop-i.invariant c.if-line-i-eq32.false

pub returns : goal.returns
returns c =
    let i : c.loop-i.i ≡ length c.args.line.now = omega arith in
    rw i at (read-end _ _ _ (omega arith) i c.loop-i.invariant)
