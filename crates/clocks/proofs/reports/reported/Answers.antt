use native.Mathlib.Omega.{arith}
use Rattle.theorems.proofs.ReportLaws.{step_fits}
use Rattle.clocks.proofs.reports.reported.Goals as goal

pub on_top-requires : goal.on_top-requires
on_top-requires c =
    let f = step_fits c.args.s in
    simp (c.nums.ensures, c.nums-2.ensures) (record { terminals = λ i. omega (arith, c.requires.terminals i, f.terminals i); lost = λ i. omega (arith, c.requires.lost i, f.lost i) })
