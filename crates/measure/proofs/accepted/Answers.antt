use Rattle.std.proofs.Common.{◌∙◌, ltb-false, eq-eqb}
use Rattle.measure.proofs.Calls.{ticks-device}
use Rattle.measure.proofs.accepted.Goals as goal

pub ticked-requires : goal.ticked-requires
ticked-requires c =
    let a = c.args in
    let p = c.requires in
    let t = eq-eqb a.e.kind 4 c.if-e-eq-T.true in
    (p.2 ∙ ticks-device a.d a.e p.0 t, ltb-false _ _ (simp t at p.1))
