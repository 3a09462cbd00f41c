use Rattle.std.proofs.Common.{◌∙◌, ap, ◌++◌, drop}
use Rattle.row_bridge.specs.Boards.{boarded, boarded_at}
use Rattle.row_bridge.proofs.event.Goals as goal

pub returns : goal.returns
unfolding boarded
returns c =
    let ds = c.args.devices in
    let a = c.event-answer.ensures in
    let n = c.few-n.result in
    (λ i. record { devices = a.1 i ++ drop n ds; answer = a.0 i }) ∙ ap (boarded_at ds c.args.e) c.few-n.ensures.0
