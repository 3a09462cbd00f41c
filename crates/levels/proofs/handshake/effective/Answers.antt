use borrow.Author.Rules.{rules}
use Rattle.rules.specs.Handshakes.{is_line}
use Rattle.rules.specs.PortData.{direction_at, special_at}
use Rattle.ports.proofs.Masks.{direction-bits, special-bits}
use Rattle.levels.proofs.handshake.effective.Goals as goal

pub returns-then-p-eq2 : goal.returns-then-p-eq2
unfolding direction_at special_at
returns-then-p-eq2 c =
    let q = c.port_at-q.result in
    let f = is_line c.args.d in
    simp (c.lines-m.ensures, direction-bits f q.direction (search rules), special-bits f q.special (search rules))
    (simp (c.if-p-eq2.true, c.port_at-q.ensures))
