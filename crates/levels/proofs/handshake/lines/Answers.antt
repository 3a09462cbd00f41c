use Rattle.rules.specs.Record.{pattern_at}
use Rattle.rules.specs.Handshakes.{handshakes, is_line}
use Rattle.ports.proofs.Masks.{at-lines}
use Rattle.levels.proofs.handshake.lines.Goals as goal

pub returns : goal.returns
unfolding is_line
returns c =
    simp (c.at_lines.ensures, c.handshakes_at-2.ensures, c.handshakes_at.ensures)
    (at-lines (λ p. handshakes (pattern_at c.args.d p)))
