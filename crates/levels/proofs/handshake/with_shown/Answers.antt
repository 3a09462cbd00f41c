use borrow.Author.Rules.{rules}
use Rattle.rules.specs.Record.{pattern_at}
use Rattle.rules.specs.Handshakes.{handshakes, shown_at, is_line}
use Rattle.rules.specs.PortData.{lined}
use Rattle.ports.proofs.Masks.{at-lines, lined-bits}
use Rattle.levels.proofs.handshake.with_shown.Goals as goal

pub returns : goal.returns
unfolding lined is_line
returns c =
    let a = c.args in
    simp (c.at_lines-shown.ensures, c.shown_at-2.ensures, c.shown_at.ensures, c.lines-m.ensures, at-lines (λ p. shown_at a.d p))
    (lined-bits (λ p. handshakes (pattern_at a.d p)) (λ p. shown_at a.d p) a.x (search rules))
