use Prim.Native.Nat.{ℕ, ◌+◌}
use mathlib.Core.Path.{ap}
use Rattle.lines.specs.Pieces.{feed_at}
use Rattle.lines.proofs.Cutting.{feed_or_end}
use Rattle.lines.proofs.pieces.line_end.Goals as goal

pub returns : goal.returns
returns c =
    let f = feed_or_end c.rest-rest.result.now in
    let e = ap feed_at c.rest-rest.ensures in
    ap (λ (k : ℕ). c.args.at + k) (cc (f, e, c.unwrap_or.ensures, c.first_feed.ensures))
