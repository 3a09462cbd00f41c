-- Each turn reads more of the input, and answers it.
-- Assumes nothing.
use Rattle.std.proofs.Common.{rules, subst, ℕ, take}
use Rattle.std.proofs.KnownBytes.{Consumes-nil}
use Rattle.std.specs.Io.KnownBytes.{Consumes}
use Rattle.console.proofs.Said.{answered-none, answered-more}
use Rattle.console.proofs.answer_all.Goals as goal

pub loop-init : goal.loop-init
loop-init g c =
    let r = g.R.Read.remaining c.args.input.now in
    (c.requires, answered-none c.args.s r r (g.W.Write.contents c.args.answers.now) (Consumes-nil r))

pub returns-then-n-eq0 : goal.returns-then-n-eq0
returns-then-n-eq0 g c =
    let r = g.R.Read.remaining c.loop.input in
    let r' = g.R.Read.remaining c.read-n.new.input in
    let w = g.W.Write.contents c.loop.answers in
    let none = subst (λ (n : ℕ). Consumes r r' (take n c.read-n.new.buf)) c.if-n-eq0.true c.read-n.ensures.bytes in
    answered-more c.args.s c.loop.t c.loop.t (g.R.Read.remaining c.args.input.now) r r' (g.W.Write.contents c.args.answers.now) w w
    c.loop.invariant.1 (answered-none c.loop.t r r' w none)

pub loop-preserved : goal.loop-preserved
loop-preserved g c =
    let e = c.in_ok-t.ensures in (
      search rules,
      answered-more c.args.s c.loop.t c.in_ok-t.t
          (g.R.Read.remaining c.args.input.now) (g.R.Read.remaining c.loop.input) (g.R.Read.remaining c.read-n.new.input)
          (g.W.Write.contents c.args.answers.now) (g.W.Write.contents c.loop.answers) (g.W.Write.contents c.answer_piece.new.answers)
          c.loop.invariant.1 (take c.read-n.result c.read-n.new.buf, c.read-n.ensures.bytes, e.0, e.1),
    )
