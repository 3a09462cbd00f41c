-- Each turn takes the place in the piece on, and says the bytes up to it.
-- Assumes nothing.
use Rattle.std.proofs.Common.{ap, sym, subst, rules}
use Rattle.std.proofs.KnownBytes.{Appends-nil}
use native.Mathlib.Omega.{arith}
use Rattle.std.specs.Io.KnownBytes.{Appends}
use Rattle.session.proofs.Feeding.{feeds-on}
use Rattle.session.specs.declared.Fed.{Fed}
use Rattle.console.proofs.Said.{none-after, none-answered, said-short, said-after, said-wrote}
use Rattle.console.proofs.answer_piece.Goals as goal

pub loop-at-init : goal.loop-at-init
loop-at-init g c =
    let u = g.W.Write.contents c.args.answers.now in
    (c.requires, omega arith, sym (none-after c.args.s), subst (Appends u u) (sym (none-answered c.args.s)) (Appends-nil u))

pub loop-at-smaller : goal.loop-at-smaller
loop-at-smaller g c =
    let n = ap (λ (f : Fed). f.next) c.feed-f.ensures.value in
    let m = feeds-on c.loop-at.t c.args.piece.now c.loop-at.at c.loop-at.out c.loop-at.invariant.0 c.loop-at-test.true in
    omega (arith, n, m)

pub loop-at-preserved : goal.loop-at-preserved
loop-at-preserved g c =
    let l = c.loop-at in
    let i = l.invariant in
    let f = c.feed-f in
    let u = g.W.Write.contents c.args.answers.now in
    let v = g.W.Write.contents l.answers in
    let w = g.W.Write.contents c.write_all.new.self in
    let writes = c.in-Ok.ensures.bytes in (
      search rules,
      said-short c.args.s l.t c.args.piece.now l.out f.new.out l.at f.result u v w i.1 i.2 i.3 f.ensures.value f.ensures.out_after writes,
      said-after c.args.s l.t c.args.piece.now l.out f.new.out l.at f.result u v w i.1 i.2 i.3 f.ensures.value f.ensures.out_after writes,
      said-wrote c.args.s l.t c.args.piece.now l.out f.new.out l.at f.result u v w i.1 i.2 i.3 f.ensures.value f.ensures.out_after writes,
    )
