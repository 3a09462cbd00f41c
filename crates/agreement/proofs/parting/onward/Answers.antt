-- What a line does is what its definition says, and where it does not agree nothing is passed over.
-- Assumes nothing.
use Rattle.std.proofs.Common.{ℕ, ◌+◌, ◌-◌, ◌<◌, ◌≡◌, sym, ap, ◌∙◌, length, take, drop}
use native.Mathlib.Omega.{arith}
use borrow.Author.Tests.{ltb-true}
use lib.ListN.{length-drop}
use Rattle.basics.proofs.Tests.{both}
use Rattle.chip.specs.declared.Chip.{Chip}
use Rattle.rules.specs.declared.Answer.{Answer}
use Rattle.rules.specs.declared.Outcome.{Outcome}
use Rattle.chip.specs.Chips.{event_chip}
use Rattle.lines.specs.Lines.{event_in, line_of}
use Rattle.lines.specs.Pieces.{feed_at}
use Rattle.bench_lines.specs.Agreed.{agreed_to}
use Rattle.agreement.proofs.Onward.{told, went, stays, not-gone}
use Rattle.agreement.proofs.parting.onward.Goals as goal

pub returns-then-next-a : goal.returns-then-next-a
returns-then-next-a c =
    let a = c.args.a.now in
    let read = c.args.read.now in
    let measured = c.args.measured.now in
    let m = drop a.event read in
    let long : c.line_end-e.result - a.event ≡ feed_at m = omega (arith, c.line_end-e.ensures) in
    let o : c.event-o.result ≡ told a read measured =
    c.event-o.ensures ∙ ap (event_chip a.device) (c.event_of.ensures ∙ ap (λ (n : ℕ). event_in (line_of (take n m))) long) in
    let n = c.agreed_to-next.ensures ∙ ap (λ (x : Outcome Chip Answer). agreed_to x.answer measured a.board) o in
    stays a read measured (sym n ∙ c.if-next-a.true)

pub returns-then-e-read : goal.returns-then-e-read
returns-then-e-read c =
    let a = c.args.a.now in
    let read = c.args.read.now in
    let measured = c.args.measured.now in
    let m = drop a.event read in
    let long : c.line_end-e.result - a.event ≡ feed_at m = omega (arith, c.line_end-e.ensures) in
    let o : c.event-o.result ≡ told a read measured =
    c.event-o.ensures ∙ ap (event_chip a.device) (c.event_of.ensures ∙ ap (λ (n : ℕ). event_in (line_of (take n m))) long) in
    let n = c.agreed_to-next.ensures ∙ ap (λ (x : Outcome Chip Answer). agreed_to x.answer measured a.board) o in
    let tests = both _ _ c.if-e-read.true in
    let inside : c.line_end-e.result < length read = ltb-true _ _ tests.0 in
    let e = ap (λ (k : ℕ). k + 1) c.line_end-e.ensures in
    went a read measured (λ j. record { device = (o j).device; event = e j; board = n j; agreed = a.agreed + 1 })
    (omega (arith, inside, c.line_end-e.ensures, length-drop a.event read)) tests.1 (λ h. c.if-next-a.false (n ∙ h))

pub returns : goal.returns
returns c =
    not-gone c.args.a.now c.args.read.now c.args.measured.now c.line_end-e.result c.line_end-e.ensures c.if-e-read.false
