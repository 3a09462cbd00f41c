-- `decimal` meets its contract: what is to be read after the digits passed gives what all the digits give.
-- Assumes nothing.
use Prim.Native.Nat.{ℕ, ◌+◌, ◌*◌, ◌≤◌}
use mathlib.Core.Path.{◌≡◌, sym, ap, ◌∙◌}
use native.Mathlib.Omega.{arith}
use lib.ListN.{get_or, drop}
use Rattle.lines.specs.Lines.{digit_of}
use Rattle.lines.proofs.Tests.{is_below, not-below}
use Rattle.lines.proofs.Digits.{read_on, reads_in, read_none, read_past, read_more, read-end}
use Rattle.lines.proofs.reading.decimal.Goals as goal

pub returns-in_err-d : goal.returns-in_err-d
returns-in_err-d c =
    let l = c.loop-b in
    let s = c.args.s.now in
    let h : 16 ≤ digit_of (get_or s l.b-index 0) = not-below 16 _ c.in_err-d.ensures in
    c.from_residual.ensures ∙ sym (read_none l.n l.b-index s c.loop-b-test.true (omega arith)) ∙ l.invariant ∙ reads_in _

pub returns-then-d-gt9 : goal.returns-then-d-gt9
returns-then-d-gt9 c =
    let l = c.loop-b in
    let s = c.args.s.now in
    let e = (is_below 16 (digit_of (get_or s l.b-index 0)) c.in_ok-d.ensures).0 in
    sym (read_none l.n l.b-index s c.loop-b-test.true (omega arith)) ∙ l.invariant ∙ reads_in _

pub returns-in_err-checked_mul : goal.returns-in_err-checked_mul
returns-in_err-checked_mul c =
    let l = c.loop-b in
    let s = c.args.s.now in
    let h : 4294967296 ≤ l.n * 10 = omega (arith, c.in_err-checked_mul.ensures) in
    c.from_residual-in_err-checked_mul.ensures
    ∙ sym (read_past l.n l.b-index s c.loop-b-test.true (omega arith)) ∙ l.invariant ∙ reads_in _

pub returns-in_err-n : goal.returns-in_err-n
returns-in_err-n c =
    let l = c.loop-b in
    let s = c.args.s.now in
    let e = (is_below 16 (digit_of (get_or s l.b-index 0)) c.in_ok-d.ensures).0 in
    let m = c.in_ok-checked_mul.ensures in
    let a = c.in_err-n.ensures in
    c.from_residual-in_err-n.ensures
    ∙ sym (read_past l.n l.b-index s c.loop-b-test.true (omega (arith, c.into.ensures))) ∙ l.invariant ∙ reads_in _

pub loop-b-preserved : goal.loop-b-preserved
loop-b-preserved c =
    let l = c.loop-b in
    let s = c.args.s.now in
    let e = (is_below 16 (digit_of (get_or s l.b-index 0)) c.in_ok-d.ensures).0 in
    let m = c.in_ok-checked_mul.ensures in
    let a = c.in_ok-n.ensures in
    let v : c.in_ok-n.n ≡ l.n * 10 + digit_of (get_or s l.b-index 0) = omega (arith, c.into.ensures) in
    ap (λ (k : ℕ). read_on k (drop (l.b-index + 1) s)) v
    ∙ sym (read_more l.n l.b-index s c.loop-b-test.true (omega arith) (omega arith)) ∙ l.invariant

pub returns : goal.returns
returns c =
    let l = c.loop-b in
    sym (read-end l.n l.b-index c.args.s.now c.loop-b-test.false) ∙ l.invariant ∙ reads_in _
