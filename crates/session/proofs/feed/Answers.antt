-- So far the session and the answers are those of the bytes read.
use Prim.Native.Nat.{ℕ, ◌+◌, ◌≤◌, ◌<◌}
use mathlib.Core.Bool.{true, ◌&&◌}
use mathlib.Core.List.{List}
use mathlib.Core.Path.{◌≡◌, sym, ap, subst, ◌∙◌}
use native.Mathlib.Omega.{arith}
use borrow.Author.Tests.{ltb-true, leb-true}
use lib.Dec.{ltb, leb}
use lib.ListN.{length}
use Rattle.texts.specs.Kept.{text_room}
use Rattle.chip.specs.declared.Chip.{Chip}
use Rattle.session.specs.Sessions.{fed_of}
use Rattle.session.specs.declared.Fed.{Fed}
use Rattle.basics.proofs.Tests.{both}
use Rattle.session.proofs.Feeding.{SoFar, none_yet, one_more, at-end, len-within, out-length, fed-on}
use Rattle.session.proofs.feed.Goals as goal

-- in a turn there are bytes left, and room for an answer
going : (f : Fed) (piece out : List ℕ) → (ltb f.next (length piece) && leb (f.len + text_room) (length out)) ≡ true
    → (f.next < length piece) × (f.len + text_room ≤ length out)
going f piece out h =
    let e = both (ltb f.next (length piece)) (leb (f.len + text_room) (length out)) h in
    (ltb-true f.next (length piece) e.0, leb-true (f.len + text_room) (length out) e.1)

pub loop-f-init : goal.loop-f-init
loop-f-init c =
    let a = c.args in
    subst (λ (d : Chip). SoFar a.s a.piece.now a.at a.out.now (record { session = record { device = d; text = a.s.text }; next = a.at; len = 0 }) a.out.now)
    (sym c.of.ensures) (none_yet _ _ _ _)

pub overflow_add-f : goal.overflow_add-f
overflow_add-f c =
    let l = c.loop-f in
    let a = c.args in
    let n = len-within a.s a.piece.now a.at a.out.now (fed_of l.f) l.out l.invariant in
    let o = out-length a.s a.piece.now a.at a.out.now (fed_of l.f) l.out l.invariant in
    omega arith

pub take_line-f-requires : goal.take_line-f-requires
take_line-f-requires c =
    let l = c.loop-f in
    let a = c.args in
    (going (fed_of l.f) a.piece.now l.out c.loop-f-test.true).1

pub loop-f-smaller : goal.loop-f-smaller
loop-f-smaller c =
    let g = going (fed_of c.loop-f.f) c.args.piece.now c.loop-f.out c.loop-f-test.true in
    let h = fed-on (fed_of c.loop-f.f) c.args.piece.now g.0 in
    let n = ap (λ (f : Fed). f.next) c.take_line-f.ensures.value in
    omega arith

pub loop-f-preserved : goal.loop-f-preserved
loop-f-preserved c =
    let l = c.loop-f in
    let a = c.args in
    let told = c.take_line-f.ensures in
    let g = going (fed_of l.f) a.piece.now l.out c.loop-f-test.true in
    one_more a.s a.piece.now a.at a.out.now (fed_of l.f) l.out l.invariant (fed_of c.take_line-f.result) _ g.1 told.value told.out_after

pub returns : goal.returns
returns c =
    let l = c.loop-f in
    let a = c.args in
    let e = at-end a.s a.piece.now a.at a.out.now (fed_of l.f) l.out l.invariant c.loop-f-test.false in
    record {
      value = ap (λ (d : Chip). record { session = record { device = d; text = l.f.text }; next = l.f.next; len = l.f.len }) c.device.ensures ∙ e.0;
      out_after = e.1;
      len_in_bounds = len-within a.s a.piece.now a.at a.out.now (fed_of l.f) l.out l.invariant;
    }
