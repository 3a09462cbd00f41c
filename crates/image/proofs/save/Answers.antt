-- a refused save
-- a sound record, written into a buffer that has room
use Prim.Native.Nat.{ℕ, ◌<◌, ◌≤◌}
use mathlib.Core.Path.{◌≡◌, sym, subst, ◌∙◌}
use mathlib.Core.Bool.{true}
use mathlib.Core.List.{List, ◌++◌}
use native.Mathlib.Omega.{arith}
use lib.ListN.{length, drop}
use borrow.Author.Tests.{not-true, not-false}
use Rattle.rules.specs.Refusals.{refusal_number, code_in}
use Rattle.rules.specs.declared.Device.{Device}
use Rattle.rules.specs.Record.{image_len}
use Rattle.rules.specs.Sound.{sound_of}
use Rattle.bodies.specs.Layout.{layout_of, length_of}
use Rattle.bodies.specs.Written.{image_of}
use Rattle.bodies.proofs.LayoutLaw.{length-of}
use Rattle.image.specs.Image.{save_code, saved_of}
use Rattle.image.proofs.Codes.{save-9, save-7, save-0}
use Rattle.image.proofs.Answers.{saved-whole, untouched}
use Rattle.image.proofs.Laying.{size-1, size-2, over-1, over-2}
use Rattle.image.proofs.save.Goals as goal

refused : (d : Device) (e : List ℕ) (n : ℕ) → save_code d (length e) ≡ n → (n ≡ 0 → ⊥) → (n ≡ save_code d (length e)) × (e ≡ saved_of d e)
refused d e n code not-0 = (sym code, sym (untouched d e (λ h. not-0 (sym code ∙ h))))

filled : (d : Device) (e exit : List ℕ) → sound_of d ≡ true → image_len d.version ≤ length e
    → exit ≡ image_of d ++ drop (length_of (layout_of d)) e → (0 ≡ save_code d (length e)) × (exit ≡ saved_of d e)
filled d e exit sound room written =
    let code = (save-0 d (length e)).1 (sound, subst (λ (n : ℕ). n ≤ length e) (sym (length-of d)) room) in
    (sym code, written ∙ sym (saved-whole d e code))

pub returns-then-not-sound : goal.returns-then-not-sound
unfolding code_in refusal_number
returns-then-not-sound c =
    let a = c.args in
    let unsound = sym c.sound.ensures ∙ not-true _ c.if-not-sound.true-raw in
    refused a.d a.buf.now 9 ((save-9 a.d (length a.buf.now)).1 unsound) (λ e. omega arith)

pub returns-then-buf-image_len : goal.returns-then-buf-image_len
unfolding code_in refusal_number
returns-then-buf-image_len c =
    let a = c.args in
    let sound = sym c.sound.ensures ∙ not-false _ c.if-not-sound.false-raw in
    let short = subst (λ (n : ℕ). length a.buf.now < n) (c.image_len.ensures ∙ sym (length-of a.d)) c.if-buf-image_len.true in
    refused a.d a.buf.now 7 ((save-7 a.d (length a.buf.now)).1 (sound, short)) (λ e. omega arith)

pub write_by-requires : goal.write_by-requires
write_by-requires c =
    let a = c.args in
    let room = subst (λ (n : ℕ). n ≤ length a.buf.now) c.image_len.ensures c.if-buf-image_len.false in
    (omega arith, subst (λ (n : ℕ). n ≤ length a.buf.now) (sym (size-1 a.d c.if-d-eq1.true)) room)

pub write_by-requires-else-d-eq1 : goal.write_by-requires-else-d-eq1
write_by-requires-else-d-eq1 c =
    let a = c.args in
    let room = subst (λ (n : ℕ). n ≤ length a.buf.now) c.image_len.ensures c.if-buf-image_len.false in
    (omega arith, subst (λ (n : ℕ). n ≤ length a.buf.now) (sym (size-2 a.d c.if-d-eq1.false)) room)

pub returns-then-d-eq1 : goal.returns-then-d-eq1
unfolding code_in refusal_number
returns-then-d-eq1 c =
    let a = c.args in
    let sound = sym c.sound.ensures ∙ not-false _ c.if-not-sound.false-raw in
    let room = subst (λ (n : ℕ). n ≤ length a.buf.now) c.image_len.ensures c.if-buf-image_len.false in
    filled a.d a.buf.now _ sound room (c.write_by.ensures ∙ over-1 a.d a.buf.now c.if-d-eq1.true)

pub returns-else-d-eq1 : goal.returns-else-d-eq1
unfolding code_in refusal_number
returns-else-d-eq1 c =
    let a = c.args in
    let sound = sym c.sound.ensures ∙ not-false _ c.if-not-sound.false-raw in
    let room = subst (λ (n : ℕ). n ≤ length a.buf.now) c.image_len.ensures c.if-buf-image_len.false in
    filled a.d a.buf.now _ sound room (c.write_by-else-d-eq1.ensures ∙ over-2 a.d a.buf.now c.if-d-eq1.false)
