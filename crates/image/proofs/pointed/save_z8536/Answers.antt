-- a refused save
use Prim.Native.Nat.{ℕ}
use mathlib.Core.Path.{◌≡◌, sym, ◌∙◌}
use mathlib.Core.List.{List}
use native.Mathlib.Omega.{arith}
use lib.ListN.{length}
use borrow.Author.Tests.{not-true, not-false}
use Rattle.rules.specs.Refusals.{refusal_number, code_in}
use Rattle.z8536.specs.declared.Z8536.{Z8536}
use Rattle.z8536.proofs.Parts.{parts}
use Rattle.image.specs.Pointed.{save_code_z8536, saved_z8536}
use Rattle.image.proofs.PointedSaved.{save-9, save-7, save-0, saved-whole, untouched}
use Rattle.image.proofs.pointed.save_z8536.Goals as goal

refused : (z : Z8536) (e : List ℕ) (n : ℕ) → save_code_z8536 z (length e) ≡ n → (n ≡ 0 → ⊥)
    → (n ≡ save_code_z8536 z (length e)) × (e ≡ saved_z8536 z e)
refused z e n code not-0 = (sym code, sym (untouched z e (λ h. not-0 (sym code ∙ h))))

pub returns-then-not-sound : goal.returns-then-not-sound
unfolding code_in refusal_number
returns-then-not-sound c =
    let a = c.args in
    let unsound = sym c.sound.ensures ∙ not-true _ c.if-not-sound.true-raw in
    refused a.z a.buf.now 9 ((save-9 a.z (length a.buf.now)).1 unsound) (λ e. omega arith)

pub returns-then-buf-lt-IMAGE : goal.returns-then-buf-lt-IMAGE
unfolding code_in refusal_number
returns-then-buf-lt-IMAGE c =
    let a = c.args in
    let sound = sym c.sound.ensures ∙ not-false _ c.if-not-sound.false-raw in
    refused a.z a.buf.now 7 ((save-7 a.z (length a.buf.now)).1 (sound, c.if-buf-lt-IMAGE.true)) (λ e. omega arith)

pub write_z8536-requires : goal.write_z8536-requires
write_z8536-requires c =
    let a = c.args in
    (c.if-buf-lt-IMAGE.false, (parts a.z (sym c.sound.ensures ∙ not-false _ c.if-not-sound.false-raw)).version)

pub returns : goal.returns
unfolding code_in refusal_number
returns c =
    let a = c.args in
    let sound = sym c.sound.ensures ∙ not-false _ c.if-not-sound.false-raw in
    let code = (save-0 a.z (length a.buf.now)).1 (sound, c.if-buf-lt-IMAGE.false) in
    (sym code, c.write_z8536.ensures ∙ sym (saved-whole a.z a.buf.now code))
