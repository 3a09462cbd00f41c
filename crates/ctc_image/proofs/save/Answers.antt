-- a refused save
use Prim.Native.Nat.{ℕ}
use mathlib.Core.Path.{◌≡◌, sym, ◌∙◌}
use mathlib.Core.List.{List}
use native.Mathlib.Omega.{arith}
use lib.ListN.{length}
use borrow.Author.Tests.{not-true, not-false}
use Rattle.rules.specs.Refusals.{refusal_number, code_in}
use Rattle.ctc_rules.specs.declared.Ctc.{Ctc}
use Rattle.ctc_image.specs.Image.{save_code_ctc, saved_ctc}
use Rattle.ctc_image.proofs.Codes.{save-9, save-7, save-0, saved-whole, untouched}
use Rattle.ctc_image.proofs.save.Goals as goal

refused : (d : Ctc) (e : List ℕ) (n : ℕ) → save_code_ctc d (length e) ≡ n → (n ≡ 0 → ⊥) → (n ≡ save_code_ctc d (length e)) × (e ≡ saved_ctc d e)
refused d e n code not-0 = (sym code, sym (untouched d e (λ h. not-0 (sym code ∙ h))))

pub returns-then-not-sound : goal.returns-then-not-sound
unfolding code_in refusal_number
returns-then-not-sound c = let a = c.args in
    let unsound = sym c.sound.ensures ∙ not-true _ c.if-not-sound.true-raw in
    refused a.d a.buf.now 9 ((save-9 a.d (length a.buf.now)).1 unsound) (λ e. omega arith)

pub returns-then-buf-lt-IMAGE : goal.returns-then-buf-lt-IMAGE
unfolding code_in refusal_number
returns-then-buf-lt-IMAGE c =
    let a = c.args in
    let sound = sym c.sound.ensures ∙ not-false _ c.if-not-sound.false-raw in
    refused a.d a.buf.now 7 ((save-7 a.d (length a.buf.now)).1 (sound, c.if-buf-lt-IMAGE.true)) (λ e. omega arith)

pub returns : goal.returns
unfolding code_in refusal_number
returns c =
    let a = c.args in
    let sound = sym c.sound.ensures ∙ not-false _ c.if-not-sound.false-raw in
    let code = (save-0 a.d (length a.buf.now)).1 (sound, c.if-buf-lt-IMAGE.false) in
    (sym code, c.write.ensures ∙ sym (saved-whole a.d a.buf.now code))
