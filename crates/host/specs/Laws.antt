-- What the trait of the devices that are hosted asks of each of them: how long its answers are and its image, and that the save of its fresh
-- device fills a buffer of that length.
-- Assumes nothing.
use Prim.Native.Nat.{ℕ}
use mathlib.Core.Path.{◌≡◌, refl, sym, ap, ◌∙◌}
use mathlib.Core.List.{List, ◌++◌, append-nil}
use native.Mathlib.Omega.{arith}
use lib.ListN.{length, drop}
use lib.Seq.{drop-length}
use Rattle.rules.specs.declared.Answer.{Answer}
use Rattle.rules.specs.Record.{fresh_of}
use Rattle.theorems.proofs.Soundness.{fresh-sound}
use Rattle.z8536.specs.Z8536.{fresh_z8536}
use Rattle.z8536.proofs.Soundness.{fresh-sound as z8536-sound}
use Rattle.ctc_rules.specs.declared.CtcAnswer.{CtcAnswer}
use Rattle.ctc_rules.specs.Record.{fresh_ctc}
use Rattle.ctc_laws.proofs.Soundness.{fresh-sound as ctc-sound}
use Rattle.bodies.specs.Layout.{layout_of}
use Rattle.bodies.specs.Written.{image_of}
use Rattle.bodies.proofs.Whole.{image-length}
use Rattle.image.specs.Image.{save_code, saved_of}
use Rattle.image.specs.Pointed.{image_z8536, save_code_z8536, saved_z8536}
use Rattle.image.proofs.Codes.{save-0}
use Rattle.image.proofs.Answers.{saved-whole}
use Rattle.image.proofs.PointedSaved.{image-length as z8536-length, save-0 as z8536-0, saved-whole as z8536-whole}
use Rattle.ctc_image.specs.Layout.{image_ctc}
use Rattle.ctc_image.specs.Image.{save_code_ctc, saved_ctc}
use Rattle.ctc_image.proofs.Codes.{image-length as ctc-length, save-0 as ctc-0, saved-whole as ctc-whole}
use Rattle.host.specs.Bytes.{count_bytes, reply_bytes, ctc_bytes, answer_len, ctc_len}

-- the answer of a Z8036 and a Z8536
pub answer_long : (a : Answer) → length (reply_bytes a) ≡ answer_len
unfolding reply_bytes count_bytes
answer_long a = refl

-- and of a CTC
pub ctc_long : (a : CtcAnswer) → length (ctc_bytes a) ≡ ctc_len
unfolding ctc_bytes count_bytes
ctc_long a = refl

-- what is saved over the first bytes of a buffer that has no others
all_of : (image s x : List ℕ) (n : ℕ) → n ≡ length s → x ≡ image ++ drop n s → x ≡ image
all_of image s x n h e =
    e ∙ ap (λ (n : ℕ). image ++ drop n s) h ∙ ap (λ (l : List ℕ). image ++ l) (drop-length s) ∙ append-nil image

pub z8036_long : length (image_of fresh_of) ≡ 96
unfolding layout_of
z8036_long = image-length fresh_of

pub z8036_fills : (s : List ℕ) → length s ≡ 96 → (save_code fresh_of (length s) ≡ 0) × (saved_of fresh_of s ≡ image_of fresh_of)
unfolding layout_of
z8036_fills s h =
    let z = (save-0 fresh_of (length s)).1 (fresh-sound, omega arith) in (z, all_of (image_of fresh_of) s _ 96 (sym h) (saved-whole fresh_of s z))

pub z8536_long : length (image_z8536 fresh_z8536) ≡ 102
z8536_long = z8536-length fresh_z8536

pub z8536_fills : (s : List ℕ) → length s ≡ 102 → (save_code_z8536 fresh_z8536 (length s) ≡ 0) × (saved_z8536 fresh_z8536 s ≡ image_z8536 fresh_z8536)
z8536_fills s h =
    let z = (z8536-0 fresh_z8536 (length s)).1 (z8536-sound, omega arith) in
    (z, all_of (image_z8536 fresh_z8536) s _ 102 (sym h) (z8536-whole fresh_z8536 s z))

pub ctc_image_long : length (image_ctc fresh_ctc) ≡ 41
ctc_image_long = ctc-length fresh_ctc

pub ctc_fills : (s : List ℕ) → length s ≡ 41 → (save_code_ctc fresh_ctc (length s) ≡ 0) × (saved_ctc fresh_ctc s ≡ image_ctc fresh_ctc)
ctc_fills s h =
    let z = (ctc-0 fresh_ctc (length s)).1 (ctc-sound, omega arith) in
    (z, all_of (image_ctc fresh_ctc) s _ 41 (sym h) (ctc-whole fresh_ctc s z))
