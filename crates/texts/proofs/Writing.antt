-- Bytes written one part after the other, into a buffer and as a text.
-- Assumes nothing.
use Prim.Native.Nat.{ℕ, ◌+◌, ◌≤◌, ◌<◌}
use mathlib.Core.List.{List, [], ◌∷◌, ◌++◌, append_assoc}
use mathlib.Core.Path.{◌≡◌, refl, sym, ap, ap₂, ◌∙◌}
use native.Mathlib.Nat.{add-zero}
use native.Mathlib.Numerals.{add-one}
use native.Mathlib.Omega.{arith}
use borrow.Author.Tests.{lt-ltb}
use lib.ListN.{length, take, drop, set, replicate, length-append, length-set}
use lib.Seq.{paste, paste-zero, take-paste, take-length, take-suc-set, drop-set-lt}
use Rattle.basics.proofs.Laying.{Laid, is-laid}
use Rattle.texts.specs.Kept.{text_room, no_text, pushed, typed}
use Rattle.texts.specs.Written.{written, Wrote}
use Rattle.texts.specs.declared.Text.{Text}

-- ---- one part after the other
written-append : (buf : List ℕ) (at : ℕ) (v w : List ℕ) → written buf at (v ++ w) ≡ written (written buf at v) (at + length v) w
unfolding written
written-append buf at [] w = ap (λ (n : ℕ). written buf n w) (sym (add-zero at))
written-append buf at (b ∷ v) w =
    written-append (set buf at b) (at + 1) v w ∙ ap (λ (n : ℕ). written (written (set buf at b) (at + 1) v) n w) (omega arith)

pub wrote-more : {buf mid out v w : List ℕ} {at r s j k : ℕ} → Wrote j buf at v mid r → Wrote k mid r w out s → Wrote (j + k) buf at (v ++ w) out s
wrote-more {buf} {mid} {out} {v} {w} {at} {r} {s} {j} {k} e f =
    let l = length-append v w in
    record {
      bytes = f.bytes ∙ ap₂ (λ (m : List ℕ) (n : ℕ). written m n w) e.bytes e.next ∙ sym (written-append buf at v w);
      next = let p = e.next in let q = f.next in omega arith;
      short = let p = e.short in let q = f.short in omega arith;
    }

pub wrote_none : (buf : List ℕ) (at : ℕ) → Wrote 1 buf at [] buf at
unfolding written
wrote_none buf at = record { bytes = refl; next = omega arith; short = omega arith }

pub wrote-longer : {buf w out : List ℕ} {at r j k : ℕ} → j ≤ k → Wrote j buf at w out r → Wrote k buf at w out r
wrote-longer {buf} {w} {out} {at} {r} {j} {k} h e = record { bytes = e.bytes; next = e.next; short = let s = e.short in omega arith }

-- ---- where it has room it is laid
pub written-length : (buf : List ℕ) (at : ℕ) (w : List ℕ) → length (written buf at w) ≡ length buf
unfolding written
written-length buf at [] = refl
written-length buf at (b ∷ w) = written-length (set buf at b) (at + 1) w ∙ length-set buf at b

written-paste : (buf : List ℕ) (at : ℕ) (w : List ℕ) → at + length w ≤ length buf → written buf at w ≡ paste buf at w (length w)
unfolding written
written-paste buf at [] h = paste-zero buf at []
written-paste buf at (b ∷ w) h =
    let n = length w in
    let l = length-set buf at b in
    let q : at + 1 + n ≡ at + length (b ∷ w) = omega arith in
    written-paste (set buf at b) (at + 1) w (omega arith)
    ∙ ap₂ (λ (x y : List ℕ). x ++ take n w ++ y)
    (ap (λ (k : ℕ). take k (set buf at b)) (add-one at) ∙ take-suc-set buf at b (omega arith))
    (drop-set-lt (at + 1 + n) buf at b (omega arith) ∙ ap (λ (k : ℕ). drop k buf) q)
    ∙ ap (λ (x : List ℕ). x ++ drop (at + length (b ∷ w)) buf) (append_assoc (take at buf) (b ∷ []) (take n w))

-- there is room for a byte after it
pub wrote-room : {buf w out : List ℕ} {at r k : ℕ} → Wrote k buf at w out r → at + k < length buf → r < length out
wrote-room {buf} {w} {out} {at} {r} {k} e h =
    let l = ap length e.bytes ∙ written-length buf at w in
    let p = e.next in
    let q = e.short in
    omega arith

pub wrote-laid : {buf w out : List ℕ} {at r k : ℕ} → Wrote k buf at w out r → at + length w ≤ length buf → Laid buf at w out r
wrote-laid {buf} {w} {out} {at} {r} {k} e h =
    let l = is-laid buf at w out h (e.bytes ∙ written-paste buf at w h) in
    (l.0, e.next ∙ l.1)

-- the bytes of it
pub wrote-take : {buf w out : List ℕ} {r k : ℕ} → Wrote k buf 0 w out r → length w ≤ length buf → take r out ≡ w
wrote-take {buf} {w} {out} {r} {k} e h =
    ap₂ (λ (n : ℕ) (o : List ℕ). take n o) e.next (e.bytes ∙ written-paste buf 0 w (omega arith))
    ∙ take-paste buf 0 w (length w) (omega arith) (omega arith)
    ∙ take-length w

-- ---- as a text
typed-written : (t : Text) (w : List ℕ) → t.len + length w ≤ text_room → typed t w ≡ record { bytes = written t.bytes t.len w; len = t.len + length w }
unfolding typed written pushed
typed-written t [] h = ap (λ (n : ℕ). record { bytes = t.bytes; len = n }) (sym (add-zero t.len))
typed-written t (b ∷ w) h =
    let more : Text = record { bytes = set t.bytes t.len b; len = t.len + 1 } in
    simp (lt-ltb t.len text_room (omega arith))
    (typed-written more w (omega arith) ∙ ap (λ (n : ℕ). record { bytes = written (set t.bytes t.len b) (t.len + 1) w; len = n }) (omega arith))

pub wrote-text : {w out : List ℕ} {r k : ℕ} → Wrote k (replicate text_room 0) 0 w out r → k ≤ text_room → record { bytes = out; len = r } ≡ typed no_text w
unfolding no_text
wrote-text {w} {out} {r} {k} e h =
    let s = e.short in
    ap₂ (λ (o : List ℕ) (n : ℕ). record { bytes = o; len = n }) e.bytes e.next ∙ sym (typed-written no_text w (omega arith))
