-- The image of a Z8536 holds its core's of version 2: the same bodies four bytes on, behind another table. So what is told of the one is
-- told of the other.
-- Assumes nothing.
use Prim.Native.Nat.{ℕ, zero, suc, ◌+◌, ◌≤◌, ◌<◌}
use mathlib.Core.Path.{◌≡◌, refl, sym, ap, ap₂, ◌∙◌}
use mathlib.Core.Bool.{Bool, true, ◌&&◌}
use mathlib.Core.List.{List, [], ◌∷◌, ◌++◌}
use native.Mathlib.Omega.{arith}
use borrow.Author.Tests.{eq-eqb, le-ltb, ltb-true}
use lib.Dec.{ltb, lit≤, lit<}
use lib.ListN.{length, take, drop, length-append}
use lib.Seq.{take-take, drop-append-add, drop-drop}
use Rattle.z8536.specs.declared.Z8536.{Z8536}
use Rattle.bodies.specs.Layout.{layout2, layout3, layout_in, offset_of, size_of, contents_of, body_in, part}
use Rattle.bodies.specs.Written.{registers_from, registers_body, counts_body, pins_body, lines_body, transfers_body, pointer_body, image_of}
use Rattle.bodies.specs.Taken.{Bytes, device_in, clear_in}
use Rattle.basics.proofs.Tests.{both}
use Rattle.bodies.proofs.Entries.{bytes-part, part_length}
use Rattle.bodies.proofs.Whole.{image-laid-2}
use Rattle.image.specs.Image.{accepted_of, restored_in, restored_of}
use Rattle.image.specs.Pointed.{image_z8536}
use Rattle.image.proofs.Agree.{alike}
use Rattle.image.proofs.Laying.{new}

-- ---- "version 2's bodies four bytes on"
pub four-on : (id : ℕ) → 0 < id → id < 6 → (offset_of layout3 id ≡ 4 + offset_of layout2 id) × (size_of layout3 id ≡ size_of layout2 id)
four-on zero l h = absurd (omega arith)
four-on (suc zero) l h = (refl, refl)
four-on (suc (suc zero)) l h = (refl, refl)
four-on (suc (suc (suc zero))) l h = (refl, refl)
four-on (suc (suc (suc (suc zero)))) l h = (refl, refl)
four-on (suc (suc (suc (suc (suc zero))))) l h = (refl, refl)
four-on (suc (suc (suc (suc (suc (suc id)))))) l h = absurd (omega arith)

-- the image of version 2 that an image of a Z8536 holds
abbrev pub inner : List ℕ → List ℕ
inner s = contents_of layout2 ++ part 26 74 s

-- a part of it stands there four bytes on
within : (o n m : ℕ) (l : List ℕ) → o + n ≤ m → part o n (take m l) ≡ part o n l
within zero n m l h = take-take n m l (omega arith)
within (suc o) n zero l h = absurd (omega arith)
within (suc o) n (suc m) [] h = refl
within (suc o) n (suc m) (x ∷ l) h = within o n m l (omega arith)

moved : (o n : ℕ) (s : List ℕ) → o + n ≤ 74 → part (22 + o) n (inner s) ≡ part (26 + o) n s
moved o n s h =
    ap (take n) (drop-append-add (contents_of layout2) (part 26 74 s) o) ∙ within o n 74 (drop 26 s) h ∙ ap (take n) (drop-drop o 26 s)

module _ (s : List ℕ) where
  same_body : (id : ℕ) → 0 < id → id < 6 → body_in layout2 id (inner s) ≡ body_in layout3 id s
  same_body zero l h = absurd (omega arith)
  same_body (suc zero) l h = moved 0 48 s (lit≤ tt)
  same_body (suc (suc zero)) l h = moved 48 9 s (lit≤ tt)
  same_body (suc (suc (suc zero))) l h = moved 57 7 s (lit≤ tt)
  same_body (suc (suc (suc (suc zero)))) l h = moved 64 2 s (lit≤ tt)
  same_body (suc (suc (suc (suc (suc zero))))) l h = moved 66 8 s (lit≤ tt)
  same_body (suc (suc (suc (suc (suc (suc id)))))) l h = absurd (omega arith)

  -- so they tell the same record, and are as clear
  inner-told : device_in layout2 (inner s) ≡ device_in layout3 s
  unfolding device_in
  inner-told =
      simp (
        same_body 1 (lit< tt) (lit< tt),
        same_body 2 (lit< tt) (lit< tt),
        same_body 3 (lit< tt) (lit< tt),
        same_body 4 (lit< tt) (lit< tt),
        same_body 5 (lit< tt) (lit< tt),
      )

  inner-clear : clear_in layout2 (inner s) ≡ clear_in layout3 s
  unfolding clear_in
  inner-clear =
      simp (
        same_body 1 (lit< tt) (lit< tt),
        same_body 2 (lit< tt) (lit< tt),
        same_body 3 (lit< tt) (lit< tt),
        same_body 4 (lit< tt) (lit< tt),
        same_body 5 (lit< tt) (lit< tt),
      )

  inner-length : 100 ≤ length s → length (inner s) ≡ 96
  inner-length h = length-append (contents_of layout2) (part 26 74 s) ∙ ap (λ (n : ℕ). 22 + n) (part_length 26 74 s h)

  pub inner-restored : 100 ≤ length s → restored_of (inner s) ≡ accepted_of (clear_in layout3 s) (device_in layout3 s)
  unfolding restored_of layout_in restored_in
  inner-restored h =
      let n = inner-length h in
      (simp (le-ltb (length (inner s)) 22 (omega arith), alike (contents_of layout2) (contents_of layout2) refl, eq-eqb (length (inner s)) 96 n))
      ∙ ap₂ accepted_of inner-clear inner-told

  -- the core of an image with its table and its length is restored as that one is
  pub restored-core : take 26 s ≡ contents_of layout3 → length s ≡ 102 → restored_in layout3 s ≡ restored_of (inner s)
  unfolding restored_in
  restored-core t n =
      (simp (le-ltb (length s) 26 (omega arith), alike (take 26 s) (contents_of layout3) t, eq-eqb (length s) 102 n)) ∙ sym (inner-restored (omega arith))

-- ---- the image of a record: the core's, with another table and a sixth body
module _ (z : Z8536) (v : z.core.version ≡ 2) where
  newer : z.core.version ≡ 1 → ⊥
  newer o = omega arith

  pub inner-image : inner (image_z8536 z) ≡ image_of z.core
  unfolding image_z8536 registers_body registers_from counts_body pins_body lines_body transfers_body pointer_body
  inner-image = image-laid-2 z.core (new z.core newer)

  -- its bodies are those of version 2
  pub image-body : (id : ℕ) → 0 < id → id < 6 → body_in layout3 id (image_z8536 z) ≡ body_in layout2 id (image_of z.core)
  image-body id l h = sym (same_body (image_z8536 z) id l h) ∙ ap (body_in layout2 id) inner-image

  pub outer-image : contents_of layout3 ++ drop 22 (image_of z.core) ++ pointer_body z.pointer z.pointed ≡ image_z8536 z
  unfolding image_z8536 registers_body registers_from counts_body pins_body lines_body transfers_body pointer_body
  outer-image =
      ap (λ (i : List ℕ). contents_of layout3 ++ drop 22 i ++ pointer_body z.pointer z.pointed) (sym (image-laid-2 z.core (new z.core newer)))

-- ---- bytes
bytes-append : (l m : List ℕ) → Bytes l → Bytes m → Bytes (l ++ m)
bytes-append [] m g h k = h k
bytes-append (x ∷ l) m g h zero = g 0
bytes-append (x ∷ l) m g h (suc k) = bytes-append l m (λ j. g (suc j)) h k

abbrev small : List ℕ → Bool
small [] = true
small (x ∷ l) = ltb x 256 && small l

small_bytes : (l : List ℕ) → small l ≡ true → Bytes l
small_bytes [] h k = lit< tt
small_bytes (x ∷ l) h zero = ltb-true x 256 (both (ltb x 256) (small l) h).0
small_bytes (x ∷ l) h (suc k) = small_bytes l (both (ltb x 256) (small l) h).1 k

pub inner-bytes : (s : List ℕ) → Bytes s → Bytes (inner s)
inner-bytes s h = bytes-append (contents_of layout2) (part 26 74 s) (small_bytes (contents_of layout2) refl) (bytes-part 26 74 s h)
