-- One law over a list of entries: bodies laid one behind the other have the entries' lengths together, and each is found at its
-- offset; and parts cut out of an image at the offsets are, one behind the other, the image again.
-- Assumes nothing.
use Rattle.std.specs.Prelude.{if◌then◌else◌, ◌==◌}
use Prim.Native.Nat.{ℕ, zero, suc, ◌+◌, ◌≤◌, ◌<◌}
use mathlib.Core.Path.{◌≡◌, refl, sym, ap, ap₂, subst, ◌∙◌}
use mathlib.Core.Bool.{Bool, true, false, cond}
use mathlib.Core.List.{List, [], ◌∷◌, ◌++◌, append-nil, append_assoc}
use native.Mathlib.Omega.{arith}
use lib.Dec.{lit<}
use lib.ListN.{length, take, drop, length-append, length-drop}
use lib.Seq.{take_at, drop_at, take-add, length-take-le, get_or-drop}
use Rattle.bodies.specs.Layout.{Entry, offset_from, size_in, sizes_from, part}
use Rattle.bodies.specs.Written.{bodies_from}
use Rattle.bodies.specs.Taken.{Bytes}

-- ---- out
module _ (body : ℕ → List ℕ) where
  -- the entries say how long their bodies are
  abbrev pub Sized : List Entry → Type 0
  Sized [] = Unit {0}
  Sized (e ∷ es) = (length (body e.id) ≡ e.size) × Sized es

  -- the body of an id, if one of the entries has it
  abbrev pub body_among : List Entry → ℕ → List ℕ
  body_among [] id = []
  body_among (e ∷ es) id = if e.id == id then body e.id else body_among es id

  pub bodies-length : (es : List Entry) → Sized es → length (bodies_from body es) ≡ sizes_from es
  bodies-length [] s = refl
  bodies-length (e ∷ es) s = length-append (body e.id) (bodies_from body es) ∙ ap₂ ◌+◌ s.0 (bodies-length es s.1)

  pub found : (xs : List ℕ) (o : ℕ) (es : List Entry) (id : ℕ) → length xs ≡ o → Sized es
      → part (offset_from o es id) (size_in es id) (xs ++ bodies_from body es) ≡ body_among es id
  found xs o [] id n s = refl
  found xs o (e ∷ es) id n s = here (e.id == id) (found (xs ++ body e.id) (o + e.size) es id further s.1)
    where
      further : length (xs ++ body e.id) ≡ o + e.size
      further = length-append xs (body e.id) ∙ ap₂ ◌+◌ n s.0

      here : (t : Bool) → part (offset_from (o + e.size) es id) (size_in es id) (xs ++ body e.id ++ bodies_from body es) ≡ body_among es id
          → part (cond t o (offset_from (o + e.size) es id)) (cond t e.size (size_in es id)) (xs ++ (body e.id ++ bodies_from body es))
          ≡ cond t (body e.id) (body_among es id)
      here true h = ap (take e.size) (drop_at xs (body e.id ++ bodies_from body es) o n) ∙ take_at (body e.id) (bodies_from body es) e.size s.0
      here false h = ap (part (offset_from (o + e.size) es id) (size_in es id)) (sym (append_assoc xs (body e.id) (bodies_from body es))) ∙ h

-- ---- in: a part of a list of bytes
bytes_take : (n : ℕ) (s : List ℕ) → Bytes s → Bytes (take n s)
bytes_take zero s h k = lit< tt
bytes_take (suc n) [] h k = lit< tt
bytes_take (suc n) (x ∷ s) h zero = h 0
bytes_take (suc n) (x ∷ s) h (suc k) = bytes_take n s (λ j. h (suc j)) k

pub bytes-part : (o n : ℕ) (s : List ℕ) → Bytes s → Bytes (part o n s)
bytes-part o n s h = bytes_take n (drop o s) (λ k. subst (λ (x : ℕ). x < 256) (sym (get_or-drop o s k 0)) (h (o + k)))

pub part_length : (o n : ℕ) (s : List ℕ) → o + n ≤ length s → length (part o n s) ≡ n
part_length o n s h = length-take-le n (drop o s) (subst (λ (m : ℕ). n ≤ m) (sym (length-drop o s)) (omega arith))

-- what stands before some entries and the parts of the entries are the image up to their end
abbrev pub parts_from : ℕ → List Entry → List ℕ → List ℕ
parts_from o [] s = []
parts_from o (e ∷ es) s = part o e.size s ++ parts_from (o + e.size) es s

pub together : (o : ℕ) (es : List Entry) (s : List ℕ) → take o s ++ parts_from o es s ≡ take (o + sizes_from es) s
together o [] s =
    let end : o ≡ o + 0 = omega arith in append-nil (take o s) ∙ ap (λ (n : ℕ). take n s) end
together o (e ∷ es) s =
    let rest = parts_from (o + e.size) es s in
    let end : o + e.size + sizes_from es ≡ o + (e.size + sizes_from es) = omega arith in
    sym (append_assoc (take o s) (part o e.size s) rest) ∙ ap (λ (l : List ℕ). l ++ rest) (sym (take-add o e.size s))
    ∙ together (o + e.size) es s ∙ ap (λ (n : ℕ). take n s) end
