-- A line read field by field: the fields from a place on, byte by byte.
-- Assumes nothing.
use Prim.Native.Nat.{ℕ, suc, ◌+◌, ◌-◌, ◌≤◌, ◌<◌}
use mathlib.Core.List.{List, [], ◌∷◌, ◌++◌}
use mathlib.Core.Path.{◌≡◌, refl, sym, ap, ◌∙◌}
use native.Mathlib.Numerals.{add-one}
use native.Mathlib.Omega.{arith}
use borrow.Author.Tests.{lt-ltb, le-ltb, eq-eqb, ne_eqb}
use lib.ListN.{length, take, drop, get_or, length-drop, drop_of_length-le}
use lib.Seq.{take-suc, drop-cons, get_or-drop}
use Rattle.texts.specs.Answers.{space}
use Rattle.bench_lines.specs.Fields.{fields_from, hole, is_hole, unmeasured, says_at}
use Rattle.bench_lines.specs.Cursor.{Ends}

-- "any field may be `-`"
pub hole-says : (place : ℕ) → says_at place hole ≡ unmeasured
unfolding says_at is_hole
hole-says place = refl

-- what came of the field that begins at a place, up to the place i
abbrev pub Read : List ℕ → ℕ → ℕ → Type 0
Read w at i = fields_from [] (drop at w) ≡ fields_from (take (i - at) (drop at w)) (drop i w)

pub read_none : (w : List ℕ) (at : ℕ) → Read w at at
unfolding fields_from
read_none w at = let e : at - at ≡ 0 = omega arith in simp e

module _ (w : List ℕ) (at i : ℕ) (from : at ≤ i) (h : i < length w) (r : Read w at i) where
  at_byte : drop i w ≡ get_or w i 0 ∷ drop (i + 1) w
  at_byte = drop-cons w i 0 h ∙ ap (λ (k : ℕ). get_or w i 0 ∷ drop k w) (sym (add-one i))

  -- the byte at i belongs to the field
  pub read_more : (get_or w i 0 ≡ space → ⊥) → Read w at (i + 1)
  unfolding fields_from
  read_more n =
      let k : i + 1 - at ≡ suc (i - at) = omega arith in
      let l : i - at < length (drop at w) = omega (arith, length-drop at w) in
      let b : get_or (drop at w) (i - at) 0 ≡ get_or w i 0 = get_or-drop at w (i - at) 0 ∙ ap (λ (m : ℕ). get_or w m 0) (omega arith) in
      let t : take (i + 1 - at) (drop at w) ≡ take (i - at) (drop at w) ++ (get_or w i 0 ∷ []) =
      ap (λ (m : ℕ). take m (drop at w)) k ∙ take-suc (drop at w) (i - at) 0 l
      ∙ ap (λ (x : ℕ). take (i - at) (drop at w) ++ (x ∷ [])) b
      in
      r ∙ ap (fields_from (take (i - at) (drop at w))) at_byte ∙ (simp (ne_eqb (get_or w i 0) space n, t))

  -- it ends the field
  pub read-space : get_or w i 0 ≡ space → Ends w at i
  unfolding fields_from
  read-space e =
      record {
        from = from;
        within = omega arith;
        fields = r ∙ ap (fields_from (take (i - at) (drop at w))) at_byte ∙ (simp (eq-eqb (get_or w i 0) space e, lt-ltb i (length w) h));
      }

-- the line ends
pub read-end : (w : List ℕ) (at i : ℕ) → at ≤ i → i ≡ length w → Read w at i → Ends w at i
unfolding fields_from
read-end w at i from e r =
    let l : length w ≤ i = omega arith in
    record {
      from = from;
      within = omega arith;
      fields = r ∙ ap (fields_from (take (i - at) (drop at w))) (drop_of_length-le w l) ∙ (simp (le-ltb i (length w) l));
    }
