-- What a text keeps of a line of any length: all of it, or that it has no room.
-- Assumes nothing.
use Prim.Native.Nat.{ℕ, ◌+◌, ◌≤◌, ◌<◌}
use mathlib.Core.List.{List, [], ◌∷◌, ◌++◌, append_assoc, append-nil}
use mathlib.Core.Logic.{◌⊎◌, inl, inr, ⊎_elim}
use mathlib.Core.Path.{◌≡◌, refl, sym, ap, subst, ◌∙◌}
use native.Mathlib.Nat.{eq-or-lt_of_le}
use native.Mathlib.Numerals.{add-one}
use native.Mathlib.Omega.{arith}
use borrow.Author.Tests.{lt-ltb, le-ltb}
use lib.ListN.{length, take, set, length-append, length-set}
use lib.Seq.{take-suc-set}
use Rattle.texts.specs.Kept.{text_room, no_text, pushed, typed, kept_len, bytes_of}
use Rattle.texts.specs.declared.Text.{Text}

-- the text holds the line's bytes
pub record Holds (t : Text) (w : List ℕ) : Type 0 where
  pub short : length w ≤ text_room
  pub len : t.len ≡ length w
  pub bytes : take t.len t.bytes ≡ w
  pub room : length t.bytes ≡ text_room

-- the line has no room, and the text says so
pub record Passes (t : Text) (w : List ℕ) : Type 0 where
  pub past : text_room < length w
  pub len : t.len ≡ text_room + 1

abbrev pub Keeps : Text → List ℕ → Type 0
Keeps t w = Holds t w ⊎ Passes t w

last-length : (w : List ℕ) (b : ℕ) → length (w ++ (b ∷ [])) ≡ length w + 1
last-length w b = length-append w (b ∷ [])

-- ---- one byte more
push-more : (t : Text) (b : ℕ) → t.len < text_room → pushed t b ≡ record { bytes = set t.bytes t.len b; len = t.len + 1 }
unfolding pushed
push-more t b h = simp (lt-ltb t.len text_room h)

push-past : (t : Text) (b : ℕ) → text_room ≤ t.len → pushed t b ≡ record { bytes = t.bytes; len = text_room + 1 }
unfolding pushed
push-past t b h = simp (le-ltb t.len text_room h)

module _ (t : Text) (w : List ℕ) (b : ℕ) where
  holds_more : Holds t w → length w < text_room → Keeps (pushed t b) (w ++ (b ∷ []))
  holds_more h g =
      let e = h.len in
      let r = h.room in
      let m = last-length w b in
      inl
      (subst (λ (u : Text). Holds u (w ++ (b ∷ []))) (sym (push-more t b (omega arith)))
      record {
        short = omega arith;
        len = omega arith;
        bytes =
            ap (λ (n : ℕ). take n (set t.bytes t.len b)) (add-one t.len)
            ∙ take-suc-set t.bytes t.len b (omega arith) ∙ ap (λ (l : List ℕ). l ++ (b ∷ [])) h.bytes;
        room = length-set t.bytes t.len b ∙ h.room;
      })

  past_more : text_room ≤ t.len → text_room ≤ length w → Keeps (pushed t b) (w ++ (b ∷ []))
  past_more h g =
      let m = last-length w b in
      inr (subst (λ (u : Text). Passes u (w ++ (b ∷ []))) (sym (push-past t b h)) record { past = omega arith; len = refl })

  holds-next : Holds t w → Keeps (pushed t b) (w ++ (b ∷ []))
  holds-next h =
      ⊎_elim (λ (e : length w ≡ text_room). let l = h.len in past_more (omega arith) (omega arith)) (λ g. holds_more h g) (eq-or-lt_of_le h.short)

  passes-next : Passes t w → Keeps (pushed t b) (w ++ (b ∷ []))
  passes-next p = let e = p.len in let g = p.past in past_more (omega arith) (omega arith)

  keeps-next : Keeps t w → Keeps (pushed t b) (w ++ (b ∷ []))
  keeps-next k = ⊎_elim (λ h. holds-next h) (λ p. passes-next p) k

-- ---- all of a line
keeps_on : (t : Text) (v w : List ℕ) → Keeps t v → Keeps (typed t w) (v ++ w)
unfolding typed
keeps_on t v [] k = subst (λ (l : List ℕ). Keeps t l) (sym (append-nil v)) k
keeps_on t v (b ∷ w) k =
    subst (λ (l : List ℕ). Keeps (typed (pushed t b) w) l) (append_assoc v (b ∷ []) w) (keeps_on (pushed t b) (v ++ (b ∷ [])) w (keeps-next t v b k))

pub keeps-from : (t : Text) (w : List ℕ) → t.len ≡ 0 → length t.bytes ≡ text_room → Keeps (typed t w) w
keeps-from t w z r =
    keeps_on t [] w (inl record { short = omega arith; len = z; bytes = ap (λ (n : ℕ). take n t.bytes) z; room = r })

pub keeps : (w : List ℕ) → Keeps (typed no_text w) w
unfolding no_text
keeps w = keeps-from no_text w refl refl

-- ---- a line that is held
pub holds-bytes : (t : Text) (w : List ℕ) → Holds t w → bytes_of t ≡ w
unfolding bytes_of kept_len
holds-bytes t w h = let e = h.len in let s = h.short in simp (le-ltb text_room t.len (omega arith)) h.bytes

-- of a line that has no room no byte is
pub passes-bytes : (t : Text) (w : List ℕ) → Passes t w → bytes_of t ≡ []
unfolding bytes_of kept_len
passes-bytes t w p = let e = p.len in simp (lt-ltb text_room t.len (omega arith))

-- ---- a line that has room is kept whole
pub bytes-line : (w : List ℕ) → length w ≤ text_room → bytes_of (typed no_text w) ≡ w
bytes-line w s = ⊎_elim (λ h. holds-bytes (typed no_text w) w h) (λ p. let g = p.past in absurd (omega arith)) (keeps w)

-- something is kept of a line that is not empty
pub some-kept : (b : ℕ) (w : List ℕ) → (typed no_text (b ∷ w)).len ≡ 0 → ⊥
some-kept b w z = ⊎_elim (λ h. let e = h.len in omega arith) (λ p. let e = p.len in omega arith) (keeps (b ∷ w))
