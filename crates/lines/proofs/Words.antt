-- A line's bytes as the numbers after its letter.
-- Assumes nothing.
use Rattle.std.proofs.lemmas.Bool.{cases_lt, cases_eq}
use Rattle.std.specs.Prelude.{Option, Some, None, if◌then◌else◌, ◌==◌}
use Prim.Native.Char.{code}
use Prim.Native.Nat.{ℕ, zero, suc, ◌+◌, ◌-◌, ◌≤◌, ◌<◌}
use mathlib.Core.Bool.{Bool, true, false, ◌&&◌, ◌||◌, or-true, cond}
use mathlib.Core.Logic.{◌⊎◌, inl, inr}
use mathlib.Core.List.{List, [], ◌∷◌}
use mathlib.Core.Path.{◌≡◌, refl, sym, ap, ap₂, ◌∙◌}
use native.Mathlib.Numerals.{add-one}
use native.Mathlib.Omega.{arith}
use borrow.Author.Tests.{lt-ltb, le-ltb, eq-eqb, ne_eqb, ltb-true, ltb-false}
use Rattle.basics.proofs.Tests.{both}
use lib.Dec.{ltb}
use lib.ListN.{length, get_or, drop, length-drop, drop_of_length-le}
use lib.Seq.{drop-cons}
use Rattle.texts.specs.Answers.{space}
use Rattle.lines.specs.Lines.{below, said, number_of, numbers_of, said_by, no_leading_zeros, clocks_in, clocks_of, words_of, line_most, line_of}
use Rattle.rules.specs.declared.Event.{Event}

-- the number from place i on
abbrev pub number_at : List ℕ → ℕ → ℕ
number_at l i = number_of (get_or l i 0) (get_or l (i + 1) 0) (get_or l (i + 2) 0)

pub numbers-at : (l : List ℕ) (i : ℕ) → i + 2 < length l
    → numbers_of (drop i l) ≡ number_at l i ∷ numbers_of (drop (i + 3) l)
unfolding numbers_of
numbers-at l i h =
    ap numbers_of
    (next i (i + 1) refl (omega arith)
    ∙ ap (λ (m : List ℕ). get_or l i 0 ∷ m)
    (next (i + 1) (i + 2) (omega arith) (omega arith)
    ∙ ap (λ (m : List ℕ). get_or l (i + 1) 0 ∷ m) (next (i + 2) (i + 3) (omega arith) (omega arith))))
  where
    next : (k j : ℕ) → j ≡ k + 1 → k < length l → drop k l ≡ get_or l k 0 ∷ drop j l
    next k j e g = drop-cons l k 0 g ∙ ap (λ (n : ℕ). get_or l k 0 ∷ drop n l) (sym (e ∙ add-one k))

pub numbers-end : (l : List ℕ) (i : ℕ) → length l ≤ i → numbers_of (drop i l) ≡ []
unfolding numbers_of
numbers-end l i h = ap numbers_of (drop_of_length-le l h)

-- a last number that is none
no_second : (letter a : ℕ) → said_by letter (a ∷ 256 ∷ []) ≡ None
unfolding said_by
no_second letter a = simp (or-true (ltb 255 a))

no_third : (letter a b : ℕ) → said_by letter (a ∷ b ∷ 256 ∷ []) ≡ None
unfolding said_by
no_third letter a b = simp (or-true (ltb 255 a || ltb 255 b))

-- bytes that are no one, two or three numbers say nothing
pub no-numbers : (letter : ℕ) (m : List ℕ) → (length m ≡ 0 → ⊥) → (length m ≡ 3 → ⊥) → (length m ≡ 6 → ⊥) → (length m ≡ 9 → ⊥)
    → said_by letter (numbers_of m) ≡ None
unfolding numbers_of said_by
no-numbers letter [] p q r s = absurd (p refl)
no-numbers letter (a ∷ []) p q r s = refl
no-numbers letter (a ∷ b ∷ []) p q r s = refl
no-numbers letter (a ∷ b ∷ c ∷ []) p q r s = absurd (q refl)
no-numbers letter (a ∷ b ∷ c ∷ d ∷ []) p q r s = no_second letter (number_of a b c)
no-numbers letter (a ∷ b ∷ c ∷ d ∷ e ∷ []) p q r s = no_second letter (number_of a b c)
no-numbers letter (a ∷ b ∷ c ∷ d ∷ e ∷ f ∷ []) p q r s = absurd (r refl)
no-numbers letter (a ∷ b ∷ c ∷ d ∷ e ∷ f ∷ g ∷ []) p q r s = no_third letter (number_of a b c) (number_of d e f)
no-numbers letter (a ∷ b ∷ c ∷ d ∷ e ∷ f ∷ g ∷ h ∷ []) p q r s = no_third letter (number_of a b c) (number_of d e f)
no-numbers letter (a ∷ b ∷ c ∷ d ∷ e ∷ f ∷ g ∷ h ∷ i ∷ []) p q r s = absurd (s refl)
no-numbers letter (a ∷ b ∷ c ∷ d ∷ e ∷ f ∷ g ∷ h ∷ i ∷ j ∷ []) p q r s = refl
no-numbers letter (a ∷ b ∷ c ∷ d ∷ e ∷ f ∷ g ∷ h ∷ i ∷ j ∷ k ∷ []) p q r s = refl
no-numbers letter (a ∷ b ∷ c ∷ d ∷ e ∷ f ∷ g ∷ h ∷ i ∷ j ∷ k ∷ l ∷ m) p q r s = refl

-- ---- numbers that may be none, said with a letter
unfoldable pub one_said : ℕ → Option ℕ → Option Event
one_said kind None = None
one_said kind (Some a) = said kind a 0 0

unfoldable pub two_said : Option ℕ → Option ℕ → Option Event
two_said None b = None
two_said (Some a) None = None
two_said (Some a) (Some b) = said 1 a b 0

unfoldable pub three_said : Option ℕ → Option ℕ → Option ℕ → Option Event
three_said None b c = None
three_said (Some a) None c = None
three_said (Some a) (Some b) None = None
three_said (Some a) (Some b) (Some c) = said 3 a b c

pub said_R : (a : ℕ) → (a < 256) ⊎ (256 ≤ a) → said_by (code "R") (a ∷ []) ≡ one_said 2 (below 256 a)
unfolding said_by one_said
said_R a (inl h) = simp (lt-ltb a 256 h, le-ltb 255 a (omega arith))
said_R a (inr h) = simp (le-ltb a 256 h, lt-ltb 255 a (omega arith))

pub said_E : (a : ℕ) → (a < 256) ⊎ (256 ≤ a) → said_by (code "E") (a ∷ []) ≡ one_said 6 (below 256 a)
unfolding said_by one_said
said_E a (inl h) = simp (lt-ltb a 256 h, le-ltb 255 a (omega arith))
said_E a (inr h) = simp (le-ltb a 256 h, lt-ltb 255 a (omega arith))

pub said_W : (a b : ℕ) → (a < 256) ⊎ (256 ≤ a) → (b < 256) ⊎ (256 ≤ b)
    → said_by (code "W") (a ∷ b ∷ []) ≡ two_said (below 256 a) (below 256 b)
unfolding said_by two_said
said_W a b (inl h) (inl g) = simp (lt-ltb a 256 h, le-ltb 255 a (omega arith), lt-ltb b 256 g, le-ltb 255 b (omega arith))
said_W a b (inl h) (inr g) = simp (lt-ltb a 256 h, le-ltb 255 a (omega arith), le-ltb b 256 g, lt-ltb 255 b (omega arith))
said_W a b (inr h) g = simp (le-ltb a 256 h, lt-ltb 255 a (omega arith))

pub said_P : (a b c : ℕ) → (a < 256) ⊎ (256 ≤ a) → (b < 256) ⊎ (256 ≤ b) → (c < 256) ⊎ (256 ≤ c)
    → said_by (code "P") (a ∷ b ∷ c ∷ []) ≡ three_said (below 256 a) (below 256 b) (below 256 c)
unfolding said_by three_said
said_P a b c (inl h) (inl g) (inl f) =
    simp (lt-ltb a 256 h, le-ltb 255 a (omega arith), lt-ltb b 256 g, le-ltb 255 b (omega arith), lt-ltb c 256 f, le-ltb 255 c (omega arith))
said_P a b c (inl h) (inl g) (inr f) =
    simp (lt-ltb a 256 h, le-ltb 255 a (omega arith), lt-ltb b 256 g, le-ltb 255 b (omega arith), le-ltb c 256 f, lt-ltb 255 c (omega arith))
said_P a b c (inl h) (inr g) f = simp (lt-ltb a 256 h, le-ltb 255 a (omega arith), le-ltb b 256 g, lt-ltb 255 b (omega arith))
said_P a b c (inr h) g f = simp (le-ltb a 256 h, lt-ltb 255 a (omega arith))

-- ---- letters that do not go with so many numbers
abbrev Not : ℕ → ℕ → Type 0
Not k letter = k ≡ letter → ⊥

none-with : (f : Bool) {x : Option Event} → x ≡ None → cond f None x ≡ None
none-with true e = refl
none-with false e = e

pub none_bare : (k : ℕ) → Not k (code "X") → Not k (code "K") → said_by k [] ≡ None
unfolding said_by
none_bare k p q = simp (ne_eqb k (code "X") p, ne_eqb k (code "K") q)

pub none-one : (k a : ℕ) → Not k (code "R") → Not k (code "E") → said_by k (a ∷ []) ≡ None
unfolding said_by
none-one k a p q = none-with (ltb 255 a) (simp (ne_eqb k (code "R") p, ne_eqb k (code "E") q))

pub none-two : (k a b : ℕ) → Not k (code "W") → said_by k (a ∷ b ∷ []) ≡ None
unfolding said_by
none-two k a b p = none-with (ltb 255 a || ltb 255 b) (simp (ne_eqb k (code "W") p))

pub none-three : (k a b c : ℕ) → Not k (code "P") → said_by k (a ∷ b ∷ c ∷ []) ≡ None
unfolding said_by
none-three k a b c p = none-with (ltb 255 a || ltb 255 b || ltb 255 c) (simp (ne_eqb k (code "P") p))

one_more : (n k : ℕ) → (n ≡ 0 → ⊥) → n - 1 ≡ k → n ≡ k + 1
one_more zero k p e = absurd (p refl)
one_more (suc n) k p e = omega arith

by-letter : (l : List ℕ) → (length l ≡ 0 → ⊥)
    → words_of l ≡ (if get_or l 0 0 == code "T" then clocks_of (drop 1 l) else said_by (get_or l 0 0) (numbers_of (drop 1 l)))
unfolding words_of
by-letter [] p = absurd (p refl)
by-letter (letter ∷ rest) p = refl

-- ---- a line that is not too long, and not empty
module _ (l : List ℕ) (short : length l ≤ line_most) (some : length l ≡ 0 → ⊥) where
  line_at : line_of l ≡ (if get_or l 0 0 == code "T" then clocks_of (drop 1 l) else said_by (get_or l 0 0) (numbers_of (drop 1 l)))
  unfolding line_of
  line_at = simp (le-ltb line_most (length l) short) (by-letter l some)

  pub clocks-line : get_or l 0 0 ≡ code "T" → line_of l ≡ clocks_of (drop 1 l)
  clocks-line e = line_at ∙ (simp (eq-eqb _ _ e))

  module _ (other : get_or l 0 0 ≡ code "T" → ⊥) where
    pub numbers-line : line_of l ≡ said_by (get_or l 0 0) (numbers_of (drop 1 l))
    numbers-line = line_at ∙ (simp (ne_eqb _ _ other))

    pub bare-line : length l ≡ 1 → line_of l ≡ said_by (get_or l 0 0) []
    bare-line n = numbers-line ∙ ap (said_by (get_or l 0 0)) (numbers-end l 1 (omega arith))

    pub one_line : length l ≡ 4 → line_of l ≡ said_by (get_or l 0 0) (number_at l 1 ∷ [])
    one_line n =
        numbers-line
        ∙ ap (said_by (get_or l 0 0)) (numbers-at l 1 (omega arith) ∙ ap (λ (m : List ℕ). number_at l 1 ∷ m) (numbers-end l 4 (omega arith)))

    pub two-line : length l ≡ 7 → line_of l ≡ said_by (get_or l 0 0) (number_at l 1 ∷ number_at l 4 ∷ [])
    two-line n =
        numbers-line
        ∙ ap (said_by (get_or l 0 0))
        (numbers-at l 1 (omega arith)
        ∙ ap (λ (m : List ℕ). number_at l 1 ∷ m) (numbers-at l 4 (omega arith) ∙ ap (λ (m : List ℕ). number_at l 4 ∷ m) (numbers-end l 7 (omega arith))))

    pub three-line : length l ≡ 10 → line_of l ≡ said_by (get_or l 0 0) (number_at l 1 ∷ number_at l 4 ∷ number_at l 7 ∷ [])
    three-line n =
        numbers-line
        ∙ ap (said_by (get_or l 0 0))
        (numbers-at l 1 (omega arith)
        ∙ ap (λ (m : List ℕ). number_at l 1 ∷ m)
        (numbers-at l 4 (omega arith)
        ∙ ap (λ (m : List ℕ). number_at l 4 ∷ m) (numbers-at l 7 (omega arith) ∙ ap (λ (m : List ℕ). number_at l 7 ∷ m) (numbers-end l 10 (omega arith)))))

    pub other-line : (length l ≡ 1 → ⊥) → (length l ≡ 4 → ⊥) → (length l ≡ 7 → ⊥) → (length l ≡ 10 → ⊥) → line_of l ≡ None
    other-line p q r s =
        let d : length (drop 1 l) ≡ length l - 1 = length-drop 1 l in
        numbers-line
        ∙ no-numbers (get_or l 0 0) (drop 1 l) (λ e. absent 0 p d e) (λ e. absent 3 q d e) (λ e. absent 6 r d e) (λ e. absent 9 s d e)
      where
        absent : (k : ℕ) → (length l ≡ k + 1 → ⊥) → length (drop 1 l) ≡ length l - 1 → length (drop 1 l) ≡ k → ⊥
        absent k p d e = p (one_more (length l) k some (sym d ∙ e))

-- ---- by the letter, as the code tells them
pub line_X : (l : List ℕ) → get_or l 0 0 ≡ code "X" → length l ≡ 1 → said 0 0 0 0 ≡ line_of l
unfolding said_by
line_X l e n = sym (bare-line l (omega arith) (omega arith) (λ t. omega arith) n ∙ ap (λ (k : ℕ). said_by k []) e)

pub line_K : (l : List ℕ) → get_or l 0 0 ≡ code "K" → length l ≡ 1 → said 5 0 0 0 ≡ line_of l
unfolding said_by
line_K l e n = sym (bare-line l (omega arith) (omega arith) (λ t. omega arith) n ∙ ap (λ (k : ℕ). said_by k []) e)

one-line : (l : List ℕ) (k : ℕ) → get_or l 0 0 ≡ k → (k ≡ code "T" → ⊥) → length l ≡ 4 → line_of l ≡ said_by k (number_at l 1 ∷ [])
one-line l k e t n = one_line l (omega arith) (omega arith) (λ u. t (sym e ∙ u)) n ∙ ap (λ (m : ℕ). said_by m (number_at l 1 ∷ [])) e

pub line_R : (l : List ℕ) {x : Option ℕ} → get_or l 0 0 ≡ code "R" → length l ≡ 4 → x ≡ below 256 (number_at l 1) → one_said 2 x ≡ line_of l
line_R l e n p = ap (one_said 2) p ∙ sym (one-line l (code "R") e (λ t. omega arith) n ∙ said_R (number_at l 1) (cases_lt _ 256))

pub line_E : (l : List ℕ) {x : Option ℕ} → get_or l 0 0 ≡ code "E" → length l ≡ 4 → x ≡ below 256 (number_at l 1) → one_said 6 x ≡ line_of l
line_E l e n p = ap (one_said 6) p ∙ sym (one-line l (code "E") e (λ t. omega arith) n ∙ said_E (number_at l 1) (cases_lt _ 256))

pub line_W : (l : List ℕ) {x y : Option ℕ} → get_or l 0 0 ≡ code "W" → length l ≡ 7
    → x ≡ below 256 (number_at l 1) → y ≡ below 256 (number_at l 4) → two_said x y ≡ line_of l
line_W l {x} {y} e n p q =
    let t = two-line l (omega arith) (omega arith) (λ u. omega arith) n in
    let w = ap (λ (k : ℕ). said_by k (number_at l 1 ∷ number_at l 4 ∷ [])) e in
    let s = said_W (number_at l 1) (number_at l 4) (cases_lt _ 256) (cases_lt _ 256) in
    ap₂ two_said p q ∙ sym (t ∙ w ∙ s)

pub line_P : (l : List ℕ) {x y z : Option ℕ} → get_or l 0 0 ≡ code "P" → length l ≡ 10
    → x ≡ below 256 (number_at l 1) → y ≡ below 256 (number_at l 4) → z ≡ below 256 (number_at l 7) → three_said x y z ≡ line_of l
line_P l {x} {y} {z} e n p q r =
    let t = three-line l (omega arith) (omega arith) (λ u. omega arith) n in
    let w = ap (λ (k : ℕ). said_by k (number_at l 1 ∷ number_at l 4 ∷ number_at l 7 ∷ [])) e in
    let s = said_P (number_at l 1) (number_at l 4) (number_at l 7) (cases_lt _ 256) (cases_lt _ 256) (cases_lt _ 256) in
    ap₂ (λ (a b : Option ℕ). three_said a b z) p q ∙ ap (three_said (below 256 (number_at l 1)) (below 256 (number_at l 4))) r ∙ sym (t ∙ w ∙ s)

-- ---- a line with some bytes and not too many, as the code tests it
neither : (a b : Bool) → (a || b) ≡ false → (a ≡ false) × (b ≡ false)
neither false b e = (refl, e)
neither true b e = cc

module _ (l : List ℕ) (fits : (length l == 0 || ltb line_most (length l)) ≡ false) where
  short : length l ≤ line_most
  short = ltb-false line_most (length l) (neither (length l == 0) _ fits).1

  some : length l ≡ 0 → ⊥
  some e = let h = eq-eqb (length l) 0 e in let g = (neither (length l == 0) _ fits).0 in cc

  pub line_T : get_or l 0 0 ≡ code "T" → clocks_of (drop 1 l) ≡ line_of l
  line_T e = sym (clocks-line l short some e)

  -- no letter that goes with its length
  pub none-line : Not (get_or l 0 0) (code "T")
      → (length l ≡ 1 → Not (get_or l 0 0) (code "X")) → (length l ≡ 1 → Not (get_or l 0 0) (code "K"))
      → (length l ≡ 4 → Not (get_or l 0 0) (code "R")) → (length l ≡ 4 → Not (get_or l 0 0) (code "E"))
      → (length l ≡ 7 → Not (get_or l 0 0) (code "W")) → (length l ≡ 10 → Not (get_or l 0 0) (code "P")) → None ≡ line_of l
  none-line t x k r e w p = sym (by-length (cases_eq (length l) 1) (cases_eq (length l) 4) (cases_eq (length l) 7) (cases_eq (length l) 10))
    where
      by-length : (length l ≡ 1) ⊎ (length l ≡ 1 → ⊥) → (length l ≡ 4) ⊎ (length l ≡ 4 → ⊥) → (length l ≡ 7) ⊎ (length l ≡ 7 → ⊥)
          → (length l ≡ 10) ⊎ (length l ≡ 10 → ⊥) → line_of l ≡ None
      by-length (inl a) b c d = bare-line l short some t a ∙ none_bare _ (x a) (k a)
      by-length (inr a) (inl b) c d = one_line l short some t b ∙ none-one _ _ (r b) (e b)
      by-length (inr a) (inr b) (inl c) d = two-line l short some t c ∙ none-two _ _ _ (w c)
      by-length (inr a) (inr b) (inr c) (inl d) = three-line l short some t d ∙ none-three _ _ _ _ (p d)
      by-length (inr a) (inr b) (inr c) (inr d) = other-line l short some t a b c d

pub unfit_line : (l : List ℕ) → (length l == 0 || ltb line_most (length l)) ≡ true → None ≡ line_of l
unfolding line_of words_of
unfit_line [] e = refl
unfit_line (b ∷ l) e = let t = rw (ne_eqb (length (b ∷ l)) 0 (λ z. omega arith)) at e in simp t

-- ---- after a T
no_plain : (e x : Bool) (y : Option Event) → (if e && false && x then y else None) ≡ None
no_plain true x y = refl
no_plain false x y = refl

pub clocks_short : (l : List ℕ) → length l < 2 → clocks_of l ≡ None
unfolding clocks_of no_leading_zeros
clocks_short [] h = refl
clocks_short (b ∷ []) h = no_plain (b == space) (ltb (clocks_in []) 4294967296) (said 4 (clocks_in []) 0 0)
clocks_short (a ∷ b ∷ l) h = absurd (omega arith)

pub clocks_else : (l : List ℕ) → (get_or l 0 0 ≡ space → ⊥) → clocks_of l ≡ None
unfolding clocks_of
clocks_else [] h = refl
clocks_else (b ∷ l) h = simp (ne_eqb b space h)

pub clocks_leading : (l : List ℕ) → (get_or l 1 0 == code "0" && ltb 2 (length l)) ≡ true → clocks_of l ≡ None
unfolding clocks_of no_leading_zeros
clocks_leading [] e = refl
clocks_leading (b ∷ []) e = clocks_short (b ∷ []) (omega arith)
clocks_leading (b ∷ d ∷ []) e =
    let t = ltb-true 2 (length (b ∷ d ∷ [])) (both (d == code "0") _ e).1 in absurd (omega arith)
clocks_leading (b ∷ d ∷ f ∷ l) e =
    simp ((both (d == code "0") _ e).0) (no_plain (b == space) (ltb (clocks_in (d ∷ f ∷ l)) 4294967296) (said 4 (clocks_in (d ∷ f ∷ l)) 0 0))

first-false : (a b : Bool) → b ≡ true → (a && b) ≡ false → a ≡ false
first-false true b p q = cc
first-false false b p q = refl

one-chosen : (f : Bool) (n : ℕ) → cond f (said 4 n 0 0) None ≡ one_said 4 (cond f (Some n) None)
unfolding one_said
one-chosen true n = refl
one-chosen false n = refl

pub clocks_read : (l : List ℕ) → 2 ≤ length l → get_or l 0 0 ≡ space → (get_or l 1 0 == code "0" && ltb 2 (length l)) ≡ false
    → clocks_of l ≡ one_said 4 (below 4294967296 (clocks_in (drop 1 l)))
unfolding clocks_of no_leading_zeros
clocks_read [] h e p = absurd (omega arith)
clocks_read (b ∷ []) h e p = absurd (omega arith)
clocks_read (b ∷ d ∷ []) h e p = simp (eq-eqb b space e) (one-chosen (ltb (clocks_in (d ∷ [])) 4294967296) _)
clocks_read (b ∷ d ∷ f ∷ l) h e p =
    let plain = first-false (d == code "0") _ (lt-ltb 2 (length (b ∷ d ∷ f ∷ l)) (omega arith)) p in
    simp (eq-eqb b space e, plain) (one-chosen (ltb (clocks_in (d ∷ f ∷ l)) 4294967296) _)
