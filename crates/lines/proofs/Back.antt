-- What is written reads back: a byte in two digits and a all_decimal number are the numbers that the definitions of a line give
-- their digits.
-- Assumes nothing.
use Rattle.std.specs.Prelude.{if◌then◌else◌, ◌==◌}
use Prim.Native.Char.{code}
use Prim.Native.Nat.{ℕ, ◌+◌, ◌-◌, ◌*◌, ◌/◌, ◌%◌, ◌≤◌, ◌<◌}
use mathlib.Core.Path.{◌≡◌, refl, sym, ap, ◌∙◌}
use mathlib.Core.Bool.{Bool, true, false, not, ◌&&◌, and_assoc}
use mathlib.Core.List.{List, [], ◌∷◌, ◌++◌, append_assoc}
use native.Mathlib.Nat.{mod-lt}
use native.Mathlib.Omega.{arith}
use borrow.Author.Tests.{lt-ltb, le-ltb, le-leb, lt-leb, ne_eqb, ltb-true, ltb-false}
use lib.Dec.{ltb, lit<}
use lib.ListN.{length}
use Rattle.lines.specs.Lines.{digit_of, number_of, all_decimal, value_of, clocks_in, no_leading_zeros, clocks_of, words_of, line_most, line_of, said}
use Rattle.texts.specs.Answers.{space, decimal_digit, glyph_of, place_text, decimal_text}
use Rattle.texts.proofs.Printed.{decimal-short}

-- ---- digits
decimal_digit_lem : (d : ℕ) → d < 10 → digit_of (decimal_digit d) ≡ d
unfolding digit_of
decimal_digit_lem d h = simp (le-leb 48 (48 + d) (omega arith), le-leb (48 + d) 57 (omega arith)) (omega arith)

capital-digit : (d : ℕ) → 10 ≤ d → d < 16 → digit_of (code "A" + (d - 10)) ≡ d
unfolding digit_of
capital-digit d g h =
    let b = 65 + (d - 10) in
    simp (le-leb 48 b (omega arith), lt-leb b 57 (omega arith), le-leb 65 b (omega arith), le-leb b 70 (omega arith))
    (omega arith)

pub digit-back : (n : ℕ) → digit_of (glyph_of n) ≡ n % 16
unfolding glyph_of
digit-back n = by_ten (ltb (n % 16) 10) refl
  where
    by_ten : (f : Bool) → ltb (n % 16) 10 ≡ f → digit_of (if f then decimal_digit (n % 16) else code "A" + (n % 16 - 10)) ≡ n % 16
    by_ten true e = decimal_digit_lem (n % 16) (ltb-true (n % 16) 10 e)
    by_ten false e = capital-digit (n % 16) (ltb-false (n % 16) 10 e) (mod-lt n (lit< tt))

-- a byte in two digits, after a space
pub byte-back : (n : ℕ) → n < 256 → number_of space (glyph_of (n / 16)) (glyph_of n) ≡ n
unfolding number_of
byte-back n h =
    simp (digit-back, lt-ltb (n / 16 % 16) 16 (omega arith), lt-ltb (n % 16) 16 (omega arith)) (omega arith)

-- ---- all_decimal numbers
value-append : (n : ℕ) (v w : List ℕ) → value_of n (v ++ w) ≡ value_of (value_of n v) w
unfolding value_of
value-append n [] w = refl
value-append n (d ∷ v) w = value-append (n * 10 + digit_of d) v w

-- the places down to that of p give the number's quotient by p, where those above it gave m
place-value : (p n m : ℕ) → (n < p → m ≡ n / p) → (p ≤ n → m * 10 + n / p % 10 ≡ n / p) → value_of m (place_text p n) ≡ n / p
unfolding place_text value_of
place-value p n m small large = by_place (ltb n p) refl
  where
    by_place : (f : Bool) → ltb n p ≡ f → value_of m (if f then [] else decimal_digit (n / p % 10) ∷ []) ≡ n / p
    by_place true e = small (ltb-true n p e)
    by_place false e = ap (λ (d : ℕ). m * 10 + d) (decimal_digit_lem (n / p % 10) (mod-lt (n / p) (lit< tt))) ∙ large (ltb-false n p e)

last-value : (n : ℕ) → value_of (n / 10) (decimal_digit (n % 10) ∷ []) ≡ n
unfolding value_of
last-value n = ap (λ (d : ℕ). n / 10 * 10 + d) (decimal_digit_lem (n % 10) (mod-lt n (lit< tt))) ∙ omega arith

pub decimal-value : (n : ℕ) → n < 4294967296 → value_of 0 (decimal_text n) ≡ n
unfolding decimal_text
decimal-value n h =
    simp (
      value-append,
      place-value 1000000000 n 0 (λ l. omega arith) (λ l. omega arith),
      place-value 100000000 n (n / 1000000000) (λ l. omega arith) (λ l. omega arith),
      place-value 10000000 n (n / 100000000) (λ l. omega arith) (λ l. omega arith),
      place-value 1000000 n (n / 10000000) (λ l. omega arith) (λ l. omega arith),
      place-value 100000 n (n / 1000000) (λ l. omega arith) (λ l. omega arith),
      place-value 10000 n (n / 100000) (λ l. omega arith) (λ l. omega arith),
      place-value 1000 n (n / 10000) (λ l. omega arith) (λ l. omega arith),
      place-value 100 n (n / 1000) (λ l. omega arith) (λ l. omega arith),
      place-value 10 n (n / 100) (λ l. omega arith) (λ l. omega arith),
    )
    (last-value n)

-- the digits are all_decimal digits
decimal-append : (v w : List ℕ) → all_decimal (v ++ w) ≡ (all_decimal v && all_decimal w)
unfolding all_decimal
decimal-append [] w = refl
decimal-append (d ∷ v) w = (simp (decimal-append v w)) ∙ sym (and_assoc (ltb (digit_of d) 10) (all_decimal v) (all_decimal w))

none-decimal : all_decimal [] ≡ true
unfolding all_decimal
none-decimal = refl

one-decimal : (d : ℕ) → d < 10 → all_decimal (decimal_digit d ∷ []) ≡ true
unfolding all_decimal
one-decimal d h = simp (decimal_digit_lem d h, lt-ltb d 10 h)

place-decimal : (p n : ℕ) → all_decimal (place_text p n) ≡ true
unfolding place_text
place-decimal p n = by_place (ltb n p)
  where
    by_place : (f : Bool) → all_decimal (if f then [] else decimal_digit (n / p % 10) ∷ []) ≡ true
    by_place true = none-decimal
    by_place false = one-decimal (n / p % 10) (mod-lt (n / p) (lit< tt))

decimal-digits : (n : ℕ) → all_decimal (decimal_text n) ≡ true
unfolding decimal_text
decimal-digits n = simp (decimal-append, place-decimal, one-decimal (n % 10) (mod-lt n (lit< tt)))

-- a number of 32 bits, as T reads it
pub clocks-back : (n : ℕ) → n < 4294967296 → clocks_in (decimal_text n) ≡ n
unfolding clocks_in
clocks-back n h = simp (decimal-digits n, decimal-value n h, le-leb n 4294967295 (omega arith))

-- ---- and no zero leads a number
-- after another digit the bytes w decide nothing, and by themselves they are no_leading_zeros where the number is below q
abbrev Ends : ℕ → ℕ → List ℕ → Type 0
Ends n q w = ((x : ℕ) → no_leading_zeros (x ∷ w) ≡ not (x == code "0")) × (n < q → no_leading_zeros w ≡ true)

ends_last : (n : ℕ) → Ends n 10 (decimal_digit (n % 10) ∷ [])
unfolding no_leading_zeros
ends_last n = (λ x. refl, λ h. refl)

-- the digit at a place that the number reaches and that no higher one has passed is not 0
ends_more : (p q n : ℕ) (w : List ℕ) → (p ≤ n → n < q → n / p % 10 ≡ 0 → ⊥) → Ends n p w → Ends n q (place_text p n ++ w)
unfolding place_text no_leading_zeros
ends_more p q n w first t = by_place (ltb n p) refl
  where
    by_place : (f : Bool) → ltb n p ≡ f → Ends n q ((if f then [] else decimal_digit (n / p % 10) ∷ []) ++ w)
    by_place true e = (t.0, λ h. t.1 (ltb-true n p e))
    by_place false e =
        (λ x. refl, λ h. t.0 (decimal_digit (n / p % 10)) ∙ ap not (ne_eqb (decimal_digit (n / p % 10)) (code "0") (λ z. first (ltb-false n p e) h (omega arith))))

pub decimal-plain : (n : ℕ) → n < 4294967296 → no_leading_zeros (decimal_text n) ≡ true
unfolding decimal_text
decimal-plain n h =
    let e1 = ends_more 10 100 n _ (λ l g e. omega arith) (ends_last n) in
    let e2 = ends_more 100 1000 n _ (λ l g e. omega arith) e1 in
    let e3 = ends_more 1000 10000 n _ (λ l g e. omega arith) e2 in
    let e4 = ends_more 10000 100000 n _ (λ l g e. omega arith) e3 in
    let e5 = ends_more 100000 1000000 n _ (λ l g e. omega arith) e4 in
    let e6 = ends_more 1000000 10000000 n _ (λ l g e. omega arith) e5 in
    let e7 = ends_more 10000000 100000000 n _ (λ l g e. omega arith) e6 in
    let e8 = ends_more 100000000 1000000000 n _ (λ l g e. omega arith) e7 in
    let e9 = ends_more 1000000000 10000000000 n _ (λ l g e. omega arith) e8 in
    simp append_assoc (e9.1 (omega arith))

-- every number of clocks can be said
pub said-clocks : (n : ℕ) → n < 4294967296 → line_of (code "T" ∷ space ∷ decimal_text n) ≡ said 4 n 0 0
unfolding line_of words_of clocks_of
said-clocks n h =
    let l = decimal-short n in
    simp (le-ltb line_most (length (code "T" ∷ space ∷ decimal_text n)) (omega arith), decimal-plain n h, clocks-back n h, lt-ltb n 4294967296 h)
