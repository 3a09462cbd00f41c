-- "in the answer's form": the line of an answer itself is readable, and agrees with it.
-- Assumes nothing.
use Rattle.std.specs.Prelude.{if◌then◌else◌, ◌==◌}
use Prim.Native.Char.{code}
use Prim.Native.Nat.{ℕ, suc, zero, ◌+◌, ◌/◌, ◌%◌, ◌≤◌, ◌<◌}
use mathlib.Core.Bool.{Bool, true, false, not, ◌&&◌, true≢false}
use mathlib.Core.List.{List, [], ◌∷◌, ◌++◌, append_assoc, append-nil}
use mathlib.Core.Path.{◌≡◌, refl, sym, ap, ◌∙◌}
use native.Mathlib.Nat.{mod-lt, le_of_suc-le-suc, add-suc, suc-add, zero-add, add-zero}
use native.Mathlib.Omega.{arith}
use borrow.Author.Tests.{lt-ltb, le-leb, eq-eqb, ne_eqb, ltb-true, eqb-true}
use lib.Dec.{leb, ltb, lit<}
use lib.ListN.{length, get_or, length-append}
use Rattle.basics.specs.Byte.{num}
use Rattle.basics.proofs.Tests.{both, not_so}
use Rattle.rules.specs.declared.Answer.{Answer}
use Rattle.texts.specs.Answers.{space, line_feed, glyph_of, decimal_text, hex_text, nibble_text, flag_text, count_text, counts_text, report_text, answer_text}
use Rattle.lines.specs.Lines.{digit_of, all_decimal, value_of, clocks_in, no_leading_zeros}
use Rattle.lines.proofs.Back.{digit-back, clocks-back, decimal-plain}
use Rattle.bench_lines.specs.Places.{holds_up_to}
use Rattle.bench_lines.specs.Fields.{fields_from, fields_of, field_at, hole, unmeasured, illegible, is_hole, decimal_in, pair_in, nibble_in, number_at, says_at}
use Rattle.bench_lines.specs.Compared.{field_count, answer_numbers, readable_at, readable_line, differs_at, compared_of, agrees}

-- ---- fields of digits
-- each byte is a hexadecimal digit
unfoldable pub hex_digits : List ℕ → Bool
hex_digits [] = true
hex_digits (b ∷ v) = ltb (digit_of b) 16 && hex_digits v

-- no byte is x
unfoldable pub free : ℕ → List ℕ → Bool
free x [] = true
free x (b ∷ v) = not (b == x) && free x v

-- a space is no digit, and a line feed is none
pub space-no-digit : digit_of space < 16 → ⊥
unfolding digit_of
space-no-digit z = omega arith

pub feed-no-digit : digit_of line_feed < 16 → ⊥
unfolding digit_of
feed-no-digit z = omega arith

pub digits-free : (x : ℕ) (v : List ℕ) → (digit_of x < 16 → ⊥) → hex_digits v ≡ true → free x v ≡ true
unfolding hex_digits free
digits-free x [] n h = refl
digits-free x (b ∷ v) n h =
    let t = both (ltb (digit_of b) 16) (hex_digits v) h in
    let l : digit_of b < 16 = ltb-true (digit_of b) 16 t.0 in
    simp (ne_eqb b x (λ e. n (rw e at l)), digits-free x v n t.1)

glyph-digit : (n : ℕ) → ltb (digit_of (glyph_of n)) 16 ≡ true
glyph-digit n = lt-ltb (digit_of (glyph_of n)) 16 (simp digit-back (mod-lt n (lit< tt)))

decimal-digits : (v : List ℕ) → all_decimal v ≡ true → hex_digits v ≡ true
unfolding all_decimal hex_digits
decimal-digits [] h = refl
decimal-digits (b ∷ v) h =
    let t = both (ltb (digit_of b) 10) (all_decimal v) h in
    let l : digit_of b < 10 = ltb-true (digit_of b) 10 t.0 in
    simp (lt-ltb (digit_of b) 16 (omega arith), decimal-digits v t.1)

digits_of : (v : List ℕ) (n : ℕ) → n < 4294967296 → clocks_in v ≡ n → all_decimal v ≡ true
unfolding clocks_in
digits_of v n h e = by_digits (all_decimal v) refl e
  where
    by_digits : (d : Bool) → all_decimal v ≡ d → (if d && leb (value_of 0 v) 4294967295 then value_of 0 v else 4294967296) ≡ n → d ≡ true
    by_digits true g f = refl
    by_digits false g f = absurd (omega arith)

number_digits : (n : ℕ) → n < 4294967296 → hex_digits (decimal_text n) ≡ true
number_digits n h = decimal-digits (decimal_text n) (digits_of (decimal_text n) n h (clocks-back n h))

-- ---- a line made of fields
unfoldable joined : List (List ℕ) → List ℕ
joined [] = []
joined (f ∷ []) = f
joined (f ∷ g ∷ gs) = f ++ (space ∷ joined (g ∷ gs))

pub field-ends : (f v rest : List ℕ) → free space v ≡ true → fields_from f (v ++ (space ∷ rest)) ≡ (f ++ v) ∷ fields_from [] rest
unfolding fields_from free
field-ends f [] rest h = simp append-nil
field-ends f (b ∷ v) rest h =
    let t = both (not (b == space)) (free space v) h in
    simp (not_so (b == space) t.0) (field-ends (f ++ (b ∷ [])) v rest t.1 ∙ (simp append_assoc))

pub line-ends : (f v : List ℕ) → free space v ≡ true → fields_from f v ≡ (f ++ v) ∷ []
unfolding fields_from free
line-ends f [] h = simp append-nil
line-ends f (b ∷ v) h =
    let t = both (not (b == space)) (free space v) h in
    simp (not_so (b == space) t.0) (line-ends (f ++ (b ∷ [])) v t.1 ∙ (simp append_assoc))

-- ---- fields that say numbers, from place i on
pub data Says : ℕ → List (List ℕ) → List ℕ → Type 0 where
  none : {i : ℕ} → Says i [] []
  one : {i n : ℕ} {f : List ℕ} {fs : List (List ℕ)} {ns : List ℕ} → says_at i f ≡ n → n < unmeasured → hex_digits f ≡ true → Says (suc i) fs ns
      → Says i (f ∷ fs) (n ∷ ns)

-- cut at the spaces, they are these fields
fields_back : {i : ℕ} {ns : List ℕ} (f : List ℕ) (fs : List (List ℕ)) → Says i (f ∷ fs) ns → fields_from [] (joined (f ∷ fs)) ≡ f ∷ fs
unfolding joined
fields_back f [] (one e l h r) = line-ends [] f (digits-free space f space-no-digit h)
fields_back f (g ∷ gs) (one e l h r) = field-ends [] f (joined (g ∷ gs)) (digits-free space f space-no-digit h) ∙ ap (λ (x : List (List ℕ)). f ∷ x) (fields_back g gs r)

pub at_place : (i j : ℕ) (f : List ℕ) → i ≡ j → says_at i f ≡ says_at j f
at_place i j f e = ap (λ (k : ℕ). says_at k f) e

says_at_lem : {i : ℕ} {fs : List (List ℕ)} {ns : List ℕ} → Says i fs ns → (k : ℕ) → k < length fs
    → (says_at (i + k) (get_or fs k hole) ≡ get_or ns k 0) × (get_or ns k 0 < unmeasured)
says_at_lem none k h = absurd (omega arith)
says_at_lem {i} (one e l g r) zero h = (at_place (i + 0) i _ (add-zero i) ∙ e, l)
says_at_lem {i} (one e l g r) (suc k) h =
    let t = says_at_lem r k (le_of_suc-le-suc h) in
    (at_place (i + suc k) (suc i + k) _ (add-suc i k ∙ sym (suc-add i k)) ∙ t.0, t.1)

-- ---- what the parts of an answer say
-- a number is no hole
hole-unreadable : (i : ℕ) → number_at i hole ≡ illegible
unfolding number_at decimal_in pair_in nibble_in no_leading_zeros clocks_in all_decimal digit_of
hole-unreadable i = by_place (i == 0) (ltb i 4) (i == 4) (ltb i 7)
  where
    by_place : (a b c d : Bool) → (if a then illegible else if b then illegible else if c then illegible else if d then illegible else illegible) ≡ illegible
    by_place true b c d = refl
    by_place false true c d = refl
    by_place false false true d = refl
    by_place false false false true = refl
    by_place false false false false = refl

is-hole : (f : List ℕ) → is_hole f ≡ true → f ≡ hole
unfolding is_hole
is-hole [] h = absurd (true≢false (sym h))
is-hole (b ∷ []) h = ap (λ (x : ℕ). x ∷ []) (eqb-true b (code "-") h)
is-hole (b ∷ c ∷ f) h =
    let z : is_hole (b ∷ c ∷ f) ≡ false = simp (ne_eqb (length (b ∷ c ∷ f)) 1 (λ e. omega arith)) in
    absurd (true≢false (sym h ∙ z))

says-number : (i n : ℕ) (f : List ℕ) → n < unmeasured → number_at i f ≡ n → says_at i f ≡ n
unfolding says_at
says-number i n f h e = by-hole (is_hole f) refl
  where
    by-hole : (b : Bool) → is_hole f ≡ b → (if b then unmeasured else number_at i f) ≡ n
    by-hole false g = e
    by-hole true g = let z : illegible ≡ n = sym (hole-unreadable i) ∙ ap (number_at i) (sym (is-hole f g)) ∙ e in absurd (omega arith)

decimal-says : (most n : ℕ) → n ≤ most → most < unmeasured → decimal_in most (decimal_text n) ≡ n
unfolding decimal_in
decimal-says most n h g =
    let l : n < unmeasured = omega arith in
    simp (decimal-plain n l, clocks-back n l, le-leb n most h)

pair-says : (n : ℕ) → n < 256 → pair_in (glyph_of (n / 16) ∷ glyph_of n ∷ []) ≡ n
unfolding pair_in
pair-says n h = simp (digit-back, lt-ltb (n / 16 % 16) 16 (omega arith), lt-ltb (n % 16) 16 (omega arith)) (omega arith)

nibble-says : (n : ℕ) → nibble_in (glyph_of n ∷ []) ≡ n % 16
unfolding nibble_in
nibble-says n = simp (digit-back, lt-ltb (n % 16) 16 (omega arith))

abbrev pub bit_text : Bool → List ℕ
bit_text f = (if f then code "1" else code "0") ∷ []

bit-says : (f : Bool) → decimal_in 1 (bit_text f) ≡ num f
unfolding decimal_in no_leading_zeros clocks_in all_decimal value_of digit_of
bit-says true = refl
bit-says false = refl

bit-small : (f : Bool) → num f < unmeasured
bit-small true = omega arith
bit-small false = omega arith

bit-digits : (f : Bool) → hex_digits (bit_text f) ≡ true
unfolding hex_digits digit_of
bit-digits true = refl
bit-digits false = refl

pair-digits : (n : ℕ) → hex_digits (glyph_of (n / 16) ∷ glyph_of n ∷ []) ≡ true
unfolding hex_digits
pair-digits n = simp (glyph-digit (n / 16), glyph-digit n)

nibble-digits : (n : ℕ) → hex_digits (glyph_of n ∷ []) ≡ true
unfolding hex_digits
nibble-digits n = simp (glyph-digit n)

-- ---- an answer
-- the numbers that the struct of an answer can hold
pub record Ranged (a : Answer) : Type 0 where
  pub code : a.code < 256
  pub value : a.value < 256
  pub pins-a : a.a < 256
  pub pins-b : a.b < 256
  pub terminals : (k : ℕ) → get_or a.report.terminals k 0 < unmeasured
  pub lost : (k : ℕ) → get_or a.report.lost k 0 < unmeasured

-- its fields
abbrev pub texts_of : Answer → List (List ℕ)
texts_of a =
    decimal_text a.code ∷ (glyph_of (a.value / 16) ∷ glyph_of a.value ∷ []) ∷ (glyph_of (a.a / 16) ∷ glyph_of a.a ∷ [])
    ∷ (glyph_of (a.b / 16) ∷ glyph_of a.b ∷ []) ∷ (glyph_of a.c ∷ []) ∷ bit_text a.int ∷ bit_text a.ieo
    ∷ decimal_text (get_or a.report.terminals 0 0) ∷ decimal_text (get_or a.report.terminals 1 0)
    ∷ decimal_text (get_or a.report.terminals 2 0) ∷ decimal_text (get_or a.report.lost 0 0)
    ∷ decimal_text (get_or a.report.lost 1 0) ∷ decimal_text (get_or a.report.lost 2 0) ∷ []

pub printed : Answer → List ℕ
printed a = joined (texts_of a)

-- that is its line, without the line feed
unfoldable fields-after : List (List ℕ) → List ℕ → List ℕ
fields-after [] rest = rest
fields-after (f ∷ []) rest = f ++ rest
fields-after (f ∷ g ∷ gs) rest = f ++ (space ∷ fields-after (g ∷ gs) rest)

joined-after : (fs : List (List ℕ)) (rest : List ℕ) → joined fs ++ rest ≡ fields-after fs rest
unfolding joined fields-after
joined-after [] rest = refl
joined-after (f ∷ []) rest = refl
joined-after (f ∷ g ∷ gs) rest =
    append_assoc f (space ∷ joined (g ∷ gs)) rest ∙ ap (λ (v : List ℕ). f ++ (space ∷ v)) (joined-after (g ∷ gs) rest)

nested : (c v a b d i e k l m n o p f : List ℕ)
    → c ++ v ++ a ++ b ++ d ++ i ++ e ++ (k ++ l ++ m ++ (n ++ o ++ p)) ++ f
    ≡ c ++ (v ++ (a ++ (b ++ (d ++ (i ++ (e ++ (k ++ (l ++ (m ++ (n ++ (o ++ (p ++ f))))))))))))
nested c v a b d i e k l m n o p f = simp append_assoc

pub printed-is : (a : Answer) → answer_text a ≡ printed a ++ (line_feed ∷ [])
unfolding printed fields-after answer_text hex_text nibble_text flag_text report_text counts_text count_text
printed-is a =
    let t = a.report.terminals in
    let l = a.report.lost in
    nested (decimal_text a.code) (hex_text a.value) (hex_text a.a) (hex_text a.b) (nibble_text a.c) (flag_text a.int)
    (flag_text a.ieo) (count_text (get_or t 0 0)) (count_text (get_or t 1 0)) (count_text (get_or t 2 0)) (count_text (get_or l 0 0))
    (count_text (get_or l 1 0)) (count_text (get_or l 2 0)) (line_feed ∷ [])
    ∙ sym (joined-after (texts_of a) (line_feed ∷ []))

decimal-field : (i most n : ℕ) → n ≤ most → most < unmeasured → ((f : List ℕ) → number_at i f ≡ decimal_in most f) → says_at i (decimal_text n) ≡ n
decimal-field i most n h g e = says-number i n (decimal_text n) (omega arith) (e (decimal_text n) ∙ decimal-says most n h g)

-- ---- thirteen places
pub holds-all : (n : ℕ) (f : ℕ → Bool) → ((k : ℕ) → k < n → f k ≡ true) → holds_up_to n f ≡ true
unfolding holds_up_to
holds-all zero f h = refl
holds-all (suc n) f h = simp (holds-all n f (λ k l. h k (omega arith)), h n (omega arith))

pub from_start : (w : List ℕ) → 0 < length w → fields_of w ≡ fields_from [] w
unfolding fields_of
from_start [] h = absurd (omega arith)
from_start (b ∷ w) h = refl

pub same_number : (a b : Bool) → b ≡ true → not (a && not b) ≡ true
same_number a b e = simp e (by_first a)
  where
    by_first : (c : Bool) → not (c && false) ≡ true
    by_first true = refl
    by_first false = refl

module _ (a : Answer) (r : Ranged a) where
  counted : (i n : ℕ) → n < unmeasured → ((f : List ℕ) → number_at i f ≡ decimal_in 4294967295 f) → says_at i (decimal_text n) ≡ n
  counted i n h e = decimal-field i 4294967295 n (omega arith) (omega arith) e

  pub own-says : Says 0 (texts_of a) (answer_numbers a)
  unfolding number_at
  own-says =
      let t = r.terminals in
      let l = r.lost in
      let c : a.code < unmeasured = omega (arith, r.code) in
      let v : a.value < unmeasured = omega (arith, r.value) in
      let p : a.a < unmeasured = omega (arith, r.pins-a) in
      let q : a.b < unmeasured = omega (arith, r.pins-b) in
      let m : a.c % 16 < unmeasured = omega arith in
      one (decimal-field 0 255 a.code (omega (arith, r.code)) (omega arith) (λ f. refl)) c (number_digits _ c)
      (one (says-number 1 _ _ v (pair-says _ r.value)) v (pair-digits a.value)
      (one (says-number 2 _ _ p (pair-says _ r.pins-a)) p (pair-digits a.a)
      (one (says-number 3 _ _ q (pair-says _ r.pins-b)) q (pair-digits a.b)
      (one (says-number 4 _ _ m (nibble-says a.c)) m (nibble-digits a.c)
      (one (says-number 5 _ _ (bit-small a.int) (bit-says a.int)) (bit-small a.int) (bit-digits a.int)
      (one (says-number 6 _ _ (bit-small a.ieo) (bit-says a.ieo)) (bit-small a.ieo) (bit-digits a.ieo)
      (one (counted 7 _ (t 0) (λ f. refl)) (t 0) (number_digits _ (t 0))
      (one (counted 8 _ (t 1) (λ f. refl)) (t 1) (number_digits _ (t 1))
      (one (counted 9 _ (t 2) (λ f. refl)) (t 2) (number_digits _ (t 2))
      (one (counted 10 _ (l 0) (λ f. refl)) (l 0) (number_digits _ (l 0))
      (one (counted 11 _ (l 1) (λ f. refl)) (l 1) (number_digits _ (l 1))
      (one (counted 12 _ (l 2) (λ f. refl)) (l 2) (number_digits _ (l 2)) none))))))))))))

  -- the fields of its line
  own-fields : fields_of (printed a) ≡ texts_of a
  unfolding printed joined
  own-fields = from_start (printed a) (simp length-append (omega arith)) ∙ fields_back _ _ own-says

  own_at : (k : ℕ) → k < field_count → (says_at k (field_at (printed a) k) ≡ get_or (answer_numbers a) k 0) × (get_or (answer_numbers a) k 0 < unmeasured)
  own_at k h =
      let t = says_at_lem own-says k h in
      (ap (λ (fs : List (List ℕ)). says_at k (get_or fs k hole)) own-fields ∙ ap (λ (j : ℕ). says_at j (get_or (texts_of a) k hole)) (sym (zero-add k)) ∙ t.0, t.1)

  own-readable : readable_line (printed a) ≡ true
  unfolding readable_line
  own-readable =
      simp (
        holds-all field_count (readable_at (printed a))
            (λ k h. let t = own_at k h in ap not (ne_eqb _ _ (λ e. let z : illegible ≡ get_or (answer_numbers a) k 0 = sym e ∙ t.0 in omega (arith, t.1)))),
        own-fields,
      )

  -- and so each field says the answer's number
  pub own-agrees : agrees (compared_of a (printed a)) ≡ true
  unfolding compared_of agrees
  own-agrees =
      simp own-readable
      (holds-all field_count (λ k. not (differs_at (answer_numbers a) (printed a) k)) (λ k h. same_number (not (says_at k (field_at (printed a) k) == unmeasured)) _ (eq-eqb _ _ (own_at k h).0)))
