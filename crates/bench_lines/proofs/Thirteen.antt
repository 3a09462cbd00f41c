-- Thirteen places, one after the other.
-- Assumes nothing.
use Rattle.std.specs.Prelude.{◌==◌, Option, Some, None, IfSome, is_some, if◌then◌else◌}
use Prim.Native.Nat.{ℕ, zero, suc, ◌+◌, ◌≤◌, ◌<◌}
use mathlib.Core.Bool.{Bool, true, false, ◌&&◌, not, true≢false}
use mathlib.Core.List.{List, [], ◌∷◌, ◌++◌}
use mathlib.Core.Path.{◌≡◌, refl, sym, ap, ◌∙◌}
use native.Mathlib.Nat.{add-zero}
use native.Mathlib.Numerals.{add-one}
use native.Mathlib.Omega.{arith}
use borrow.Author.Tests.{le-leb, lt-leb, eqb-true, eqb-false}
use lib.Dec.{eqb, leb}
use lib.ListN.{length, take, drop, get_or, set, replicate, length-drop, length-set}
use lib.Seq.{take_all, take-suc-set, get_or-drop, drop-drop}
use Rattle.basics.proofs.Tests.{by-test}
use Rattle.texts.specs.Answers.{space}
use Rattle.rules.specs.declared.Answer.{Answer}
use Rattle.bench_lines.specs.Fields.{fields_from, fields_of, field_at, hole, illegible, says_at}
use Rattle.bench_lines.specs.Compared.{field_count, answer_numbers, readable_at, readable_line, differs_by, differs_at, compared_of}
use Rattle.bench_lines.specs.Cursor.{fields_left}
use Rattle.bench_lines.specs.Places.{listed_up_to, holds_up_to}

-- ---- rules over the places
pub none-listed : (l : List Bool) (f : ℕ → Bool) → take 0 l ≡ listed_up_to 0 f
unfolding listed_up_to
none-listed l f = refl

pub more-listed : (l : List Bool) (f : ℕ → Bool) (i : ℕ) (b : Bool) → i < length l → b ≡ f i → take i l ≡ listed_up_to i f
    → take (i + 1) (set l i b) ≡ listed_up_to (i + 1) f
unfolding listed_up_to
more-listed l f i b h e t = simp add-one (take-suc-set l i b h ∙ (simp (t, e)))

pub none-holds : (f : ℕ → Bool) → true ≡ holds_up_to 0 f
unfolding holds_up_to
none-holds f = refl

pub more-holds : (f : ℕ → Bool) (i : ℕ) (a b : Bool) → a ≡ holds_up_to i f → b ≡ f i → (a && b) ≡ holds_up_to (i + 1) f
unfolding holds_up_to
more-holds f i a b e g = (simp (add-one, e, g))

and-off : (b : Bool) → (b && false) ≡ false
and-off true = refl
and-off false = refl

-- it does not hold at one of the places
pub not-all : (f : ℕ → Bool) (i n : ℕ) → i < n → f i ≡ false → holds_up_to n f ≡ false
unfolding holds_up_to
not-all f i zero h e = absurd (omega arith)
not-all f i (suc n) h e = by_last (eqb i n) refl (λ l. not-all f i n l e)
  where
    by_last : (b : Bool) → eqb i n ≡ b → (i < n → holds_up_to n f ≡ false) → (holds_up_to n f && f n) ≡ false
    by_last true t r = let z : f n ≡ false = sym (ap f (eqb-true i n t)) ∙ e in simp z (and-off (holds_up_to n f))
    by_last false t r = let l : i < n = omega (arith, eqb-false i n t) in simp (r l)

-- ---- the fields of a line
pub all-left : (w : List ℕ) → length w == 0 ≡ false → fields_from [] w ≡ fields_of w
unfolding fields_of
all-left [] h = absurd (true≢false h)
all-left (b ∷ w) h = refl

pub none-left : (w : List ℕ) → length w == 0 ≡ true → [] ≡ fields_of w
unfolding fields_of
none-left [] h = refl
none-left (b ∷ w) h = absurd (omega (arith, eqb-true (length (b ∷ w)) 0 h))

pub some-from : (f w : List ℕ) → 0 < length (fields_from f w)
unfolding fields_from
some-from f [] = omega arith
some-from f (b ∷ w) =
    by-test (λ (l : List (List ℕ)). 0 < length l) (b == space) (f ∷ fields_from [] w) (fields_from (f ++ (b ∷ [])) w) (λ t. omega arith)
    (λ e. some-from (f ++ (b ∷ [])) w)

-- ---- at place i, where `left` are the fields from there on
module _ (w : List ℕ) (i : ℕ) (left : List (List ℕ)) (e : left ≡ drop i (fields_of w)) where
  pub field-left : get_or left 0 hole ≡ field_at w i
  field-left = ap (λ (l : List (List ℕ)). get_or l 0 hole) e ∙ get_or-drop i (fields_of w) 0 hole ∙ ap (λ (k : ℕ). get_or (fields_of w) k hole) (add-zero i)

  pub left-more : drop 1 left ≡ drop (i + 1) (fields_of w)
  left-more = ap (drop 1) e ∙ drop-drop 1 i (fields_of w)

-- there are no more fields than places where none is left, and where one is left there are
pub no-more : (w : List ℕ) (i : ℕ) (at : Option ℕ) → fields_left w at ≡ drop i (fields_of w) → leb (length (fields_of w)) i ≡ not (is_some at)
no-more w i None e = le-leb (length (fields_of w)) i (omega (arith, ap length e, length-drop i (fields_of w)))
no-more w i (Some at) e = lt-leb (length (fields_of w)) i (omega (arith, some-from [] (drop at w), ap length e, length-drop i (fields_of w)))

-- ---- the first i places: each is readable; what was found of them, and which fields are left
pub record Upto (ns w : List ℕ) (differs : List Bool) (agrees : Bool) (at : Option ℕ) (i : ℕ) : Type 0 where
  pub inside : IfSome at (λ n. n ≤ length w)
  pub left : fields_left w at ≡ drop i (fields_of w)
  pub size : length differs ≡ field_count
  pub listing : take i differs ≡ listed_up_to i (differs_at ns w)
  pub reading : true ≡ holds_up_to i (readable_at w)
  pub agreeing : agrees ≡ holds_up_to i (λ k. not (differs_at ns w k))

pub upto-none : (ns w : List ℕ) (at : Option ℕ) → fields_left w at ≡ fields_of w → IfSome at (λ n. n ≤ length w)
    → Upto ns w (replicate field_count false) true at 0
upto-none ns w at left inside =
    record {
      inside = inside;
      left = left;
      size = refl;
      listing = none-listed (replicate field_count false) (differs_at ns w);
      reading = none-holds (readable_at w);
      agreeing = none-holds (λ k. not (differs_at ns w k));
    }

module _ (ns w : List ℕ) (d : List Bool) (g : Bool) (at : Option ℕ) (i : ℕ) (u : Upto ns w d g at i) where
  module _ (s : ℕ) (h : i < field_count) (says : s ≡ says_at i (get_or (fields_left w at) 0 hole)) where
    said-here : s ≡ says_at i (field_at w i)
    said-here = says ∙ ap (says_at i) (field-left w i (fields_left w at) u.left)

    -- one field more, that says s
    pub upto-more : (b : Bool) (at' : Option ℕ) → (if s == illegible then None else Some (differs_by (get_or ns i 0) s)) ≡ Some b
        → fields_left w at' ≡ drop 1 (fields_left w at) → IfSome at' (λ n. n ≤ length w) → Upto ns w (set d i b) (g && not b) at' (i + 1)
    upto-more b at' k after inside' =
        let f : (s == illegible ≡ false) × (b ≡ differs_at ns w i) = by-test (s == illegible) refl k in
        record {
          inside = inside';
          left = after ∙ left-more w i (fields_left w at) u.left;
          size = length-set d i _ ∙ u.size;
          listing = more-listed d (differs_at ns w) i _ (omega (arith, u.size)) f.1 u.listing;
          reading = more-holds (readable_at w) i true true u.reading (sym (ap not (ap (λ (x : ℕ). x == illegible) (sym said-here) ∙ f.0)));
          agreeing = more-holds (λ k. not (differs_at ns w k)) i g _ u.agreeing (ap not f.1);
        }
      where
        by-test : (t : Bool) → s == illegible ≡ t → (if t then None else Some (differs_by (get_or ns i 0) s)) ≡ Some b
            → (s == illegible ≡ false) × (b ≡ differs_at ns w i)
        by-test true e k = absurd cc
        by-test false e k = (e, let z : differs_by (get_or ns i 0) s ≡ b = cc in sym z ∙ ap (differs_by (get_or ns i 0)) said-here)

    -- one that cannot be read
    pub upto-unreadable : (a : Answer) → (if s == illegible then None else Some (differs_by (get_or ns i 0) s)) ≡ None → None ≡ compared_of a w
    unfolding compared_of readable_line
    upto-unreadable a k =
        let f : s == illegible ≡ true = by-test (s == illegible) refl k in
        simp (not-all (readable_at w) i field_count h (ap not (ap (λ (x : ℕ). x == illegible) (sym said-here) ∙ f)))
      where
        by-test : (t : Bool) → s == illegible ≡ t → (if t then None else Some (differs_by (get_or ns i 0) s)) ≡ None → s == illegible ≡ true
        by-test true e k = e
        by-test false e k = absurd cc

  module _ (a : Answer) (n : ns ≡ answer_numbers a) (end : i ≡ field_count) where
    read_by : readable_line w ≡ not (is_some at)
    unfolding readable_line
    read_by =
        let q : holds_up_to field_count (readable_at w) ≡ true = sym (rw end at u.reading) in
        let l : leb (length (fields_of w)) field_count ≡ not (is_some at) = rw end at (no-more w i at u.left) in
        simp (q, l)

    -- every field is read
    pub upto-read : is_some at ≡ false → Some (record { agrees = g; differs = d }) ≡ compared_of a w
    unfolding compared_of
    upto-read t =
        let l : d ≡ listed_up_to field_count (differs_at (answer_numbers a) w) =
        sym (take_all i d (omega (arith, u.size))) ∙ u.listing ∙ ap (λ (j : ℕ). listed_up_to j (differs_at ns w)) end
        ∙ ap (λ (m : List ℕ). listed_up_to field_count (differs_at m w)) n
        in
        let h : g ≡ holds_up_to field_count (λ k. not (differs_at (answer_numbers a) w k)) =
        u.agreeing ∙ ap (λ (j : ℕ). holds_up_to j (λ k. not (differs_at ns w k))) end
        ∙ ap (λ (m : List ℕ). holds_up_to field_count (λ k. not (differs_at m w k))) n
        in
        simp (read_by, t, l, h)

    -- there are too many
    pub upto-not : is_some at ≡ true → None ≡ compared_of a w
    unfolding compared_of
    upto-not t = simp (read_by, t)
