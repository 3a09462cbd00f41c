-- A line whose fields are each `-` or the answer's own, some missing at the end, agrees with the answer.
-- Assumes nothing.
use Rattle.std.specs.Prelude.{◌==◌}
use Prim.Native.Char.{code}
use Prim.Native.Nat.{ℕ, suc, zero, ◌+◌, ◌-◌, ◌≤◌, ◌<◌}
use mathlib.Core.Bool.{true, false, not, ◌&&◌}
use mathlib.Core.List.{List, [], ◌∷◌, ◌++◌, append-nil}
use mathlib.Core.Logic.{◌⊎◌, inl, inr}
use mathlib.Core.Path.{◌≡◌, refl, sym, ap, ◌∙◌}
use native.Mathlib.Nat.{add-suc, suc-add, zero-add, add-zero}
use native.Mathlib.Omega.{arith}
use borrow.Author.Tests.{lt-ltb, le-ltb, le-leb, eq-eqb, ne_eqb}
use lib.Dec.{ltb}
use lib.ListN.{length, take, drop, get_or, length-append, length-drop}
use Rattle.basics.proofs.Tests.{both, not_so}
use Rattle.rules.specs.declared.Answer.{Answer}
use Rattle.texts.specs.Answers.{space, line_feed}
use Rattle.lines.specs.Lines.{digit_of}
use Rattle.lines.specs.Pieces.{feed_at}
use Rattle.bench_lines.specs.Agreed.{agreed_to}
use Rattle.bench_lines.specs.Compared.{field_count, answer_numbers, readable_at, readable_line, differs_at, compared_of, agrees}
use Rattle.bench_lines.specs.Fields.{fields_from, fields_of, field_at, hole, unmeasured, illegible, says_at}
use Rattle.bench_lines.specs.Walk.{Meets, After, over, next, Begins, field, Up, Agrees}
use Rattle.bench_lines.proofs.Own.{hex_digits, free, digits-free, space-no-digit, feed-no-digit, field-ends, line-ends, Says, one}
use Rattle.bench_lines.proofs.Own.{holds-all, at_place, same_number, texts_of, Ranged, own-says}
use Rattle.bench_lines.proofs.Reading.{hole-says}
use Rattle.bench_lines.proofs.Walked.{feeds}

-- ---- fields that say numbers or nothing, from place i on
data Fair : ℕ → List (List ℕ) → List ℕ → Type 0 where
  ended : {i : ℕ} {ns : List ℕ} → Fair i [] ns
  fair : {i n : ℕ} {f : List ℕ} {fs : List (List ℕ)} {ns : List ℕ} → (says_at i f ≡ n) ⊎ (f ≡ hole) → n < unmeasured → Fair (suc i) fs ns
      → Fair i (f ∷ fs) (n ∷ ns)

-- a field says the number, or that it was not measured
abbrev Said : ℕ → ℕ → Type 0
Said s n = (s ≡ unmeasured) ⊎ ((s ≡ n) × (n < unmeasured))

no_field : (i k : ℕ) → says_at (i + k) (get_or {A = List ℕ} [] k hole) ≡ unmeasured
no_field i k = hole-says (i + k)

fair-at : {i : ℕ} {fs : List (List ℕ)} {ns : List ℕ} → Fair i fs ns → (k : ℕ) → Said (says_at (i + k) (get_or fs k hole)) (get_or ns k 0)
fair-at {i} ended k = inl (no_field i k)
fair-at {i} (fair (inl e) l r) zero = inr (at_place (i + 0) i _ (add-zero i) ∙ e, l)
fair-at {i} (fair (inr e) l r) zero = inl (ap (says_at (i + 0)) e ∙ hole-says (i + 0))
fair-at {i} (fair {n} {f} {fs} {ns} e l r) (suc k) =
    let t = fair-at r k in
    rw (ap (λ (j : ℕ). says_at j (get_or fs k hole)) (suc-add i k ∙ sym (add-suc i k))) at t

fair-most : {i : ℕ} {fs : List (List ℕ)} {ns : List ℕ} → Fair i fs ns → length fs ≤ length ns
fair-most ended = omega arith
fair-most (fair e l r) = let t = fair-most r in omega arith

-- ---- the fields of a line that met the texts
meets-free : (x : ℕ) (t f : List ℕ) → (digit_of x < 16 → ⊥) → (code "-" ≡ x → ⊥) → hex_digits t ≡ true → Meets t f → free x f ≡ true
unfolding free
meets-free x t f n m h (inl e) = ap (free x) e ∙ digits-free x t n h
meets-free x t f n m h (inr e) = ap (free x) e ∙ (simp (ne_eqb (code "-") x m))

-- the fields after the first
unfoldable others : List ℕ → List (List ℕ)
others [] = []
others (b ∷ w) = fields_from [] w

cut_field : {ts : List (List ℕ)} (f w : List ℕ) → free space f ≡ true → After ts w → fields_from [] (f ++ w) ≡ f ∷ others w
unfolding others
cut_field f [] h over = ap (fields_from []) (append-nil f) ∙ line-ends [] f h
cut_field f (b ∷ w) h (next m r) = field-ends [] f w h

no-space : (t f : List ℕ) → hex_digits t ≡ true → Meets t f → free space f ≡ true
no-space t f h m = meets-free space t f space-no-digit (λ e. omega arith) h m

no-feed : (t f : List ℕ) → hex_digits t ≡ true → Meets t f → free line_feed f ≡ true
no-feed t f h m = meets-free line_feed t f feed-no-digit (λ e. omega arith) h m

says-or : (i n : ℕ) (t f : List ℕ) → says_at i t ≡ n → Meets t f → (says_at i f ≡ n) ⊎ (f ≡ hole)
says-or i n t f e (inl g) = inl (ap (says_at i) g ∙ e)
says-or i n t f e (inr g) = inr g

fair-after : {ts : List (List ℕ)} {w : List ℕ} {i : ℕ} {ns : List ℕ} → After ts w → Says i ts ns → Fair i (others w) ns
unfolding others
fair-after over s = ended
fair-after {i = i} (next {f} {w} m r) (one {n} {f = t} e l h s) =
    let z : Fair i (f ∷ others w) _ = fair (says-or i n t f e m) l (fair-after r s) in
    rw (sym (cut_field f w (no-space t f h m) r)) at z

fair-line : {ts : List (List ℕ)} {w : List ℕ} {i : ℕ} {ns : List ℕ} → Begins ts w → Says i ts ns → Fair i (fields_from [] w) ns
fair-line {i = i} (field {f} {w} m r) (one {n} {f = t} e l h s) =
    let z : Fair i (f ∷ others w) _ = fair (says-or i n t f e m) l (fair-after r s) in
    rw (sym (cut_field f w (no-space t f h m) r)) at z

-- ---- it has no line feed
free-both : (x : ℕ) (f w : List ℕ) → free x f ≡ true → free x w ≡ true → free x (f ++ w) ≡ true
unfolding free
free-both x [] w g h = h
free-both x (b ∷ f) w g h = let t = both (not (b == x)) (free x f) g in simp (t.0, free-both x f w t.1 h)

free-after : {ts : List (List ℕ)} {w : List ℕ} {i : ℕ} {ns : List ℕ} → After ts w → Says i ts ns → free line_feed w ≡ true
unfolding free
free-after over s = refl
free-after (next {f} {w} m r) (one {f = t} e l h s) = free-both line_feed f w (no-feed t f h m) (free-after r s)

free-line : {ts : List (List ℕ)} {w : List ℕ} {i : ℕ} {ns : List ℕ} → Begins ts w → Says i ts ns → free line_feed w ≡ true
free-line (field {f} {w} m r) (one {f = t} e l h s) = free-both line_feed f w (no-feed t f h m) (free-after r s)

feed-after : (w left : List ℕ) → free line_feed w ≡ true → feed_at (w ++ (line_feed ∷ left)) ≡ length w
unfolding free feed_at
feed-after [] left h = refl
feed-after (b ∷ w) left h =
    let t = both (not (b == line_feed)) (free line_feed w) h in
    simp (not_so (b == line_feed) t.0, feed-after w left t.1)

take-first : (w v : List ℕ) → take (length w) (w ++ v) ≡ w
take-first [] v = refl
take-first (b ∷ w) v = ap (λ (l : List ℕ). b ∷ l) (take-first w v)

-- ---- so it agrees
module _ (a : Answer) (w : List ℕ) (h : Fair 0 (fields_of w) (answer_numbers a)) where
  says_at_lem : (k : ℕ) → Said (says_at k (field_at w k)) (get_or (answer_numbers a) k 0)
  says_at_lem k = let t = fair-at h k in rw (zero-add k) at t

  legible : (s n : ℕ) → Said s n → not (s == illegible) ≡ true
  legible s n (inl e) = ap not (ne_eqb s illegible (λ z. omega arith))
  legible s n (inr e) = let l = e.1 in let g = e.0 in ap not (ne_eqb s illegible (λ z. omega arith))

  same : (s n : ℕ) → Said s n → not (not (s == unmeasured) && not (s == n)) ≡ true
  same s n (inl e) = simp (eq-eqb s unmeasured e)
  same s n (inr e) = same_number (not (s == unmeasured)) (s == n) (eq-eqb s n e.0)

  fair-readable : readable_line w ≡ true
  unfolding readable_line
  fair-readable = simp (holds-all field_count (readable_at w) (λ k l. legible _ _ (says_at_lem k)), le-leb (length (fields_of w)) field_count (fair-most h))

  fair-agrees : agrees (compared_of a w) ≡ true
  unfolding compared_of agrees
  fair-agrees = simp fair-readable (holds-all field_count (λ k. not (differs_at (answer_numbers a) w k)) (λ k l. same _ _ (says_at_lem k)))

fair-whole : {ns : List ℕ} (w : List ℕ) → Fair 0 (fields_from [] w) ns → Fair 0 (fields_of w) ns
unfolding fields_of
fair-whole [] h = ended
fair-whole (b ∷ w) h = h

module _ (a : Answer) (r : Ranged a) (b : List ℕ) (at e : ℕ) where
  -- ---- in the buffer
  pub agrees-up : Up (Begins (texts_of a)) b at e → e + 1 ≡ agreed_to a b at
  unfolding agreed_to
  agrees-up u =
      let w = u.bytes in
      let s = own-says a r in
      let l : length w < length (w ++ (line_feed ∷ u.left)) = omega (arith, length-append w (line_feed ∷ u.left)) in
      let n = u.end in
      simp (u.are, feed-after w u.left (free-line u.holds s), take-first w (line_feed ∷ u.left), lt-ltb _ _ l, fair-agrees a w (fair-whole w (fair-line u.holds s)))
      (omega arith)

  -- a line feed at the end of the walk
  pub agrees_at : (us : List (List ℕ)) → (Up (After us) b e e → Up (Begins (texts_of a)) b at e) → Agrees a b at e
  agrees_at us m h f = agrees-up (m (feeds b e h f))

-- ---- by its fields, one by one: the line feed is at the place e
module _ (a : Answer) (b : List ℕ) (at e : ℕ) (f : e ≡ at + feed_at (drop at b)) where
  taken : take (feed_at (drop at b)) (drop at b) ≡ take (e - at) (drop at b)
  taken = let k : feed_at (drop at b) ≡ e - at = omega arith in ap (λ (n : ℕ). take n (drop at b)) k

  ends : e < length b → ltb (feed_at (drop at b)) (length (drop at b)) ≡ true
  ends h = lt-ltb (feed_at (drop at b)) (length (drop at b)) (omega (arith, length-drop at b))

  pub agreed-by : e < length b → agrees (compared_of a (take (e - at) (drop at b))) ≡ true → e + 1 ≡ agreed_to a b at
  unfolding agreed_to
  agreed-by h g = simp (ends h, taken, g) (omega arith)

  pub not-agreed : e < length b → agrees (compared_of a (take (e - at) (drop at b))) ≡ false → at ≡ agreed_to a b at
  unfolding agreed_to
  not-agreed h g = simp (ends h, taken, g)

  pub no_line : length b ≤ e → at ≡ agreed_to a b at
  unfolding agreed_to
  no_line h = simp (le-ltb (feed_at (drop at b)) (length (drop at b)) (omega (arith, length-drop at b)))
