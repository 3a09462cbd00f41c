-- A line walked byte by byte: what each step has met, in the buffer.
-- Assumes nothing.
use Prim.Native.Nat.{ℕ, ◌+◌, ◌<◌, ◌≤◌}
use mathlib.Core.List.{List, [], ◌∷◌, ◌++◌, append_assoc}
use mathlib.Core.Logic.{inl, inr}
use mathlib.Core.Path.{◌≡◌, refl, sym, ap, subst, ◌∙◌}
use native.Mathlib.Nat.{add-zero}
use native.Mathlib.Numerals.{add-one}
use native.Mathlib.Omega.{arith}
use lib.ListN.{length, take, drop, get_or, length-append, length-drop}
use Rattle.std.proofs.Common.{map}
use Rattle.std.proofs.lemmas.List.{map-append, take-append-drop, take_all}
use lib.Seq.{drop-cons}
use Rattle.texts.specs.Answers.{space, line_feed}
use Rattle.bench_lines.specs.Walk.{Meets, After, over, next, field, Up, Met, MetFirst, Ended}

-- ---- bytes of a buffer
at_byte : (b : List ℕ) (at : ℕ) → at < length b → drop at b ≡ get_or b at 0 ∷ drop (at + 1) b
at_byte b at h = drop-cons b at 0 h ∙ ap (λ (k : ℕ). get_or b at 0 ∷ drop k b) (sym (add-one at))

-- a line ends before the end of the buffer
within : {P : List ℕ → Type 0} (b : List ℕ) (at e : ℕ) → Up P b at e → at < length b
within b at e u =
    let z : length (drop at b) ≡ length u.bytes + length (line_feed ∷ u.left) = ap length u.are ∙ length-append u.bytes (line_feed ∷ u.left) in
    let s : 0 < length (line_feed ∷ u.left) = omega arith in
    omega (arith, z, s, length-drop at b)

-- the line feed itself
pub feeds : {us : List (List ℕ)} (b : List ℕ) (at : ℕ) → at < length b → get_or b at 0 ≡ line_feed → Up (After us) b at at
feeds b at h e =
    record { bytes = []; left = drop (at + 1) b; are = at_byte b at h ∙ ap (λ (x : ℕ). x ∷ drop (at + 1) b) e; end = add-zero at; holds = over }

-- ---- one step after the other
pub met-nothing : (b : List ℕ) (at : ℕ) → Met [] b at at
met-nothing b at us e u = u

pub met-then : (ts us : List (List ℕ)) (b : List ℕ) (at i r : ℕ) → Met ts b at i → Met us b i r → Met (ts ++ us) b at r
met-then ts us b at i r m n vs e u = rw append_assoc (m (us ++ vs) e (n vs e u))

-- a walk that met the first of all texts may end there
pub met-ended : (ts us all : List (List ℕ)) (b : List ℕ) (at i : ℕ) → Met ts b at i → ts ++ us ≡ all → Ended all b at i
met-ended ts us all b at i m q h f = subst (λ (l : List (List ℕ)). Up (After l) b at i) q (m us i (feeds b i h f))

-- after the first k of all texts, and others behind them
pub met-first : (f : ℕ → List ℕ) (ns : List ℕ) (rest : List (List ℕ)) (k : ℕ) (b : List ℕ) (at i : ℕ)
    → Met (map f (take k ns)) b at i → Ended (map f ns ++ rest) b at i
met-first f ns rest k b at i m =
    met-ended (map f (take k ns)) (map f (drop k ns) ++ rest) (map f ns ++ rest) b at i m
    (sym (append_assoc (map f (take k ns)) (map f (drop k ns)) rest)
    ∙ ap (λ (l : List (List ℕ)). l ++ rest) (sym (map-append f (take k ns) (drop k ns)) ∙ ap (map f) (take-append-drop k ns)))

-- where all were met, and the walk went on
pub met-all : (f : ℕ → List ℕ) (ns : List ℕ) (rest : List (List ℕ)) (k : ℕ) (b : List ℕ) (at i r : ℕ) → length ns ≤ k
    → Met (map f (take k ns)) b at i → Ended rest b i r → Ended (map f ns ++ rest) b at r
met-all f ns rest k b at i r e m n h g =
    let w : Met (map f ns) b at i = subst (λ (l : List ℕ). Met (map f l) b at i) (take_all k ns e) m in
    w rest r (n h g)

-- ---- a step
-- a space and a field
met-field : (t f b : List ℕ) (at r : ℕ) → Meets t f → drop at b ≡ space ∷ (f ++ drop r b) → r ≡ at + 1 + length f → Met (t ∷ []) b at r
met-field t f b at r m d z us e u =
    record {
      bytes = space ∷ (f ++ u.bytes);
      left = u.left;
      are = d ∙ ap (λ (l : List ℕ). space ∷ (f ++ l)) u.are ∙ ap (λ (l : List ℕ). space ∷ l) (sym (append_assoc f u.bytes (line_feed ∷ u.left)));
      end = let g = u.end in omega (arith, length-append f u.bytes);
      holds = next m u.holds;
    }

first_field : (t f b : List ℕ) (at r : ℕ) → Meets t f → drop at b ≡ f ++ drop r b → r ≡ at + length f → MetFirst (t ∷ []) b at r
first_field t f b at r m d z us e u =
    record {
      bytes = f ++ u.bytes;
      left = u.left;
      are = d ∙ ap (λ (l : List ℕ). f ++ l) u.are ∙ sym (append_assoc f u.bytes (line_feed ∷ u.left));
      end = let g = u.end in omega (arith, length-append f u.bytes);
      holds = field m u.holds;
    }

-- ---- a field of one byte, and of two
pub first_one : (t b : List ℕ) (at : ℕ) → at < length b → Meets t (get_or b at 0 ∷ []) → MetFirst (t ∷ []) b at (at + 1)
first_one t b at h m = first_field t (get_or b at 0 ∷ []) b at (at + 1) m (at_byte b at h) refl

module _ (b : List ℕ) (at : ℕ) (h : at + 2 < length b) (s : get_or b at 0 ≡ space) where
  two_bytes : drop at b ≡ space ∷ get_or b (at + 1) 0 ∷ drop (at + 2) b
  two_bytes =
      let k : at + 1 + 1 ≡ at + 2 = omega arith in
      at_byte b at (omega arith) ∙ ap (λ (x : ℕ). x ∷ drop (at + 1) b) s
      ∙ ap (λ (l : List ℕ). space ∷ l) (at_byte b (at + 1) (omega arith) ∙ ap (λ (j : ℕ). get_or b (at + 1) 0 ∷ drop j b) k)

  pub met-one : (t : List ℕ) → Meets t (get_or b (at + 1) 0 ∷ []) → Met (t ∷ []) b at (at + 2)
  met-one t m = met-field t (get_or b (at + 1) 0 ∷ []) b at (at + 2) m two_bytes (omega arith)

  pub met-two : (g l : ℕ) → at + 3 < length b → get_or b (at + 1) 0 ≡ g → get_or b (at + 2) 0 ≡ l → Met ((g ∷ l ∷ []) ∷ []) b at (at + 3)
  met-two g l i p q =
      let k : at + 2 + 1 ≡ at + 3 = omega arith in
      met-field (g ∷ l ∷ []) (g ∷ l ∷ []) b at (at + 3) (inl refl)
      (two_bytes ∙ ap (λ (x : ℕ). space ∷ x ∷ drop (at + 2) b) p
      ∙ ap (λ (m : List ℕ). space ∷ g ∷ m) (at_byte b (at + 2) h ∙ ap (λ (x : ℕ). x ∷ drop (at + 2 + 1) b) q ∙ ap (λ (j : ℕ). l ∷ drop j b) k))
      (omega arith)

-- ---- texts for others: each field that meets the one meets the other
meets-as : (t u f : List ℕ) → Meets u t → Meets t f → Meets u f
meets-as t u f (inl e) (inl g) = inl (g ∙ e)
meets-as t u f (inr e) (inl g) = inr (g ∙ e)
meets-as t u f m (inr g) = inr g

pub same-one : {x y : ℕ} → x ≡ y → x ∷ [] ≡ y ∷ []
same-one e = ap (λ (z : ℕ). z ∷ []) e

pub same-two : {x y v w : ℕ} → x ≡ y → v ≡ w → x ∷ v ∷ [] ≡ y ∷ w ∷ []
same-two {x} {y} {v} {w} e f = ap (λ (z : ℕ). z ∷ v ∷ []) e ∙ ap (λ (z : ℕ). y ∷ z ∷ []) f

pub data Alike : List (List ℕ) → List (List ℕ) → Type 0 where
  done : Alike [] []
  like : {t u : List ℕ} {ts us : List (List ℕ)} → Meets u t → Alike ts us → Alike (t ∷ ts) (u ∷ us)

after-as : {ts us : List (List ℕ)} (vs : List (List ℕ)) → Alike ts us → (w : List ℕ) → After (ts ++ vs) w → After (us ++ vs) w
after-as vs done w h = h
after-as vs (like m r) w over = over
after-as vs (like m r) w (next n k) = next (meets-as _ _ _ m n) (after-as vs r _ k)

up-as : {ts us : List (List ℕ)} (b : List ℕ) (at : ℕ) → Alike ts us → (vs : List (List ℕ)) (e : ℕ) → Up (After (ts ++ vs)) b at e → Up (After (us ++ vs)) b at e
up-as b at c vs e w = record { bytes = w.bytes; left = w.left; are = w.are; end = w.end; holds = after-as vs c _ w.holds }

pub met-as : {ts us : List (List ℕ)} (b : List ℕ) (at r : ℕ) → Alike ts us → Met ts b at r → Met us b at r
met-as b at r c m vs e v = up-as b at c vs e (m vs e v)
