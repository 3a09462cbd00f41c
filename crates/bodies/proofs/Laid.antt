-- Parts laid one after the other over the front of a buffer that has room for them.
-- Assumes nothing.
use Prim.Native.Nat.{ℕ, ◌+◌, ◌≤◌}
use mathlib.Core.Path.{◌≡◌, refl, sym, ap, subst, ◌∙◌}
use mathlib.Core.List.{List, [], ◌++◌}
use native.Mathlib.Omega.{arith}
use lib.ListN.{length, drop, length-append, length-drop}
use lib.Seq.{paste, take_at, take-length, drop-append-add, drop-drop}
use Rattle.basics.specs.Buffer.{laid_of}
use Rattle.basics.proofs.Laying.{laid-fits}

-- e with its first k bytes replaced by xs, of which there are k
pub record Laid (e xs f : List ℕ) (k : ℕ) : Type 0 where
  pub holds : f ≡ xs ++ drop k e
  pub long : length xs ≡ k

pub none : (e : List ℕ) → Laid e [] e 0
none e = record { holds = refl; long = refl }

pasted : {e xs f g : List ℕ} {n : ℕ} (ys : List ℕ) (m : ℕ) → length ys ≡ m → Laid e xs f n → g ≡ paste f n ys (length ys) → Laid e (xs ++ ys) g (n + m)
pasted {e} {xs} {f} {g} {n} ys m hm l q =
    record {
      holds =
          q ∙ ap (λ (h : List ℕ). paste h n ys (length ys)) l.holds
          ∙ (simp (take_at xs (drop n e) n l.long, take-length, after))
          ∙ ap (λ (k : ℕ). xs ++ ys ++ drop (n + k) e) hm;
      long = length-append xs ys ∙ ap (λ (k : ℕ). k + length ys) l.long ∙ ap (λ (k : ℕ). n + k) hm;
    }
  where
    after : drop (n + length ys) (xs ++ drop n e) ≡ drop (n + length ys) e
    after = ap (λ (k : ℕ). drop (k + length ys) (xs ++ drop n e)) (sym l.long) ∙ drop-append-add xs (drop n e) (length ys) ∙ drop-drop (length ys) n e

pub more : {e xs f g : List ℕ} {n : ℕ} (ys : List ℕ) (m : ℕ) → length ys ≡ m → n + m ≤ length e → Laid e xs f n → g ≡ laid_of f n ys → Laid e (xs ++ ys) g (n + m)
more {e} {xs} {f} {g} {n} ys m hm room l q = pasted ys m hm l (q ∙ laid-fits f n ys fit)
  where
    whole : length f ≡ length xs + length (drop n e)
    whole = ap length l.holds ∙ length-append xs (drop n e)

    fit : n + length ys ≤ length f
    fit = omega (arith, whole, l.long, length-drop n e)

-- the same up to a place that is named
pub next : {e xs f g : List ℕ} {n : ℕ} (ys : List ℕ) (m k : ℕ) → length ys ≡ m → n + m ≡ k → k ≤ length e → Laid e xs f n → g ≡ laid_of f n ys → Laid e (xs ++ ys) g k
next {e} {xs} {f} {g} {n} ys m k hm hk room l q =
    subst (λ (j : ℕ). Laid e (xs ++ ys) g j) hk (more ys m hm (subst (λ (j : ℕ). j ≤ length e) (sym hk) room) l q)
