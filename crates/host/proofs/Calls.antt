-- The two ways through a call of a host, refused and not: from what its restore, its event and its buffers came to, to what the definitions
-- say of the state alone.
-- Assumes nothing.
use Prim.Native.Nat.{ℕ, ◌≤◌}
use mathlib.Core.Path.{◌≡◌, refl, sym, ap, ap₂, ◌∙◌}
use mathlib.Core.Bool.{Bool, true, false, not, cond}
use mathlib.Core.List.{List, ◌++◌}
use native.Mathlib.Nat.{zero-add}
use native.Mathlib.Omega.{arith}
use borrow.Author.Tests.{eqb-true, eqb-false, ltb-false, ne_eqb, le-ltb}
use lib.Dec.{eqb, ltb}
use lib.ListN.{length, drop}
use Rattle.basics.specs.Buffer.{laid_of}
use Rattle.bodies.proofs.Laid.{none, more}
use Rattle.host.specs.Calls.{Called, called, refusal_of, call_of}

-- what a call has met that is not refused, and the other way
module _ (r n m : ℕ) where
  met_by : (t u : Bool) → eqb r 0 ≡ t → ltb n m ≡ u → cond (not t) r (cond u 7 0) ≡ 0 → (r ≡ 0) × (m ≤ n)
  met_by true true p q h = absurd (omega arith)
  met_by true false p q h = (eqb-true r 0 p, ltb-false n m q)
  met_by false u p q h = absurd (eqb-false r 0 p h)

  pub met : refusal_of r n m ≡ 0 → (r ≡ 0) × (m ≤ n)
  unfolding refusal_of
  met h = met_by (eqb r 0) (ltb n m) refl refl h

  pub not-refused : r ≡ 0 → m ≤ n → refusal_of r n m ≡ 0
  unfolding refusal_of
  not-refused h l = simp (h, le-ltb n m l)

module _ (restored k : ℕ) (saved w s b : List ℕ) where
  abbrev refusal : ℕ
  refusal = refusal_of restored (length b) (length w)

  -- a refused call leaves both buffers
  pub refused : (refusal ≡ 0 → ⊥) → called refusal s b ≡ call_of restored k saved w s b
  unfolding call_of
  refused h = simp (ne_eqb refusal 0 h)

  pub accepted : refusal ≡ 0 → called k saved (w ++ drop (length w) b) ≡ call_of restored k saved w s b
  unfolding call_of
  accepted h = simp h

-- bytes laid over the first ones of a buffer that has room for them
over : (w b : List ℕ) → length w ≤ length b → laid_of b 0 w ≡ w ++ drop (length w) b
over w b room =
    (more w (length w) refl (omega (arith, zero-add (length w))) (none b) refl).holds ∙ ap (λ (n : ℕ). w ++ drop n b) (zero-add (length w))

-- a call that restores r from the state, where t is to be restored, and comes to o
module _ {R O : Type 0} (code : R → ℕ) (event : R → O) (reply : O → ℕ) (saved bytes : O → List ℕ) where
  module _ (m : ℕ) (long : (o : O) → length (bytes o) ≡ m) (s b : List ℕ) (t : R) where
    abbrev by : R → O → Called
    by r o = call_of (code r) (reply o) (saved o) (bytes o) s b

    tests : (r : R) (o : O) (n : ℕ) → n ≡ refusal_of (code r) (length b) m → n ≡ refusal_of (code r) (length b) (length (bytes o))
    tests r o n e = e ∙ ap (λ (k : ℕ). refusal_of (code r) (length b) k) (sym (long o))

    pub stays : (r : R) (n : ℕ) → r ≡ t → n ≡ refusal_of (code r) (length b) m → (n ≡ 0 → ⊥) → called n s b ≡ by t (event t)
    stays r n p e h =
        let o = event r in
        ap (λ (n : ℕ). called n s b) (tests r o n e)
        ∙ refused (code r) (reply o) (saved o) (bytes o) s b (λ z. h (tests r o n e ∙ z)) ∙ ap (λ (r : R). by r (event r)) p

    pub goes : (r : R) (o : O) (n : ℕ) (w x y : List ℕ) → r ≡ t → n ≡ refusal_of (code r) (length b) m → n ≡ 0
        → o ≡ event r → w ≡ bytes o → x ≡ saved o → y ≡ laid_of b 0 w → called (reply o) x y ≡ by t (event t)
    goes r o n w x y p e z q f g h =
        let free = sym (tests r o n e) ∙ z in
        let room = (met (code r) (length b) (length (bytes o)) free).1 in
        ap₂ (λ (x y : List ℕ). called (reply o) x y) g (h ∙ ap (laid_of b 0) f ∙ over (bytes o) b room)
        ∙ accepted (code r) (reply o) (saved o) (bytes o) s b free ∙ ap (λ (o : O). by r o) q ∙ ap (λ (r : R). by r (event r)) p
