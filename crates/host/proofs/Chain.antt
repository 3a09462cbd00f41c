-- Of any device's calls: refused, done, and one after the other.
-- Assumes nothing.
use Prim.Native.Nat.{ℕ, ◌≤◌, ◌<◌}
use mathlib.Core.Path.{◌≡◌, refl, sym, ap, ◌∙◌}
use mathlib.Core.List.{List, [], ◌∷◌, ◌++◌, map, append-nil}
use native.Mathlib.Omega.{arith}
use borrow.Author.Tests.{lt-ltb, ne_eqb}
use lib.ListN.{length, drop}
use lib.Seq.{drop-length}
use Rattle.basics.specs.Runs.{record_through, answers_through}
use Rattle.host.specs.Calls.{called, refusal_of, call_of}
use Rattle.host.proofs.Calls.{not-refused, accepted}

module _ (k : ℕ) (saved w s b : List ℕ) where
  -- a state that is no image, or no sound one: its code, and nothing touched
  pub no-image : (n : ℕ) → (n ≡ 0 → ⊥) → call_of n k saved w s b ≡ called n s b
  unfolding call_of refusal_of
  no-image n h = simp (ne_eqb n 0 h)

  -- an answer buffer that is too short
  pub no_room_lem : (n m : ℕ) → n ≡ 0 → length w ≡ m → length b < m → call_of n k saved w s b ≡ called 7 s b
  unfolding call_of refusal_of
  no_room_lem n m z l h = simp (z, lt-ltb (length b) (length w) (omega (arith, l)))

  -- a call that is not refused, where the save writes the whole state
  pub done : (m : ℕ) (image : List ℕ) → length w ≡ m → m ≤ length b → saved ≡ image → call_of 0 k saved w s b ≡ called k image (w ++ drop m b)
  done m image l room e =
      sym (accepted 0 k saved w s b (not-refused 0 (length b) (length w) refl (omega (arith, l))))
      ∙ ap (λ (i : List ℕ). called k i (w ++ drop (length w) b)) e ∙ ap (λ (n : ℕ). called k image (w ++ drop n b)) l

-- what is saved over the first bytes of a buffer that has no others
pub all_of : (image s x : List ℕ) (n : ℕ) → n ≡ length s → x ≡ image ++ drop n s → x ≡ image
all_of image s x n h e =
    e ∙ ap (λ (n : ℕ). image ++ drop n s) h ∙ ap (λ (l : List ℕ). image ++ l) (drop-length s) ∙ append-nil image

-- calls one after the other, each on the state that the one before it left: what each keeps between state and record, and what it answers
module _ {D E : Type 0} (Holds : List ℕ → D → Type 0) (after : List ℕ → E → List ℕ) (next : D → E → D) where
  module _ (kept : (s : List ℕ) (d : D) (e : E) → Holds s d → Holds (after s e) (next d e)) where
    pub states : (s : List ℕ) (d : D) (l : List E) → Holds s d → Holds (record_through after s l) (record_through next d l)
    unfolding record_through
    states s d [] h = h
    states s d (e ∷ l) h = states (after s e) (next d e) l (kept s d e h)

    module _ {A : Type 0} (answer : List ℕ → E → List ℕ) (reply : D → E → A) (shown : A → List ℕ) where
      pub answers : ((s : List ℕ) (d : D) (e : E) → Holds s d → answer s e ≡ shown (reply d e))
          → (s : List ℕ) (d : D) (l : List E) → Holds s d → answers_through after answer s l ≡ map shown (answers_through next reply d l)
      unfolding answers_through
      answers told s d [] h = refl
      answers told s d (e ∷ l) h =
          ap (λ (a : List ℕ). a ∷ answers_through after answer (after s e) l) (told s d e h)
          ∙ ap (λ (r : List (List ℕ)). shown (reply d e) ∷ r) (answers told (after s e) (next d e) l (kept s d e h))
