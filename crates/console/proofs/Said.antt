-- Bytes said to a session one piece after the other, and the answers to them written one after the other.
-- Assumes nothing.
use Rattle.std.proofs.Common.{Bool, if◌then◌else◌, ◌==◌, ◌∷◌, true, false, not, ◌&&◌, ℕ, ◌+◌, ◌≤◌, ◌≡◌, refl, sym, ap, subst, ◌∙◌, List, [], ◌++◌, length, take, drop, Option, None, Some}
use native.Mathlib.Nat.{zero-add}
use native.Mathlib.Omega.{arith}
use Rattle.std.proofs.KnownBytes.{Appends-nil, Appends-trans, Consumes-trans}
use Rattle.std.proofs.lemmas.List.{take-append-drop}
use Rattle.std.proofs.Math.Seq.{take-append_seam}
use mathlib.Core.List.{append-nil, append_assoc}
use lib.ListN.{length-append, length-drop}
use lib.Seq.{take-add, take-length}
use borrow.Author.Tests.{le-leb}
use Rattle.std.specs.Io.KnownBytes.{Appends, Consumes}
use Rattle.session.specs.declared.Fed.{Fed}
use Rattle.session.specs.declared.Session.{Session}
use Rattle.basics.specs.Buffer.{fits, laid_of}
use Rattle.chip.specs.declared.Chip.{Chip}
use Rattle.texts.specs.Answers.{answer_text}
use Rattle.texts.specs.Kept.{text_room}
use Rattle.texts.proofs.Printed.{answer-short}
use Rattle.lines.specs.Lines.{says_of}
use Rattle.lines.specs.Pieces.{said_in, kept_after, said_last, input_of}
use Rattle.session.specs.Sessions.{answer_bytes, device_after, start_of, after_of, answers_in, answers_last, read_in, bytes_read, fed_by, finished_by, answered, outcome_by, printed_for, written_by}
use Rattle.console.specs.Console.{Answered}
use Rattle.session.proofs.Laws.{after-append, answers-append, written}

-- ---- no byte
pub none-after : (s : Session) → after_of s [] ≡ s
unfolding after_of device_after said_in kept_after
none-after s = refl

pub none-answered : (s : Session) → answers_in s [] ≡ []
unfolding answers_in answer_bytes said_in
none-answered s = refl

-- ---- one turn of a piece
-- what is read of a piece stands in front of what is left of it
reads-front : (t : Session) (piece : List ℕ) (at : ℕ) (out : List ℕ)
    → (q : List ℕ) × (drop at piece ≡ bytes_read t piece at out ++ q)
unfolding bytes_read
reads-front t piece at out =
    let k = read_in (length out) t 0 (drop at piece) in
    (drop k (drop at piece), sym (take-append-drop k (drop at piece)))

module _ (piece p q : List ℕ) (at : ℕ) (e : drop at piece ≡ p ++ q) (h : at ≤ length piece) where
  pub front-short : at + length p ≤ length piece
  front-short = omega (arith, length-drop at piece, ap length e, length-append p q)

  pub front-taken : take (at + length p) piece ≡ take at piece ++ p
  front-taken =
      take-add at (length p) piece
      ∙ ap (λ (l : List ℕ). take at piece ++ take (length p) l) e
      ∙ ap (λ (l : List ℕ). take at piece ++ l) (take-append_seam p q)

-- the answers that were laid into a buffer are written
pub laid-front : (w out : List ℕ) → take (length w) (answered w out) ≡ w
unfolding answered
laid-front w out = take-append_seam w (drop (length w) out)

-- the bytes of a piece up to a place are said, and the answers to them are written; then those up to the next place
module _ (s t : Session) (piece out out' : List ℕ) (at : ℕ) (f : Fed) (u v w : Option (List ℕ))
    (short : at ≤ length piece) (said : t ≡ after_of s (take at piece)) (wrote : Appends u v (answers_in s (take at piece)))
    (fed : f ≡ fed_by t at (bytes_read t piece at out)) (laid : out' ≡ answered (answers_in t (bytes_read t piece at out)) out)
    (writes : Appends v w (take f.len out')) where
  abbrev more : List ℕ
  more = bytes_read t piece at out

  abbrev left : List ℕ
  left = (reads-front t piece at out).0

  abbrev front : drop at piece ≡ more ++ left
  front = (reads-front t piece at out).1

  next-is : f.next ≡ at + length more
  unfolding fed_by
  next-is = ap (λ (x : Fed). x.next) fed

  pub said-short : f.next ≤ length piece
  said-short = let k = front-short piece more left at front short in omega (arith, next-is, k)

  taken : take f.next piece ≡ take at piece ++ more
  taken = ap (λ (n : ℕ). take n piece) next-is ∙ front-taken piece more left at front short

  pub said-after : f.session ≡ after_of s (take f.next piece)
  unfolding fed_by
  said-after =
      ap (λ (x : Fed). x.session) fed ∙ ap (λ (x : Session). after_of x more) said ∙ sym (after-append s (take at piece) more)
      ∙ sym (ap (after_of s) taken)

  answers-are : answers_in s (take f.next piece) ≡ answers_in s (take at piece) ++ answers_in t more
  answers-are =
      ap (answers_in s) taken ∙ answers-append s (take at piece) more
      ∙ ap (λ (x : Session). answers_in s (take at piece) ++ answers_in x more) (sym said)

  written-are : take f.len out' ≡ answers_in t more
  unfolding fed_by
  written-are =
      ap (λ (n : ℕ). take n out') (ap (λ (x : Fed). x.len) fed) ∙ ap (take (length (answers_in t more))) laid
      ∙ laid-front (answers_in t more) out

  pub said-wrote : Appends u w (answers_in s (take f.next piece))
  said-wrote =
      subst (λ (l : List ℕ). Appends u w l) (sym answers-are)
      (Appends-trans u v w (answers_in s (take at piece)) (answers_in t more) wrote
      (subst (λ (l : List ℕ). Appends v w l) written-are writes))

-- what was read one time after the other, and the answers that were written
module _ (s t t' : Session) (r r' r'' u v w : Option (List ℕ)) where
  pub answered-more : Answered s t r r' u v → Answered t t' r' r'' v w → Answered s t' r r'' u w
  answered-more h g =
      let p = h.0 in
      let q = g.0 in (
        p ++ q,
        Consumes-trans r r' r'' p q h.1 g.1,
        g.2 ∙ ap (λ (x : Session). after_of x q) h.2 ∙ sym (after-append s p q),
        subst (Appends u w) (sym (answers-append s p q ∙ ap (λ (x : Session). answers_in s p ++ answers_in x q) (sym h.2)))
            (Appends-trans u v w (answers_in s p) (answers_in t q) h.3 g.3),
      )

pub answered-none : (s : Session) (r r' u : Option (List ℕ)) → Consumes r r' [] → Answered s s r r' u u
answered-none s r r' u h = ([], h, sym (none-after s), subst (Appends u u) (sym (none-answered s)) (Appends-nil u))

-- ---- the last line, and the whole input
pub last-short : (s : Session) → length (answers_last s) ≤ text_room
unfolding answers_last said_last answer_bytes
last-short s = by_test (s.text.len == 0)
  where
    by_test : (b : Bool) → length (answer_bytes s.device (if b then [] else (says_of s.text ∷ []))) ≤ text_room
    by_test true = omega arith
    by_test false =
        let a = (outcome_by s.device s.text).answer in
        omega (arith, answer-short a, ap length (append-nil (answer_text a)))

-- a buffer with room for it has the answer in front
pub last-laid : (s : Session) (out : List ℕ) → text_room ≤ length out
    → take (finished_by s out).len (laid_of out 0 (answers_last s)) ≡ answers_last s
unfolding finished_by laid_of fits
last-laid s out h =
    simp (le-leb (0 + length (answers_last s)) (length out) (omega (arith, last-short s)))
    (ap (λ (n : ℕ). take (length (answers_last s)) (take (length (answers_last s)) (answers_last s) ++ drop n out)) (zero-add (length (answers_last s)))
    ∙ ap (λ (l : List ℕ). take (length (answers_last s)) (l ++ drop (length (answers_last s)) out)) (take-length (answers_last s))
    ∙ take-append_seam (answers_last s) (drop (length (answers_last s)) out))

-- what is printed for an input in one piece
pub printed-is : (d : Chip) (p : List ℕ) → printed_for d p ≡ answers_in (start_of d) p ++ answers_last (after_of (start_of d) p)
unfolding written_by input_of
printed-is d p =
    ap (printed_for d) (sym (append-nil p)) ∙ sym (written d (p ∷ []))
