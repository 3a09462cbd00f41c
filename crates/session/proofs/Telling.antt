-- One line said to a session's device.
-- Assumes nothing.
use Rattle.std.specs.Prelude.{if◌then◌else◌, ◌==◌}
use Prim.Native.Nat.{ℕ, suc, ◌+◌, ◌≤◌, ◌<◌}
use mathlib.Core.Bool.{Bool, true, false, cond}
use mathlib.Core.List.{List, [], ◌∷◌, append-nil}
use mathlib.Core.Path.{◌≡◌, refl, sym, ap, ap₂, subst, ◌∙◌}
use native.Mathlib.Nat.{add-zero, zero-add}
use native.Mathlib.Omega.{arith}
use borrow.Author.Tests.{le-leb, leb-true, eq-eqb, ne_eqb}
use lib.Dec.{leb}
use lib.ListN.{length, take, drop}
use lib.Seq.{paste, paste-zero, length-take-le}
use Rattle.lines.proofs.Cutting.{Cuts, cuts}
use Rattle.texts.proofs.Printed.{answer-short}
use Rattle.texts.specs.Answers.{answer_text}
use Rattle.texts.specs.Answers.{line_feed}
use Rattle.basics.specs.Buffer.{fits, laid_of}
use Rattle.texts.specs.Kept.{text_room}
use Rattle.lines.specs.Lines.{says_of}
use Rattle.lines.specs.Pieces.{line_len, cut_from, said_last}
use Rattle.lines.specs.declared.Cut.{Cut}
use Rattle.session.specs.Sessions.{outcome_by, answer_bytes, device_after, start_of, after_of, answers_in, answers_last, device_last, finished_by, line_in, line_fed}
use Rattle.session.specs.declared.Fed.{Fed}
use Rattle.session.specs.declared.Session.{Session}
use Rattle.session.specs.declared.Told.{Told}
use Rattle.chip.specs.declared.Chip.{Chip}
use Rattle.rules.specs.declared.Answer.{Answer}
use Rattle.rules.specs.declared.Outcome.{Outcome}

-- what is told of an event: the buffer, and the place after the answer
abbrev pub told_bytes : List ℕ → ℕ → Outcome Chip Answer → List ℕ
told_bytes out at o = laid_of out at (answer_text o.answer)

abbrev pub told_len : List ℕ → ℕ → Outcome Chip Answer → ℕ
told_len out at o = cond (fits out at (answer_text o.answer)) (at + length (answer_text o.answer)) at

-- a line's bytes are among those that there are, and some where there are any
pub line-short : (m : List ℕ) → line_len m ≤ length m
unfolding line_len
line-short [] = omega arith
line-short (b ∷ m) = by-feed (b == line_feed) (line-short m)
  where
    by-feed : (f : Bool) → line_len m ≤ length m → cond f 1 (suc (line_len m)) ≤ suc (length m)
    by-feed true h = omega arith
    by-feed false h = omega arith

pub line-some : (m : List ℕ) → 0 < length m → 0 < line_len m
unfolding line_len
line-some [] h = absurd (omega arith)
line-some (b ∷ m) h = by-feed (b == line_feed)
  where
    by-feed : (f : Bool) → 0 < cond f 1 (suc (line_len m))
    by-feed true = omega arith
    by-feed false = omega arith

pub line-length : (m : List ℕ) → length (take (line_len m) m) ≡ line_len m
line-length m = length-take-le (line_len m) m (line-short m)

-- a cut from a place in the bytes m on
module _ (s : Session) (i : ℕ) (m : List ℕ) (k : Cut) (e : k ≡ cut_from s.text i m) where
  found : Cuts s.text i m k
  found = subst (λ (c : Cut). Cuts s.text i m c) (sym e) (cuts s.text i m)

  pub cut-next : i + length (take (line_len m) m) ≡ k.next
  cut-next = ap (λ (n : ℕ). i + n) (line-length m) ∙ sym found.next

  pub whole-answers : k.whole ≡ true → answers_in s (take (line_len m) m) ≡ answer_text (outcome_by s.device k.text).answer
  unfolding answers_in answer_bytes
  whole-answers w =
      ap (answer_bytes s.device) (found.said ∙ ap (λ (b : Bool). cond b (says_of k.text ∷ []) []) w)
      ∙ append-nil (answer_text (outcome_by s.device k.text).answer)

  pub whole-after : k.whole ≡ true → after_of s (take (line_len m) m) ≡ start_of (outcome_by s.device k.text).device
  unfolding after_of device_after
  whole-after w = simp (found.said, found.kept, w)

  pub part-answers : k.whole ≡ false → answers_in s (take (line_len m) m) ≡ []
  unfolding answers_in answer_bytes
  part-answers w = ap (answer_bytes s.device) (found.said ∙ ap (λ (b : Bool). cond b (says_of k.text ∷ []) []) w)

  pub part-after : k.whole ≡ false → after_of s (take (line_len m) m) ≡ record { device = s.device; text = k.text }
  unfolding after_of device_after
  part-after w = simp (found.said, found.kept, w)

-- a line's answer has room in a text
pub answers-short : (s : Session) (m : List ℕ) → length (answers_in s (take (line_len m) m)) ≤ text_room
answers-short s m = by_whole _ refl
  where
    by_whole : (w : Bool) → (cut_from s.text 0 m).whole ≡ w → length (answers_in s (take (line_len m) m)) ≤ text_room
    by_whole true w =
        subst (λ (l : List ℕ). length l ≤ text_room) (sym (whole-answers s 0 m (cut_from s.text 0 m) refl w))
        (answer-short (outcome_by s.device (cut_from s.text 0 m).text).answer)
    by_whole false w = subst (λ (l : List ℕ). length l ≤ text_room) (sym (part-answers s 0 m (cut_from s.text 0 m) refl w)) (omega arith)

abbrev fed : Session → ℕ → ℕ → Fed
fed s n l = record { session = s; next = n; len = l }

pub fed-is : (r : Fed) (s : Session) (n l : ℕ) → r.session ≡ s → r.next ≡ n → r.len ≡ l → r ≡ fed s n l
fed-is r s n l p q m = ap₂ (λ (u : Session) (k : ℕ). fed u k r.len) p q ∙ ap (fed s n) m

-- where a line ends in the piece, and where it does not
module _ (f : Fed) (piece out : List ℕ) (k : Cut) (e : k ≡ cut_from f.session.text f.next (drop f.next piece)) where
  module _ (w : k.whole ≡ true) where
    pub whole-line : answers_in f.session (line_in piece f.next) ≡ answer_text (outcome_by f.session.device k.text).answer
    unfolding line_in
    whole-line = whole-answers f.session f.next (drop f.next piece) k e w

    -- with the answer laid in the room that there is for it
    abbrev answer : List ℕ
    answer = answer_text (outcome_by f.session.device k.text).answer

    pub whole-fed : f.len + text_room ≤ length out
        → fed (start_of (outcome_by f.session.device k.text).device) k.next (if fits out f.len answer then f.len + length answer else f.len)
        ≡ line_fed f (line_in piece f.next)
    unfolding line_in line_fed fits
    whole-fed h =
        let m = answer-short (outcome_by f.session.device k.text).answer in
        let i : f.len + length answer ≤ length out = omega arith in
        let rest = drop f.next piece in
        simp (le-leb (f.len + length answer) (length out) i)
        (ap₂ (λ (s : Session) (n : ℕ). fed s n (f.len + length answer))
        (sym (whole-after f.session f.next rest k e w)) (sym (cut-next f.session f.next rest k e))
        ∙ ap (λ (l : List ℕ). fed (after_of f.session (line_in piece f.next)) (f.next + length (line_in piece f.next)) (f.len + length l))
        (sym whole-line))

  module _ (w : k.whole ≡ false) where
    pub part-line : answers_in f.session (line_in piece f.next) ≡ []
    unfolding line_in
    part-line = part-answers f.session f.next (drop f.next piece) k e w

    pub part-fed : fed (record { device = f.session.device; text = k.text }) k.next f.len ≡ line_fed f (line_in piece f.next)
    unfolding line_in line_fed
    part-fed =
        let rest = drop f.next piece in
        ap₂ (λ (s : Session) (n : ℕ). fed s n f.len)
        (sym (part-after f.session f.next rest k e w)) (sym (cut-next f.session f.next rest k e))
        ∙ ap (λ (l : ℕ). fed (after_of f.session (line_in piece f.next)) (f.next + length (line_in piece f.next)) l)
        (sym (ap (λ (l : List ℕ). f.len + length l) part-line ∙ add-zero f.len))

-- nothing laid leaves a buffer as it is
pub laid_none : (out : List ℕ) (at : ℕ) → laid_of out at [] ≡ out
unfolding laid_of
laid_none out at = either (fits out at [])
  where
    either : (f : Bool) → cond f (paste out at [] 0) out ≡ out
    either true = sym (paste-zero out at [])
    either false = refl

-- ---- the last line
pub last_none : (s : Session) → s.text.len ≡ 0 → answers_last s ≡ []
unfolding answers_last said_last answer_bytes
last_none s e = simp (eq-eqb s.text.len 0 e)

pub last_some : (s : Session) → (s.text.len ≡ 0 → ⊥) → answers_last s ≡ answer_text (outcome_by s.device s.text).answer
unfolding answers_last said_last answer_bytes
last_some s e = simp (ne_eqb s.text.len 0 e) (append-nil (answer_text (outcome_by s.device s.text).answer))

-- what is handed back of it
abbrev told : Chip → ℕ → Told
told d n = record { device = d; len = n }

abbrev ends : List ℕ → List ℕ → ℕ
ends out w = if fits out 0 w then length w else 0

pub finished-none : (s : Session) (out : List ℕ) → s.text.len ≡ 0 → told s.device 0 ≡ finished_by s out
unfolding finished_by device_last said_last device_after
finished-none s out e =
    simp (eq-eqb s.text.len 0 e) (ap (told s.device) (sym (ap (ends out) (last_none s e) ∙ zero-both (fits out 0 []))))
  where
    zero-both : (f : Bool) → ◌≡◌ {A = ℕ} (if f then 0 else 0) 0
    zero-both true = refl
    zero-both false = refl

pub finished-some : (s : Session) (out : List ℕ) (r : Told) → (s.text.len ≡ 0 → ⊥) → r.device ≡ (outcome_by s.device s.text).device
    → r.len ≡ (if fits out 0 (answer_text (outcome_by s.device s.text).answer) then 0 + length (answer_text (outcome_by s.device s.text).answer) else 0)
    → r ≡ finished_by s out
unfolding finished_by device_last said_last device_after
finished-some s out r e p q =
    let a = answer_text (outcome_by s.device s.text).answer in
    simp (ne_eqb s.text.len 0 e)
    (ap₂ told p (q ∙ ap (λ (n : ℕ). if fits out 0 a then n else 0) (zero-add (length a)) ∙ ap (ends out) (sym (last_some s e))))

-- and it ends within the buffer
pub finished-within : (s : Session) (out : List ℕ) → (finished_by s out).len ≤ length out
unfolding finished_by fits
finished-within s out = either (leb (0 + length (answers_last s)) (length out)) refl
  where
    either : (f : Bool) → leb (0 + length (answers_last s)) (length out) ≡ f → (if f then length (answers_last s) else 0) ≤ length out
    either true e = let h = leb-true (0 + length (answers_last s)) (length out) e in omega arith
    either false e = omega arith
