-- A piece cut at its line feeds.
-- Assumes nothing.
use Rattle.std.specs.Prelude.{Option, Some, None, unwrap_or, position, ◌==◌}
use Rattle.std.specs.List.{position_or_len}
use Rattle.lines.specs.Lines.{below}
use Rattle.lines.proofs.Tests.{is_below, not-below}
use Prim.Native.Nat.{ℕ, suc, ◌+◌, ◌≤◌, ◌<◌}
use mathlib.Core.Bool.{Bool, true, false, not, cond}
use mathlib.Core.List.{List, [], ◌∷◌}
use mathlib.Core.Path.{◌≡◌, refl, sym, ap, ◌∙◌}
use native.Mathlib.Nat.{add-zero}
use native.Mathlib.Numerals.{add-one}
use native.Mathlib.Omega.{arith}
use borrow.Author.Tests.{ltb-false}
use lib.Dec.{ltb}
use lib.ListN.{length, take}
use Rattle.texts.specs.Answers.{line_feed}
use Rattle.texts.specs.Kept.{no_text, pushed, typed}
use Rattle.lines.specs.Lines.{says_of}
use Rattle.lines.specs.Pieces.{line_len, feed_at, cut_from, said_in, kept_after}
use Rattle.lines.specs.declared.Cut.{Cut}
use Rattle.texts.specs.declared.Text.{Text}

-- what a cut finds in the bytes m that it meets
pub record Cuts (t : Text) (i : ℕ) (m : List ℕ) (c : Cut) : Type 0 where
  pub next : c.next ≡ i + line_len m
  pub said : said_in t (take (line_len m) m) ≡ cond c.whole (says_of c.text ∷ []) []
  pub kept : kept_after t (take (line_len m) m) ≡ cond c.whole no_text c.text

pub cuts : (t : Text) (i : ℕ) (m : List ℕ) → Cuts t i m (cut_from t i m)
unfolding cut_from line_len said_in kept_after
cuts t i [] = record { next = sym (add-zero i); said = refl; kept = refl }
cuts t i (b ∷ rest) = by-feed (b == line_feed) refl (cuts (pushed t b) (suc i) rest)
  where
    by-feed : (f : Bool) → b == line_feed ≡ f → Cuts (pushed t b) (suc i) rest (cut_from (pushed t b) (suc i) rest)
        → Cuts t i (b ∷ rest) (cond (b == line_feed) (record { text = t; next = suc i; whole = true }) (cut_from (pushed t b) (suc i) rest))
    by-feed true e r = record { next = simp e (sym (add-one i)); said = simp e; kept = simp e }
    by-feed false e r =
        let n = r.next in
        record { next = simp e (omega arith); said = simp e r.said; kept = simp e r.kept }

-- ---- the place of the line feed, as the code looks for it
feed-first : (m : List ℕ) → position_or_len (λ (b : ℕ). b == line_feed) m ≡ feed_at m
unfolding feed_at
feed-first [] = refl
feed-first (b ∷ rest) = by-feed (b == line_feed) (feed-first rest)
  where
    by-feed : (f : Bool) → position_or_len (λ (x : ℕ). x == line_feed) rest ≡ feed_at rest
        → cond (not f) (1 + position_or_len (λ (x : ℕ). x == line_feed) rest) 0 ≡ cond f 0 (suc (feed_at rest))
    by-feed true e = refl
    by-feed false e = omega arith

as_tested : (m : List ℕ) → position (λ (b : ℕ). b == line_feed) m ≡ below (length m) (feed_at m)
as_tested m = ap (below (length m)) (feed-first m)

pub feed_found : {n : ℕ} (m : List ℕ) → Some n ≡ position (λ (b : ℕ). b == line_feed) m → (n ≡ feed_at m) × (feed_at m < length m)
feed_found m e = is_below (length m) (feed_at m) (e ∙ as_tested m)

feed-le : (m : List ℕ) → feed_at m ≤ length m
unfolding feed_at
feed-le [] = omega arith
feed-le (b ∷ rest) = by-feed (b == line_feed) (feed-le rest)
  where
    by-feed : (f : Bool) → feed_at rest ≤ length rest → cond f 0 (suc (feed_at rest)) ≤ length (b ∷ rest)
    by-feed true h = omega arith
    by-feed false h = omega arith

pub feed_missed : (m : List ℕ) → None ≡ position (λ (b : ℕ). b == line_feed) m → feed_at m ≡ length m
feed_missed m e =
    let h = not-below (length m) (feed_at m) (e ∙ as_tested m) in
    let g = feed-le m in
    omega arith

pub feed_or_end : (m : List ℕ) → unwrap_or (position (λ (b : ℕ). b == line_feed) m) (length m) ≡ feed_at m
feed_or_end m = ap (λ (o : Option ℕ). unwrap_or o (length m)) (as_tested m) ∙ by-test (ltb (feed_at m) (length m)) refl
  where
    by-test : (f : Bool) → ltb (feed_at m) (length m) ≡ f → unwrap_or (cond f (Some (feed_at m)) None) (length m) ≡ feed_at m
    by-test true e = refl
    by-test false e = let h = ltb-false (feed_at m) (length m) e in let g = feed-le m in omega arith

-- a line that ends in the bytes m has all up to it
abbrev pub ended : Text → ℕ → Cut
ended u n = record { text = u; next = n; whole = true }

pub cut-ended : (t : Text) (i : ℕ) (m : List ℕ) → feed_at m < length m
    → cut_from t i m ≡ ended (typed t (take (feed_at m) m)) (i + feed_at m + 1)
unfolding cut_from feed_at typed
cut-ended t i [] h = absurd (omega arith)
cut-ended t i (b ∷ rest) h = by-feed (b == line_feed) refl h (cut-ended (pushed t b) (suc i) rest)
  where
    by-feed : (f : Bool) → b == line_feed ≡ f → cond f 0 (suc (feed_at rest)) < length (b ∷ rest)
        → (feed_at rest < length rest → cut_from (pushed t b) (suc i) rest ≡ ended (typed (pushed t b) (take (feed_at rest) rest)) (suc i + feed_at rest + 1))
        → cond (b == line_feed) (ended t (suc i)) (cut_from (pushed t b) (suc i) rest)
        ≡ ended (typed t (take (cond (b == line_feed) 0 (suc (feed_at rest))) (b ∷ rest))) (i + cond (b == line_feed) 0 (suc (feed_at rest)) + 1)
    by-feed true e g r = simp e (ap (ended t) (omega arith))
    by-feed false e g r = simp e (r (omega arith) ∙ ap (ended (typed (pushed t b) (take (feed_at rest) rest))) (omega arith))

-- and one that does not has all of them
pub cut-open : (t : Text) (i : ℕ) (m : List ℕ) → feed_at m ≡ length m
    → cut_from t i m ≡ record { text = typed t m; next = i + length m; whole = false }
unfolding cut_from feed_at typed
cut-open t i [] h = ap (λ (k : ℕ). record { text = t; next = k; whole = false }) (sym (add-zero i))
cut-open t i (b ∷ rest) h = by-feed (b == line_feed) refl h (cut-open (pushed t b) (suc i) rest)
  where
    by-feed : (f : Bool) → b == line_feed ≡ f → cond f 0 (suc (feed_at rest)) ≡ length (b ∷ rest)
        → (feed_at rest ≡ length rest → cut_from (pushed t b) (suc i) rest ≡ record { text = typed (pushed t b) rest; next = suc i + length rest; whole = false })
        → cond (b == line_feed) (ended t (suc i)) (cut_from (pushed t b) (suc i) rest)
        ≡ record { text = typed (pushed t b) rest; next = i + length (b ∷ rest); whole = false }
    by-feed true e g r = absurd (omega arith)
    by-feed false e g r =
        simp e (r (omega arith) ∙ ap (λ (k : ℕ). record { text = typed (pushed t b) rest; next = k; whole = false }) (omega arith))
