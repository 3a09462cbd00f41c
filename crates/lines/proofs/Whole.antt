-- An input read in pieces says what its lines say, wherever it was cut.
-- Assumes nothing.
use Rattle.std.specs.Prelude.{Option, ◌==◌}
use Prim.Native.Nat.{ℕ}
use mathlib.Core.Bool.{Bool, true, false, cond}
use mathlib.Core.List.{List, [], ◌∷◌, ◌++◌, map, append_assoc}
use mathlib.Core.Path.{◌≡◌, refl, sym, ap, ◌∙◌}
use borrow.Author.Tests.{ne_eqb}
use Rattle.texts.specs.Answers.{line_feed}
use Rattle.texts.specs.Kept.{no_text, pushed, typed}
use Rattle.lines.specs.Lines.{line_of, says_of}
use Rattle.lines.specs.Pieces.{last_of, lines_from, input_lines, said_in, kept_after, said_last, said_all, input_of}
use Rattle.rules.specs.declared.Event.{Event}
use Rattle.texts.specs.declared.Text.{Text}
use Rattle.texts.proofs.Keeping.{some-kept}
use Rattle.lines.proofs.Saying.{says-line}
use Rattle.texts.proofs.Typing.{typed_append}

-- ---- two pieces are one
pub kept_append : (t : Text) (p q : List ℕ) → kept_after t (p ++ q) ≡ kept_after (kept_after t p) q
unfolding kept_after
kept_append t [] q = refl
kept_append t (b ∷ p) q = by-feed (b == line_feed) (kept_append no_text p q) (kept_append (pushed t b) p q)
  where
    by-feed : (f : Bool) → kept_after no_text (p ++ q) ≡ kept_after (kept_after no_text p) q
        → kept_after (pushed t b) (p ++ q) ≡ kept_after (kept_after (pushed t b) p) q
        → cond f (kept_after no_text (p ++ q)) (kept_after (pushed t b) (p ++ q))
        ≡ kept_after (cond f (kept_after no_text p) (kept_after (pushed t b) p)) q
    by-feed true at-feed in-line = at-feed
    by-feed false at-feed in-line = in-line

pub said-append : (t : Text) (p q : List ℕ) → said_in t (p ++ q) ≡ said_in t p ++ said_in (kept_after t p) q
unfolding said_in kept_after
said-append t [] q = refl
said-append t (b ∷ p) q = by-feed (b == line_feed) (said-append no_text p q) (said-append (pushed t b) p q)
  where
    by-feed : (f : Bool) → said_in no_text (p ++ q) ≡ said_in no_text p ++ said_in (kept_after no_text p) q
        → said_in (pushed t b) (p ++ q) ≡ said_in (pushed t b) p ++ said_in (kept_after (pushed t b) p) q
        → cond f (says_of t ∷ said_in no_text (p ++ q)) (said_in (pushed t b) (p ++ q))
        ≡ cond f (says_of t ∷ said_in no_text p) (said_in (pushed t b) p) ++ said_in (cond f (kept_after no_text p) (kept_after (pushed t b) p)) q
    by-feed true at-feed in-line = ap (λ (ls : List (Option Event)). says_of t ∷ ls) at-feed
    by-feed false at-feed in-line = in-line

pub said-joined : (t : Text) (ps : List (List ℕ)) → said_all t ps ≡ said_in t (input_of ps) ++ said_last (kept_after t (input_of ps))
unfolding said_all input_of said_in kept_after
said-joined t [] = refl
said-joined t (p ∷ ps) =
    ap (λ (ls : List (Option Event)). said_in t p ++ ls) (said-joined (kept_after t p) ps)
    ∙ sym (append_assoc (said_in t p) (said_in (kept_after t p) (input_of ps)) (said_last (kept_after (kept_after t p) (input_of ps))))
    ∙ sym
    (ap (λ (ls : List (Option Event)). ls ++ said_last (kept_after t (p ++ input_of ps))) (said-append t p (input_of ps))
    ∙ ap (λ (u : Text). said_in t p ++ said_in (kept_after t p) (input_of ps) ++ said_last u) (kept_append t p (input_of ps)))

-- ---- one piece is its lines
some-line : (b : ℕ) (w : List ℕ) → said_last (typed no_text (b ∷ w)) ≡ line_of (b ∷ w) ∷ []
unfolding said_last
some-line b w = simp (ne_eqb (typed no_text (b ∷ w)).len 0 (some-kept b w), says-line (b ∷ w))

last_line : (w : List ℕ) → said_last (typed no_text w) ≡ map line_of (last_of w)
unfolding said_last last_of typed no_text
last_line [] = refl
last_line (b ∷ w) = some-line b w

-- of a line that has come in part
from-line : (w input : List ℕ) → said_in (typed no_text w) input ++ said_last (kept_after (typed no_text w) input) ≡ map line_of (lines_from w input)
unfolding said_in kept_after lines_from typed
from-line w [] = last_line w
from-line w (b ∷ rest) = by-feed (b == line_feed) (from-line [] rest) (from-line (w ++ (b ∷ [])) rest)
  where
    by-feed : (f : Bool)
        → said_in no_text rest ++ said_last (kept_after no_text rest) ≡ map line_of (lines_from [] rest)
        → said_in (typed no_text (w ++ (b ∷ []))) rest ++ said_last (kept_after (typed no_text (w ++ (b ∷ []))) rest) ≡ map line_of (lines_from (w ++ (b ∷ [])) rest)
        → cond f (says_of (typed no_text w) ∷ said_in no_text rest) (said_in (pushed (typed no_text w) b) rest)
        ++ said_last (cond f (kept_after no_text rest) (kept_after (pushed (typed no_text w) b) rest))
        ≡ map line_of (cond f (w ∷ lines_from [] rest) (lines_from (w ++ (b ∷ [])) rest))
    by-feed true at-feed in-line =
        ap (λ (l : Option Event). l ∷ (said_in no_text rest ++ said_last (kept_after no_text rest))) (says-line w) ∙ ap (λ (ls : List (Option Event)). line_of w ∷ ls) at-feed
    by-feed false at-feed in-line =
        ap (λ (u : Text). said_in u rest ++ said_last (kept_after u rest)) (sym (typed_append no_text w (b ∷ []))) ∙ in-line

pub said-lines : (ps : List (List ℕ)) → said_all no_text ps ≡ map line_of (input_lines (input_of ps))
unfolding typed
said-lines ps = said-joined no_text ps ∙ from-line [] (input_of ps)
