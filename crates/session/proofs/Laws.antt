-- Lines said in pieces, and all that the program writes.
-- Assumes nothing.
use Rattle.std.specs.Prelude.{Option}
use Prim.Native.Nat.{ℕ}
use mathlib.Core.List.{List, [], ◌∷◌, ◌++◌, append_assoc}
use mathlib.Core.Path.{◌≡◌, refl, sym, ap, ap₂, ◌∙◌}
use Rattle.chip.specs.Chips.{event_chip}
use Rattle.chip.specs.declared.Chip.{Chip}
use Rattle.lines.proofs.Whole.{said-append, kept_append, said-lines}
use Rattle.texts.specs.Answers.{answer_text}
use Rattle.lines.specs.Lines.{event_in}
use Rattle.lines.specs.Pieces.{said_in, kept_after, said_all, input_of}
use Rattle.rules.specs.declared.Event.{Event}
use Rattle.texts.specs.declared.Text.{Text}
use Rattle.session.specs.Sessions.{answer_bytes, device_after, printed_for, start_of, after_of, answers_in, answers_last, written_by}
use Rattle.session.specs.declared.Session.{Session}

pub device-append : (d : Chip) (ls ms : List (Option Event)) → device_after d (ls ++ ms) ≡ device_after (device_after d ls) ms
unfolding device_after
device-append d [] ms = refl
device-append d (l ∷ ls) ms = device-append (event_chip d (event_in l)).device ls ms

pub answers-to-append : (d : Chip) (ls ms : List (Option Event)) → answer_bytes d (ls ++ ms) ≡ answer_bytes d ls ++ answer_bytes (device_after d ls) ms
unfolding answer_bytes device_after
answers-to-append d [] ms = refl
answers-to-append d (l ∷ ls) ms =
    let o = event_chip d (event_in l) in
    ap (λ (w : List ℕ). answer_text o.answer ++ w) (answers-to-append o.device ls ms)
    ∙ sym (append_assoc (answer_text o.answer) (answer_bytes o.device ls) (answer_bytes (device_after o.device ls) ms))

abbrev session : Chip → Text → Session
session d t = record { device = d; text = t }

-- two pieces are one
pub after-append : (s : Session) (p q : List ℕ) → after_of s (p ++ q) ≡ after_of (after_of s p) q
unfolding after_of
after-append s p q =
    ap₂ (λ (ls : List (Option Event)) (u : Text). session (device_after s.device ls) u) (said-append s.text p q) (kept_append s.text p q)
    ∙ ap (λ (d : Chip). session d (kept_after (kept_after s.text p) q)) (device-append s.device (said_in s.text p) (said_in (kept_after s.text p) q))

pub answers-append : (s : Session) (p q : List ℕ) → answers_in s (p ++ q) ≡ answers_in s p ++ answers_in (after_of s p) q
unfolding answers_in after_of
answers-append s p q =
    ap (answer_bytes s.device) (said-append s.text p q) ∙ answers-to-append s.device (said_in s.text p) (said_in (kept_after s.text p) q)

-- ---- the whole run: the answers to the pieces one after the other, and to the last line, are those to the lines of the input
written-said : (s : Session) (ps : List (List ℕ)) → written_by s ps ≡ answer_bytes s.device (said_all s.text ps)
unfolding written_by said_all answers_in answers_last after_of
written-said s [] = refl
written-said s (p ∷ ps) =
    ap (λ (w : List ℕ). answer_bytes s.device (said_in s.text p) ++ w) (written-said (after_of s p) ps)
    ∙ sym (answers-to-append s.device (said_in s.text p) (said_all (kept_after s.text p) ps))

pub written : (d : Chip) (ps : List (List ℕ)) → written_by (start_of d) ps ≡ printed_for d (input_of ps)
unfolding printed_for
written d ps = written-said (start_of d) ps ∙ ap (answer_bytes d) (said-lines ps)
