-- The session of the trace programs. Paper 01, "The trace program": "From the fresh device, reads standard input: .. Each line
-- prints ..". Paper 02, W-209: the Z8536 has one too.
-- Assumes nothing.
use Rattle.std.specs.Prelude.{ℕ, suc, ◌+◌, Option, List, [], ◌∷◌, ◌++◌, map, ltb, length, take, drop, if◌then◌else◌}
use Rattle.basics.specs.Buffer.{fits}
use Rattle.chip.specs.declared.Chip.{Chip}
use Rattle.rules.specs.declared.Answer.{Answer}
use Rattle.rules.specs.declared.Outcome.{Outcome}
use Rattle.chip.specs.Chips.{event_chip}
use Rattle.texts.specs.Answers.{answer_text}
use Rattle.texts.specs.Kept.{text_room, no_text}
use Rattle.lines.specs.Lines.{event_in, line_of, says_of}
use Rattle.lines.specs.Pieces.{input_lines, line_len, said_in, kept_after, said_last}
use Rattle.rules.specs.declared.Event.{Event}
use Rattle.texts.specs.declared.Text.{Text}
use Rattle.session.specs.declared.Fed.{Fed}
use Rattle.session.specs.declared.Session.{Session}
use Rattle.session.specs.declared.Taken.{Taken}
use Rattle.session.specs.declared.Told.{Told}

-- a line that is kept, said to a device
abbrev pub outcome_by : Chip → Text → Outcome Chip Answer
outcome_by d t = event_chip d (event_in (says_of t))

-- ---- lines said to a device one after the other: the bytes of their answers, and the device after them
unfoldable pub answer_bytes : Chip → List (Option Event) → List ℕ
answer_bytes d [] = []
answer_bytes d (l ∷ ls) = answer_text (event_chip d (event_in l)).answer ++ answer_bytes (event_chip d (event_in l)).device ls

unfoldable pub device_after : Chip → List (Option Event) → Chip
device_after d [] = d
device_after d (l ∷ ls) = device_after (event_chip d (event_in l)).device ls

-- all that a program writes that starts with this device, for all that it reads
unfoldable pub printed_for : Chip → List ℕ → List ℕ
printed_for d input = answer_bytes d (map line_of (input_lines input))

-- ---- in pieces
-- before the first byte
abbrev pub start_of : Chip → Session
start_of d = record { device = d; text = no_text }

-- a session after the bytes p, and the answers to the lines that end in them
unfoldable pub after_of : Session → List ℕ → Session
after_of s p = record { device = device_after s.device (said_in s.text p); text = kept_after s.text p }

unfoldable pub answers_in : Session → List ℕ → List ℕ
answers_in s p = answer_bytes s.device (said_in s.text p)

-- "the last line feed may be missing": the answer to a last line without one, and the device after it
unfoldable pub answers_last : Session → List ℕ
answers_last s = answer_bytes s.device (said_last s.text)

unfoldable pub device_last : Session → Chip
device_last s = device_after s.device (said_last s.text)

-- all that is written for an input that comes in these pieces
unfoldable pub written_by : Session → List (List ℕ) → List ℕ
written_by s [] = answers_last s
written_by s (p ∷ ps) = answers_in s p ++ written_by (after_of s p) ps

-- ---- into a buffer of some room, n bytes of which are answers already: how many bytes of m are read before an answer
-- might find no room
unfoldable pub read_in : ℕ → Session → ℕ → List ℕ → ℕ
read_in room s n [] = 0
read_in room s n (b ∷ m) =
    if ltb room (n + text_room) then 0 else suc (read_in room (after_of s (b ∷ [])) (n + length (answers_in s (b ∷ []))) m)

-- the bytes of a piece that are read from a place on, into an empty buffer
unfoldable pub bytes_read : Session → List ℕ → ℕ → List ℕ → List ℕ
bytes_read s piece at out = take (read_in (length out) s 0 (drop at piece)) (drop at piece)

-- what is handed back after the bytes p
unfoldable pub fed_by : Session → ℕ → List ℕ → Fed
fed_by s at p = record { session = after_of s p; next = at + length p; len = length (answers_in s p) }

-- answers at the start of a buffer
unfoldable pub answered : List ℕ → List ℕ → List ℕ
answered w out = w ++ drop (length w) out

-- what is handed back at the end of the input
unfoldable pub finished_by : Session → List ℕ → Told
finished_by s out =
    record { device = device_last s; len = if fits out 0 (answers_last s) then length (answers_last s) else 0 }

-- ---- one line of a piece, from place i on
unfoldable pub line_in : List ℕ → ℕ → List ℕ
line_in piece i = take (line_len (drop i piece)) (drop i piece)

-- what is handed back of what was taken so far
abbrev pub fed_of : Taken → Fed
fed_of t = record { session = record { device = t.device; text = t.text }; next = t.next; len = t.len }

-- what is handed on after it
unfoldable pub line_fed : Fed → List ℕ → Fed
line_fed f p =
    record { session = after_of f.session p; next = f.next + length p; len = f.len + length (answers_in f.session p) }
