-- What is written on a stream for what is read of another. Of a stream of the system it is not known which bytes it gives or holds.
-- Assumes nothing.
use Rattle.std.specs.Prelude.{ℕ, ◌≡◌, List, Option}
use Rattle.std.specs.Io.KnownBytes.{Appends, Consumes}
use Rattle.chip.specs.declared.Chip.{Chip}
use Rattle.session.specs.declared.Session.{Session}
use Rattle.session.specs.Sessions.{start_of, after_of, answers_in, device_last, printed_for}

-- some bytes were read, the session is the one after them, and the answers to them were written
abbrev pub Answered : Session → Session → Option (List ℕ) → Option (List ℕ) → Option (List ℕ) → Option (List ℕ) → Type 0
Answered s t unread left held holds =
    (bytes : List ℕ) × Consumes unread left bytes × (t ≡ after_of s bytes) × Appends held holds (answers_in s bytes)

-- some bytes were read, the device is the one after their lines, the last of which may have no line feed, and what was written is what
-- is to be printed for them
abbrev pub Printed : Chip → Chip → Option (List ℕ) → Option (List ℕ) → Option (List ℕ) → Option (List ℕ) → Type 0
Printed d e unread left held holds =
    (bytes : List ℕ) × Consumes unread left bytes × (e ≡ device_last (after_of (start_of d) bytes))
    × Appends held holds (printed_for d bytes)
