-- The lines of an input that are there already, in a lent buffer. Paper 01, "The trace program": "reads standard input: .. a line
-- feed .. the last line feed may be missing."
-- Assumes nothing.
use Rattle.std.specs.Prelude.{ℕ, List, Some, None, ltb, length, take, drop, if◌then◌else◌, ◌==◌}
use Rattle.texts.specs.declared.Text.{Text}
use Rattle.lines.specs.declared.Cut.{Cut}
use Rattle.texts.specs.Kept.{no_text}
use Rattle.lines.specs.Pieces.{cut_from}
use Rattle.input.specs.declared.Reader.{Reader}
use Rattle.input.specs.declared.Next.{Next}

-- no byte yet
abbrev pub unread : Reader
unread = record { text = no_text; at = 0; end = 0 }

-- what is handed on of a cut: a line, and the bytes after it; or what there is of one, which the reader keeps
unfoldable pub handed : Reader → Cut → Next
handed r c =
    if c.whole then record { reader = record { text = no_text; at = c.next; end = r.end }; line = Some c.text }
    else record { reader = record { text = c.text; at = r.at; end = r.end }; line = None }

-- the next line among the bytes that were read; a place past the buffer's end says that there are none
unfoldable pub line_next : Reader → List ℕ → Next
line_next r bytes =
    if ltb (length bytes) r.end then record { reader = r; line = None }
    else handed r (cut_from r.text r.at (drop r.at (take r.end bytes)))

-- at the end of the input: a last line, where it is not empty
abbrev pub line_last : Text → Next
line_last t = record { reader = unread; line = if t.len == 0 then None else Some t }
