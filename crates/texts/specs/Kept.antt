-- The bytes of a line as they are kept, a line that is read as well as one that is written.
-- Assumes nothing.
use Rattle.std.specs.Prelude.{ℕ, ◌+◌, List, [], ◌∷◌, ltb, take, set, replicate, if◌then◌else◌}
use Rattle.texts.specs.declared.Text.{Text}

-- the room of a text: any answer fits, and so does any line that paper 01 lets a trace have
abbrev pub text_room : ℕ
text_room = 96

-- no byte yet
unfoldable pub no_text : Text
no_text = record { bytes = replicate text_room 0; len = 0 }

-- one byte more; of a line that has no room only that it has none, which a length past the room says
unfoldable pub pushed : Text → ℕ → Text
pushed t b =
    if ltb t.len text_room then record { bytes = set t.bytes t.len b; len = t.len + 1 }
    else record { bytes = t.bytes; len = text_room + 1 }

-- the bytes of w after those of t
unfoldable pub typed : Text → List ℕ → Text
typed t [] = t
typed t (b ∷ w) = typed (pushed t b) w

-- how many bytes are kept, and which: none of a line that has no room
unfoldable pub kept_len : Text → ℕ
kept_len t = if ltb text_room t.len then 0 else t.len

unfoldable pub bytes_of : Text → List ℕ
bytes_of t = take (kept_len t) t.bytes
