-- docs/CTC.md, "Image": the bodies of a CTC's record, byte for byte, and what they tell. Every field of the record stands in one of them.
-- Assumes nothing.
use Rattle.std.specs.Prelude.{ℕ, ◌+◌, ◌*◌, Bool, ◌&&◌, List, [], ◌∷◌, ◌++◌, ltb, if◌then◌else◌, ◌==◌}
use Rattle.basics.specs.Byte.{bit}
use Rattle.bodies.specs.Layout.{Layout, body_in}
use Rattle.bodies.specs.Written.{image_in}
use Rattle.bodies.specs.Taken.{byte_at}
use Rattle.ctc_rules.specs.declared.Channel.{Channel}
use Rattle.ctc_rules.specs.declared.Ctc.{Ctc}
use Rattle.ctc_rules.specs.Set.{channel_of}
use Rattle.ctc_rules.specs.Record.{four_of, channel_at}

-- "A table of contents and two bodies, 41 bytes. Bytes 0 to 9 are 11H, 02H, then of each body its number, its place .. and its length"; there
-- is one version of the record
abbrev pub layout_ctc : Layout
layout_ctc = record { first = 0x11; version = 1; entries = record { id = 1; size = 28 } ∷ record { id = 2; size = 3 } ∷ [] }

-- ---- out
-- "flags (D0 loaded, D1 awaits, D2 running)"
abbrev pub channel_flags : Channel → ℕ
channel_flags c = (if c.loaded then 1 else 0) + (if c.awaits then 2 else 0) + (if c.running then 4 else 0)

-- "seven bytes for each channel ..: control register, constant, down-counter, prescaler, flags .., IP, IUS"
unfoldable pub channel_bytes : Channel → List ℕ
channel_bytes c =
    c.control ∷ c.constant ∷ c.count ∷ c.prescaler ∷ channel_flags c ∷ (if c.ip then 1 else 0) ∷ (if c.ius then 1 else 0) ∷ []

-- "The first body .. from channel 0 to 3"
unfoldable pub channels_body : Ctc → List ℕ
channels_body d =
    channel_bytes (channel_at d 0) ++ channel_bytes (channel_at d 1) ++ channel_bytes (channel_at d 2) ++ channel_bytes (channel_at d 3)

-- "The second .. has the vector, the levels and IEI."
unfoldable pub rest_body : Ctc → List ℕ
rest_body d = d.vector ∷ d.levels ∷ (if d.iei then 1 else 0) ∷ []

-- the body of a number
abbrev pub body_ctc : Ctc → ℕ → List ℕ
body_ctc d id = if id == 1 then channels_body d else if id == 2 then rest_body d else []

-- the image of a record
unfoldable pub image_ctc : Ctc → List ℕ
image_ctc d = image_in layout_ctc (body_ctc d)

-- ---- in
-- byte k of channel i
abbrev pub channel_byte : List ℕ → ℕ → ℕ → ℕ
channel_byte b i k = byte_at b (k + 7 * i)

-- channel i of the first body
unfoldable pub channel_in : List ℕ → ℕ → Channel
channel_in b i =
    channel_of (channel_byte b i 0) (channel_byte b i 1) (channel_byte b i 2) (channel_byte b i 3)
    (bit (channel_byte b i 4) 0) (bit (channel_byte b i 4) 1) (bit (channel_byte b i 4) 2) (channel_byte b i 5 == 1) (channel_byte b i 6 == 1)

-- the record of the two
unfoldable pub told_ctc : List ℕ → List ℕ → Ctc
told_ctc b l = record { channels = four_of (channel_in b); vector = byte_at l 0; levels = byte_at l 1; iei = byte_at l 2 == 1 }

-- no other bit of the flags is set; "IP, IUS and IEI are 0 or 1."
unfoldable pub channel_clear : List ℕ → ℕ → Bool
channel_clear b i = ltb (channel_byte b i 4) 8 && ltb (channel_byte b i 5) 2 && ltb (channel_byte b i 6) 2

unfoldable pub clear_ctc : List ℕ → List ℕ → Bool
clear_ctc b l = channel_clear b 0 && channel_clear b 1 && channel_clear b 2 && channel_clear b 3 && ltb (byte_at l 2) 2

-- ---- an image: each body is read from the part of it at its entry's place
abbrev pub ctc_in : List ℕ → Ctc
ctc_in s = told_ctc (body_in layout_ctc 1 s) (body_in layout_ctc 2 s)

abbrev pub clear_image : List ℕ → Bool
clear_image s = clear_ctc (body_in layout_ctc 1 s) (body_in layout_ctc 2 s)
