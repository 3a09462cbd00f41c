-- Paper 01, "The image": how an image is laid out, as data. A layout is one list of entries; contents, offsets and length follow from
-- it. Another version of the image is another list.
-- Assumes nothing.
use Rattle.std.specs.Prelude.{ℕ, ◌+◌, ◌*◌, ◌/◌, ◌%◌, List, [], ◌∷◌, length, get_or, take, drop, if◌then◌else◌, ◌==◌}
use Rattle.rules.specs.declared.Device.{Device}

-- an entry: the id of a body and its length
pub record Entry : Type 0 where
  pub id : ℕ
  pub size : ℕ

-- a layout: the image's first byte, the version of the record that it holds, and the bodies in the order in which they stand
pub record Layout : Type 0 where
  pub first : ℕ
  pub version : ℕ
  pub entries : List Entry

abbrev entry : ℕ → ℕ → Entry
entry i n = record { id = i; size = n }

-- "byte 01, byte 04, four entries .. 1, 18, 48; 2, 66, 9; 3, 75, 7; 4, 82, 2": the offsets are worked out
abbrev pub layout1 : Layout
layout1 = record { first = 0x01; version = 1; entries = entry 1 48 ∷ entry 2 9 ∷ entry 3 7 ∷ entry 4 2 ∷ [] }

-- paper 02, W-205: "Image version 2, first bytes 02 and 05", with "a fifth body for the handshake ports": "Its bodies stand at 22, 70,
-- 79, 86 and 88; the fifth has 8 bytes"
abbrev pub layout2 : Layout
layout2 = record { first = 0x02; version = 2; entries = entry 1 48 ∷ entry 2 9 ∷ entry 3 7 ∷ entry 4 2 ∷ entry 5 8 ∷ [] }

-- W-209: the Z8536's image, "first bytes 03 and 06, is version 2's bodies four bytes on and a sixth of two bytes, pointer and state:
-- 102 bytes"; "Otherwise it is a version 2 device."
abbrev pub layout3 : Layout
layout3 = record { first = 0x03; version = 2; entries = entry 1 48 ∷ entry 2 9 ∷ entry 3 7 ∷ entry 4 2 ∷ entry 5 8 ∷ entry 6 2 ∷ [] }

-- the layout in which a Z8036 is saved, and the one in which its image is read: "an unknown first byte counts as version 1", the
-- Z8536's too. All that depends on its layout is reached through these two.
unfoldable pub layout_of : Device → Layout
layout_of d = if d.version == 1 then layout1 else layout2

unfoldable pub layout_in : List ℕ → Layout
layout_in s = if get_or s 0 0 == 2 then layout2 else layout1

-- "Contents first": two bytes, and four for each entry
abbrev pub contents_len : Layout → ℕ
contents_len l = 2 + 4 * length l.entries

-- where a body starts if the first of these entries starts at o: each stands behind the one before
abbrev pub offset_from : ℕ → List Entry → ℕ → ℕ
offset_from o [] id = o
offset_from o (e ∷ es) id = if e.id == id then o else offset_from (o + e.size) es id

-- the first body stands behind the contents
abbrev pub offset_of : Layout → ℕ → ℕ
offset_of l id = offset_from (contents_len l) l.entries id

-- a body that a layout has not is empty
abbrev pub size_in : List Entry → ℕ → ℕ
size_in [] id = 0
size_in (e ∷ es) id = if e.id == id then e.size else size_in es id

abbrev pub size_of : Layout → ℕ → ℕ
size_of l id = size_in l.entries id

-- the image's length: contents and bodies
abbrev pub sizes_from : List Entry → ℕ
sizes_from [] = 0
sizes_from (e ∷ es) = e.size + sizes_from es

abbrev pub length_of : Layout → ℕ
length_of l = contents_len l + sizes_from l.entries

-- "entries of id, offset (two bytes, high first), length"
abbrev table_from : Layout → List Entry → List ℕ
table_from l [] = []
table_from l (e ∷ es) = e.id ∷ offset_of l e.id / 256 ∷ offset_of l e.id % 256 ∷ e.size ∷ table_from l es

abbrev pub contents_of : Layout → List ℕ
contents_of l = l.first ∷ length l.entries ∷ table_from l l.entries

-- a part of an image; "Each body is read from the middle of the image, at its entry's offset."
abbrev pub part : ℕ → ℕ → List ℕ → List ℕ
part offset size s = take size (drop offset s)

abbrev pub body_in : Layout → ℕ → List ℕ → List ℕ
body_in l id s = part (offset_of l id) (size_of l id) s
