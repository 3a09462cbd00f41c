-- What follows from the lists of entries, in the numbers of the papers: the contents, byte for byte, the offsets and the lengths.
-- Assumes nothing.
use Rattle.std.specs.Prelude.{◌==◌}
use mathlib.Core.Path.{◌≡◌, refl}
use mathlib.Core.Bool.{Bool, true, false, cond}
use mathlib.Core.List.{[], ◌∷◌}
use Rattle.rules.specs.declared.Device.{Device}
use Rattle.rules.specs.Record.{image_len}
use Rattle.bodies.specs.Layout.{layout1, layout2, layout3, layout_of, length_of, contents_of}

-- "byte 01, byte 04, four entries ..: 1, 18, 48; 2, 66, 9; 3, 75, 7; 4, 82, 2"
pub contents-1 : contents_of layout1 ≡ 0x01 ∷ 0x04 ∷ 1 ∷ 0 ∷ 18 ∷ 48 ∷ 2 ∷ 0 ∷ 66 ∷ 9 ∷ 3 ∷ 0 ∷ 75 ∷ 7 ∷ 4 ∷ 0 ∷ 82 ∷ 2 ∷ []
contents-1 = refl

-- "first bytes 02 and 05"; "Its bodies stand at 22, 70, 79, 86 and 88; the fifth has 8 bytes"
pub contents-2 : contents_of layout2
    ≡ 0x02 ∷ 0x05 ∷ 1 ∷ 0 ∷ 22 ∷ 48 ∷ 2 ∷ 0 ∷ 70 ∷ 9 ∷ 3 ∷ 0 ∷ 79 ∷ 7 ∷ 4 ∷ 0 ∷ 86 ∷ 2 ∷ 5 ∷ 0 ∷ 88 ∷ 8 ∷ []
contents-2 = refl

-- W-209: "first bytes 03 and 06", "version 2's bodies four bytes on and a sixth of two bytes", "102 bytes"
pub contents-3 : contents_of layout3
    ≡ 0x03 ∷ 0x06 ∷ 1 ∷ 0 ∷ 26 ∷ 48 ∷ 2 ∷ 0 ∷ 74 ∷ 9 ∷ 3 ∷ 0 ∷ 83 ∷ 7 ∷ 4 ∷ 0 ∷ 90 ∷ 2 ∷ 5 ∷ 0 ∷ 92 ∷ 8 ∷ 6 ∷ 0 ∷ 100 ∷ 2 ∷ []
contents-3 = refl

pub length-3 : length_of layout3 ≡ 102
length-3 = refl

-- "the 84 .. named once, with the device"; "The whole is 96 bytes."
pub length-1 : length_of layout1 ≡ image_len 1
unfolding image_len
length-1 = refl

pub length-2 : length_of layout2 ≡ image_len 2
unfolding image_len
length-2 = refl

pub length-of : (d : Device) → length_of (layout_of d) ≡ image_len d.version
unfolding layout_of image_len
length-of d = by-version (d.version == 1)
  where
    by-version : (old : Bool) → length_of (cond old layout1 layout2) ≡ cond old 84 96
    by-version true = refl
    by-version false = refl
