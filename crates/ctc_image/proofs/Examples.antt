-- Images of a CTC worked out by hand from docs/CTC.md, "Image".
-- Assumes nothing.
use Prim.Native.Nat.{ℕ}
use mathlib.Core.Path.{◌≡◌, refl}
use mathlib.Core.Bool.{true, false}
use mathlib.Core.List.{List, [], ◌∷◌, ◌++◌}
use lib.ListN.{replicate}
use Rattle.image.specs.Image.{agree}
use Rattle.ctc_rules.specs.declared.Ctc.{Ctc}
use Rattle.ctc_rules.specs.Set.{channel_of}
use Rattle.ctc_rules.specs.Record.{fresh_ctc}
use Rattle.ctc_image.specs.Layout.{channel_bytes, channels_body, rest_body, image_ctc}
use Rattle.ctc_image.specs.Image.{restored_ctc}

-- what every image begins with
abbrev table : List ℕ
table = 0x11 ∷ 0x02 ∷ 0x01 ∷ 0x00 ∷ 0x0A ∷ 0x1C ∷ 0x02 ∷ 0x00 ∷ 0x26 ∷ 0x03 ∷ []

-- the fresh device: nothing but IEI
pub fresh-image : image_ctc fresh_ctc ≡ table ++ replicate 28 0 ++ (0 ∷ 0 ∷ 1 ∷ [])
unfolding image_ctc channels_body channel_bytes rest_body
fresh-image = refl

-- channel 0 a timer by 16 with an interrupt under service, constant 10, count 6, prescaler 9; channel 1 awaits a constant; channel 2 counts
-- rising edges, constant 3, and has an interrupt pending; channel 3 waits for a falling edge, constant 5; vector 50H, level 2 high
abbrev busy : Ctc
busy = record {
  channels =
      channel_of 0x80 10 6 9 true false true false true
      ∷ channel_of 0x00 0 252 0 false true false false false
      ∷ channel_of 0xD0 3 3 0 true false true true false
      ∷ channel_of 0x88 5 5 0 true false false false false ∷ [];
  vector = 0x50;
  levels = 4;
  iei = true;
}

pub busy-image : image_ctc busy
    ≡ table
    ++ (0x80 ∷ 10 ∷ 6 ∷ 9 ∷ 5 ∷ 0 ∷ 1 ∷ [])
    ++ (0x00 ∷ 0 ∷ 252 ∷ 0 ∷ 2 ∷ 0 ∷ 0 ∷ [])
    ++ (0xD0 ∷ 3 ∷ 3 ∷ 0 ∷ 5 ∷ 1 ∷ 0 ∷ [])
    ++ (0x88 ∷ 5 ∷ 5 ∷ 0 ∷ 1 ∷ 0 ∷ 0 ∷ [])
    ++ (0x50 ∷ 4 ∷ 1 ∷ [])
unfolding image_ctc channels_body channel_bytes rest_body
busy-image = refl

-- "7 for an image shorter than its version's table .., then 8, then 7 for a length other than the version's"
pub nine-zeros : (restored_ctc (replicate 9 0)).code ≡ 7
unfolding restored_ctc
nine-zeros = refl

pub twelve-zeros : (restored_ctc (replicate 12 0)).code ≡ 8
unfolding restored_ctc agree
twelve-zeros = refl

pub table-alone : (restored_ctc table).code ≡ 7
unfolding restored_ctc agree
table-alone = refl
