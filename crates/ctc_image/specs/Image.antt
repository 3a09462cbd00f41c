-- What save and restore of a CTC answer: paper 02, W-213: "the image begins with 11H"; its refusals are W-205's.
-- Assumes nothing.
use Rattle.std.specs.Prelude.{ℕ, Bool, not, ◌&&◌, List, ◌++◌, ltb, length, take, drop, if◌then◌else◌, ◌==◌}
use Rattle.bodies.specs.Layout.{contents_len, length_of, contents_of}
use Rattle.image.specs.Image.{agree}
use Rattle.ctc_rules.specs.declared.Ctc.{Ctc}
use Rattle.ctc_rules.specs.Record.{fresh_ctc}
use Rattle.ctc_rules.specs.Sound.{sound_ctc}
use Rattle.image.specs.declared.Restored.{Restored}
use Rattle.ctc_image.specs.Layout.{layout_ctc, image_ctc, ctc_in, clear_image}

-- ---- save: "9, then 7", for a buffer of n bytes
unfoldable pub save_code_ctc : Ctc → ℕ → ℕ
save_code_ctc d n =
    if not (sound_ctc d) then 9 else
    if ltb n (length_of layout_ctc) then 7 else
    0

-- the buffer after it: refused untouched, else its first 41 bytes are the image, and no others change
unfoldable pub saved_ctc : Ctc → List ℕ → List ℕ
saved_ctc d e = if save_code_ctc d (length e) == 0 then image_ctc d ++ drop (length_of layout_ctc) e else e

-- ---- restore: "A refused restore gives the fresh device."
abbrev pub refused_ctc : ℕ → Restored Ctc
refused_ctc c = record { code = c; device = fresh_ctc }

-- "9": "bodies break the soundness rules"
unfoldable pub accepted_ctc : Bool → Ctc → Restored Ctc
accepted_ctc clear d = if not (clear && sound_ctc d) then refused_ctc 9 else record { code = 0; device = d }

-- W-205: "7 for an image shorter than its version's table .., then 8, then 7 for a length other than the version's, then 9"
unfoldable pub restored_ctc : List ℕ → Restored Ctc
restored_ctc s =
    if ltb (length s) (contents_len layout_ctc) then refused_ctc 7 else
    if not (agree (take (contents_len layout_ctc) s) (contents_of layout_ctc)) then refused_ctc 8 else
    if not (length s == length_of layout_ctc) then refused_ctc 7 else
    accepted_ctc (clear_image s) (ctc_in s)
