-- Paper 01, "The image": what save and restore answer. The layout, the bodies and what they tell are in the specs of `bodies`.
-- Assumes nothing.
use Rattle.std.specs.Prelude.{ℕ, ◌+◌, Result, Ok, Err, Bool, true, false, not, ◌&&◌, List, [], ◌∷◌, ◌++◌, ltb, length, take, drop, if◌then◌else◌, ◌==◌}
use Rattle.rules.specs.declared.Device.{Device}
use Rattle.rules.specs.declared.refusal.Refusal.{Refusal}
use Rattle.rules.specs.Refusals.{refusal_number}
use Rattle.rules.specs.Record.{fresh_of}
use Rattle.rules.specs.Sound.{sound_of}
use Rattle.bodies.specs.Layout.{Layout, layout_of, layout_in, contents_len, length_of, contents_of, part}
use Rattle.bodies.specs.Written.{registers_body, counts_body, pins_body, lines_body, transfers_body, image_of}
use Rattle.bodies.specs.Taken.{record_in, unused_clear, states_agree, device_in, clear_in}
use Rattle.image.specs.declared.Restored.{Restored}

-- two lists are the same, byte for byte
unfoldable pub agree : List ℕ → List ℕ → Bool
agree [] [] = true
agree [] (y ∷ b) = false
agree (x ∷ a) [] = false
agree (x ∷ a) (y ∷ b) = x == y && agree a b

-- ---- save: "9, then 7", for a buffer of n bytes
unfoldable pub save_code : Device → ℕ → ℕ
save_code d n =
    if not (sound_of d) then 9 else
    if ltb n (length_of (layout_of d)) then 7 else
    0

-- the buffer after it: refused "its buffer untouched", else "fills 84 bytes and no others", of version 2 96
unfoldable pub saved_of : Device → List ℕ → List ℕ
saved_of d e = if save_code d (length e) == 0 then image_of d ++ drop (length_of (layout_of d)) e else e

-- ---- restore: "A refused restore gives the fresh device."
-- what is answered where a device was read, and where its reading was refused: then with the fresh one
unfoldable pub restored_from : {D : Type 0} → Result D Refusal → D → Restored D
restored_from (Ok d) fresh = record { code = 0; device = d }
restored_from (Err r) fresh = record { code = refusal_number r; device = fresh }

abbrev pub refused : ℕ → Restored Device
refused c = record { code = c; device = fresh_of }

-- "9": "bodies break the soundness rules"
unfoldable pub accepted_of : Bool → Device → Restored Device
accepted_of clear d = if not (clear && sound_of d) then refused 9 else record { code = 0; device = d }

-- paper 02, W-205: "restore tests 7 for an image shorter than its version's table .., then 8, then 7 for a length other than the
-- version's, then 9": an image read in the layout l
unfoldable pub restored_in : Layout → List ℕ → Restored Device
restored_in l s =
    if ltb (length s) (contents_len l) then refused 7 else
    if not (agree (take (contents_len l) s) (contents_of l)) then refused 8 else
    if not (length s == length_of l) then refused 7 else
    accepted_of (clear_in l s) (device_in l s)

unfoldable pub restored_of : List ℕ → Restored Device
restored_of s = restored_in (layout_in s) s

-- ---- an image in numbers, with contents of any length: the bodies of a record behind them, and how long those are
unfoldable pub fifth_len : ℕ → ℕ
fifth_len version = if version == 1 then 0 else 8

abbrev pub bodies_len : ℕ → ℕ
bodies_len version = 66 + fifth_len version

unfoldable pub laid_by : List ℕ → Device → List ℕ
laid_by contents d =
    contents ++ registers_body d ++ counts_body d ++ pins_body d ++ lines_body d ++ (if d.version == 1 then [] else transfers_body d)

-- an image with these contents, of a record of that version, and with `more` bytes behind its bodies
unfoldable pub restored_by : ℕ → List ℕ → ℕ → List ℕ → Restored Device
restored_by version contents more s =
    let n = length contents in
    let registers = part n 48 s in
    let counts = part (n + 48) 9 s in
    let pins = part (n + 57) 7 s in
    let lines = part (n + 64) 2 s in
    let transfers = part (n + 66) (fifth_len version) s in
    if ltb (length s) n then refused 7 else
    if not (agree (take n s) contents) then refused 8 else
    if not (length s == n + 66 + fifth_len version + more) then refused 7 else
    accepted_of (unused_clear registers counts pins lines transfers && states_agree registers transfers)
    (record_in version registers counts pins lines transfers)
