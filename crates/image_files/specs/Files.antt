-- What the calls on image files promise whatever the system does.
-- Assumes nothing.
use Rattle.std.specs.Prelude.{Bool, List, ℕ, Result, Ok, Option, Some, None, if◌then◌else◌}
use Rattle.rules.specs.Record.{fresh_of}
use Rattle.z8536.specs.Z8536.{fresh_z8536}
use Rattle.chip.specs.declared.Chip.{Chip}
use Rattle.chip.specs.Chips.{of_z8036, of_z8536, sound_chip}
use Rattle.ctc_rules.specs.declared.Ctc.{Ctc}
use Rattle.ctc_rules.specs.Record.{fresh_ctc}
use Rattle.ctc_rules.specs.Sound.{sound_ctc}
use Rattle.image.specs.Image.{agree}
use Rattle.texts.specs.Spelled.{spelled}
use Rattle.image_files.specs.declared.held.Held.{Held}
use Rattle.image_files.specs.declared.files.Reported.{Reported}

-- a device that is loaded
abbrev pub loaded_chip : Chip → Result Held Reported
loaded_chip d = Ok (Held.Chip d)

abbrev pub loaded_ctc : Ctc → Result Held Reported
loaded_ctc d = Ok (Held.Ctc d)

-- whether its record is sound
abbrev pub sound_held : Held → Bool
sound_held (Held.Chip d) = sound_chip d
sound_held (Held.Ctc d) = sound_ctc d

-- a lone `-` names no file but the fresh Z8036, `-z8536` the fresh Z8536, and `-ctc` the fresh CTC
abbrev pub is_dash : List ℕ → Bool
is_dash path = agree path (spelled "-")

abbrev pub is_dash_z8536 : List ℕ → Bool
is_dash_z8536 path = agree path (spelled "-z8536")

abbrev pub is_dash_ctc : List ℕ → Bool
is_dash_ctc path = agree path (spelled "-ctc")

abbrev pub fresh_named : List ℕ → Option Held
fresh_named path =
    if is_dash path then Some (Held.Chip (of_z8036 fresh_of)) else
    if is_dash_z8536 path then Some (Held.Chip (of_z8536 fresh_z8536)) else
    if is_dash_ctc path then Some (Held.Ctc fresh_ctc) else None

abbrev pub fresh_loaded : Result Held Reported
fresh_loaded = loaded_chip (of_z8036 fresh_of)

abbrev pub fresh_loaded_z8536 : Result Held Reported
fresh_loaded_z8536 = loaded_chip (of_z8536 fresh_z8536)

abbrev pub fresh_loaded_ctc : Result Held Reported
fresh_loaded_ctc = loaded_ctc fresh_ctc
