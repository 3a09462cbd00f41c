-- A sound record, known to be one.
-- Assumes nothing.
use Rattle.std.specs.Prelude.{◌≡◌, true}
use Rattle.rules.specs.Record.{Shaped}
use Rattle.chip.specs.declared.Chip.{Chip}
use Rattle.chip.specs.Chips.{core_of, sound_chip}

-- a sound record of the device's shape
abbrev pub Good : Chip → Type 0
Good c = Shaped (core_of c) × (sound_chip c ≡ true)
