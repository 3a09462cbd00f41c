-- A CTC in words: one fact a line, a column of twelve bytes for each channel. The facts are docs/CTC.md's, "The device".
-- Assumes nothing.
use Rattle.std.specs.Prelude.{ℕ, ◌-◌, ◌/◌, Bool, ◌&&◌, List, [], ◌∷◌, ◌++◌, ltb, get_or, if◌then◌else◌, ◌==◌}
use Rattle.texts.specs.Answers.{line_feed, glyph_of}
use Rattle.texts.specs.Spelled.{spelled}
use Rattle.words.specs.Cells.{bit_cell, yes_cell, number_cell}
use Rattle.ctc_rules.specs.declared.Channel.{Channel}
use Rattle.ctc_rules.specs.declared.Ctc.{Ctc}
use Rattle.ctc_rules.specs.Record.{interrupt_on, counter_mode, by256, rising_edge, by_trigger, channel_at}

-- ---- columns
-- "D6 is the mode: 1 counter, 0 timer."
unfoldable pub kind_cell : Bool → List ℕ
kind_cell counter = if counter then spelled "     counter" else spelled "       timer"

-- "D5 is the prescaler's factor: 1 is 256, 0 is 16."
unfoldable pub factor_cell : Bool → List ℕ
factor_cell large = if large then spelled "         256" else spelled "          16"

-- "D4 is the active edge: 1 rising, 0 falling."
unfoldable pub edge_cell : Bool → List ℕ
edge_cell rising = if rising then spelled "      rising" else spelled "     falling"

-- "D3 is the timer's start: 0 at its constant, 1 at an active edge."
unfoldable pub start_cell : Bool → List ℕ
start_cell trigger = if trigger then spelled "     at edge" else spelled " at constant"

-- "D7 enables the interrupt."
unfoldable pub on_cell : Bool → List ℕ
on_cell on = if on then spelled "          on" else spelled "         off"

-- "constant 0 means 256", and so does a count of 0, in a channel that has a constant
unfoldable pub full_if : Bool → ℕ → ℕ
full_if loaded n = if loaded && n == 0 then 256 else n

unfoldable pub constant_cell : Bool → ℕ → List ℕ
constant_cell loaded n = if loaded then number_cell (full_if loaded n) else spelled "           -"

-- what a channel waits for: "the next word written to it is a constant"; without a constant a control word that announces one; with one,
-- and not running, an active edge
unfoldable pub waits_cell : Channel → List ℕ
waits_cell c =
    if c.awaits then spelled "    constant" else
    if c.running then spelled "           -" else
    if c.loaded then spelled "        edge" else
    spelled "     control"

-- ---- the rows
abbrev pub labels : List (List ℕ)
labels =
    spelled "mode            "
    ∷ spelled "factor          "
    ∷ spelled "active edge     "
    ∷ spelled "timer starts    "
    ∷ spelled "interrupt       "
    ∷ spelled "time constant   "
    ∷ spelled "count           "
    ∷ spelled "prescaler       "
    ∷ spelled "running         "
    ∷ spelled "waits for       "
    ∷ spelled "IP              "
    ∷ spelled "IUS             " ∷ []

-- what stands beside each label, for a channel
unfoldable pub channel_cell : Channel → ℕ → List ℕ
channel_cell c row =
    if row == 0 then kind_cell (counter_mode c) else
    if row == 1 then factor_cell (by256 c) else
    if row == 2 then edge_cell (rising_edge c) else
    if row == 3 then start_cell (by_trigger c) else
    if row == 4 then on_cell (interrupt_on c) else
    if row == 5 then constant_cell c.loaded c.constant else
    if row == 6 then number_cell (full_if c.loaded c.count) else
    if row == 7 then number_cell c.prescaler else
    if row == 8 then yes_cell c.running else
    if row == 9 then waits_cell c else
    if row == 10 then bit_cell c.ip else
    bit_cell c.ius

unfoldable pub channels_line : Ctc → ℕ → List ℕ
channels_line d row =
    get_or labels row [] ++ channel_cell (channel_at d 0) row ++ channel_cell (channel_at d 1) row ++ channel_cell (channel_at d 2) row
    ++ channel_cell (channel_at d 3) row ++ (line_feed ∷ [])

-- ---- "Beside them the device has the vector .., the levels of the four trigger inputs .., and IEI."
unfoldable pub device_line : Ctc → List ℕ
device_line d =
    spelled "device          vector " ++ (glyph_of (d.vector / 16) ∷ glyph_of d.vector ∷ []) ++ spelled "  levels " ++ (glyph_of d.levels ∷ [])
    ++ spelled "  IEI " ++ (glyph_of (if d.iei then 1 else 0) ∷ []) ++ (line_feed ∷ [])

-- ---- line n of a device
unfoldable pub shown_ctc : Ctc → ℕ → List ℕ
shown_ctc d n =
    if n == 0 then spelled "channel                    0           1           2           3\n" else
    if ltb n 13 then channels_line d (n - 1) else
    device_line d
