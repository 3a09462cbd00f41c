-- Every line of a CTC has room in a text. A label has 16 bytes, a column 12.
-- Assumes nothing.
use Rattle.std.specs.Prelude.{◌==◌}
use Prim.Native.Nat.{ℕ, ◌-◌, ◌≤◌}
use mathlib.Core.Bool.{Bool}
use mathlib.Core.List.{[]}
use mathlib.Core.Path.{◌≡◌, refl}
use native.Mathlib.Omega.{arith}
use lib.Dec.{ltb}
use lib.ListN.{length, get_or, length-append}
use Rattle.texts.specs.Kept.{text_room, no_text, typed, bytes_of}
use Rattle.texts.specs.Spelled.{spelled}
use Rattle.texts.proofs.Keeping.{bytes-line}
use Rattle.ctc_rules.specs.declared.Channel.{Channel}
use Rattle.ctc_rules.specs.declared.Ctc.{Ctc}
use Rattle.ctc_rules.specs.Record.{channel_at}
use Rattle.words.proofs.Rows.{width}
use Rattle.words.proofs.Whole.{pick, bit-cell, yes-cell, number-cell}
use Rattle.ctc_words.specs.Shown.{kind_cell, factor_cell, edge_cell, start_cell, on_cell, constant_cell, waits_cell}
use Rattle.ctc_words.specs.Shown.{labels, channel_cell, channels_line, device_line, shown_ctc}

-- ---- columns
constant_cell_lem : (l : Bool) (n : ℕ) → length (constant_cell l n) ≤ 12
unfolding constant_cell spelled
constant_cell_lem l n = pick 12 l _ _ (number-cell _) (omega arith)

waits-cell : (c : Channel) → length (waits_cell c) ≤ 12
unfolding waits_cell spelled
waits-cell c =
    pick 12 c.awaits _ _ (omega arith) (pick 12 c.running _ _ (omega arith) (pick 12 c.loaded _ _ (omega arith) (omega arith)))

kind-cell : (f : Bool) → length (kind_cell f) ≤ 12
unfolding kind_cell spelled
kind-cell f = pick 12 f _ _ (omega arith) (omega arith)

factor-cell : (f : Bool) → length (factor_cell f) ≤ 12
unfolding factor_cell spelled
factor-cell f = pick 12 f _ _ (omega arith) (omega arith)

edge-cell : (f : Bool) → length (edge_cell f) ≤ 12
unfolding edge_cell spelled
edge-cell f = pick 12 f _ _ (omega arith) (omega arith)

start_cell_lem : (f : Bool) → length (start_cell f) ≤ 12
unfolding start_cell spelled
start_cell_lem f = pick 12 f _ _ (omega arith) (omega arith)

on-cell : (f : Bool) → length (on_cell f) ≤ 12
unfolding on_cell spelled
on-cell f = pick 12 f _ _ (omega arith) (omega arith)

channel-cell : (c : Channel) (row : ℕ) → length (channel_cell c row) ≤ 12
unfolding channel_cell
channel-cell c row =
    pick 12 (row == 0) _ _ (kind-cell _)
    (pick 12 (row == 1) _ _ (factor-cell _)
    (pick 12 (row == 2) _ _ (edge-cell _)
    (pick 12 (row == 3) _ _ (start_cell_lem _)
    (pick 12 (row == 4) _ _ (on-cell _)
    (pick 12 (row == 5) _ _ (constant_cell_lem _ _)
    (pick 12 (row == 6) _ _ (number-cell _)
    (pick 12 (row == 7) _ _ (number-cell _)
    (pick 12 (row == 8) _ _ (yes-cell _)
    (pick 12 (row == 9) _ _ (waits-cell _)
    (pick 12 (row == 10) _ _ (bit-cell _) (bit-cell _)))))))))))

-- ---- lines
label : (row : ℕ) → length (get_or labels row []) ≤ 16
unfolding spelled
label row = width 16 labels row refl

channels-line : (d : Ctc) (row : ℕ) → length (channels_line d row) ≤ text_room
unfolding channels_line spelled
channels-line d row =
    simp length-append
    (omega (
      arith,
      label row,
      channel-cell (channel_at d 0) row,
      channel-cell (channel_at d 1) row,
      channel-cell (channel_at d 2) row,
      channel-cell (channel_at d 3) row,
    ))

device-line : (d : Ctc) → length (device_line d) ≤ text_room
unfolding device_line spelled
device-line d = omega arith

line-short : (d : Ctc) (n : ℕ) → length (shown_ctc d n) ≤ text_room
unfolding shown_ctc spelled
line-short d n = pick text_room (n == 0) _ _ (omega arith) (pick text_room (ltb n 13) _ _ (channels-line d (n - 1)) (device-line d))

-- so each is kept whole
pub line-bytes : (d : Ctc) (n : ℕ) → bytes_of (typed no_text (shown_ctc d n)) ≡ shown_ctc d n
line-bytes d n = bytes-line (shown_ctc d n) (line-short d n)
