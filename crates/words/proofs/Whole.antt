-- Every line of a device has room in a text. A label has 16 bytes, a column 12.
-- Assumes nothing.
use Rattle.std.specs.Prelude.{if◌then◌else◌, ◌==◌}
use Prim.Native.Nat.{ℕ, ◌-◌, ◌/◌, ◌%◌, ◌≤◌}
use mathlib.Core.Bool.{Bool, true, false}
use mathlib.Core.List.{List, [], ◌++◌}
use mathlib.Core.Path.{◌≡◌, refl}
use native.Mathlib.Omega.{arith}
use lib.Dec.{ltb}
use lib.ListN.{length, get_or, length-append}
use Rattle.rules.specs.declared.Counter.{Counter}
use Rattle.rules.specs.declared.Device.{Device}
use Rattle.rules.specs.declared.Source.{Source}
use Rattle.rules.specs.declared.Transfer.{Transfer}
use Rattle.rules.specs.Record.{pattern_at, transfer_at, source_at}
use Rattle.rules.specs.Interrupts.{requester, acknowledge}
use Rattle.texts.specs.Kept.{text_room, no_text, typed, bytes_of}
use Rattle.texts.proofs.Keeping.{bytes-line}
use Rattle.texts.specs.Spelled.{spelled}
use Rattle.words.specs.Cells.{bit_cell, yes_cell, byte_cell, number_cell}
use Rattle.words.specs.Shown.{named, version_line, master_line, link_line, port_labels, port_cell, port_line, pattern_labels, priority_cell, pattern_mode}
use Rattle.words.specs.Shown.{pattern_cell, pattern_line, counter_labels, mode_cell, again_cell, counts_cell, half_cell, frozen_cell, counter_cell}
use Rattle.words.specs.Shown.{counter_column, counter_line, source_labels, source_cell, source_line, levels_line, request_line, acknowledge_line}
use Rattle.words.specs.Shown.{head_line, tail_line, first_port, first_pattern, counter_head, first_counter, source_head, first_source}
use Rattle.words.specs.Shown.{transfer_labels, transfer_cell, transfer_line, first_transfer, line_end, first_tail, shown_line}
use Rattle.words.proofs.Rows.{width}

-- the one or the other
pub pick : (m : ℕ) (b : Bool) (x y : List ℕ) → length x ≤ m → length y ≤ m → length (if b then x else y) ≤ m
pick m true x y p q = p
pick m false x y p q = q

-- ---- columns
pub bit-cell : (f : Bool) → length (bit_cell f) ≤ 12
unfolding bit_cell spelled
bit-cell f = pick 12 f _ _ (omega arith) (omega arith)

pub yes-cell : (f : Bool) → length (yes_cell f) ≤ 12
unfolding yes_cell spelled
yes-cell f = pick 12 f _ _ (omega arith) (omega arith)

byte-cell : (n : ℕ) → length (byte_cell n) ≤ 12
unfolding byte_cell spelled
byte-cell n = omega arith

pub number-cell : (n : ℕ) → length (number_cell n) ≤ 12
unfolding number_cell spelled
number-cell n = omega arith

port-cell : (d : Device) (p row : ℕ) → length (port_cell d p row) ≤ 12
unfolding port_cell
port-cell d p row =
    pick 12 (row == 0) _ _ (yes-cell _)
    (pick 12 (row == 1) _ _ (byte-cell _)
    (pick 12 (row == 2) _ _ (byte-cell _)
    (pick 12 (row == 3) _ _ (byte-cell _)
    (pick 12 (row == 4) _ _ (byte-cell _)
    (pick 12 (row == 5) _ _ (byte-cell _) (byte-cell _))))))

priority-cell : (m : Bool) (n : ℕ) → length (priority_cell m n) ≤ 12
unfolding priority_cell spelled
priority-cell m n = omega arith

pattern-mode : (d : Device) (p : ℕ) → length (pattern_mode d p) ≤ 12
unfolding pattern_mode spelled
pattern-mode d p =
    let m = (pattern_at d p).mode / 2 % 4 in
    pick 12 (m == 1) _ _ (omega arith)
    (pick 12 (m == 2) _ _ (omega arith)
    (pick 12 (m == 3) _ _ (priority-cell _ _) (omega arith)))

pattern-cell : (d : Device) (p row : ℕ) → length (pattern_cell d p row) ≤ 12
unfolding pattern_cell
pattern-cell d p row =
    pick 12 (row == 0) _ _ (pattern-mode d p)
    (pick 12 (row == 1) _ _ (byte-cell _)
    (pick 12 (row == 2) _ _ (byte-cell _)
    (pick 12 (row == 3) _ _ (byte-cell _) (bit-cell _))))

transfer-cell : (h : Transfer) (row : ℕ) → length (transfer_cell h row) ≤ 12
unfolding transfer_cell
transfer-cell h row =
    pick 12 (row == 0) _ _ (number-cell _)
    (pick 12 (row == 1) _ _ (byte-cell _)
    (pick 12 (row == 2) _ _ (byte-cell _)
    (pick 12 (row == 3) _ _ (yes-cell _) (yes-cell _))))

mode-cell : (mode : ℕ) → length (mode_cell mode) ≤ 12
unfolding mode_cell spelled
mode-cell mode = pick 12 (mode % 4 == 0) _ _ (omega arith) (pick 12 (mode % 4 == 1) _ _ (omega arith) (omega arith))

again-cell : (f : Bool) → length (again_cell f) ≤ 12
unfolding again_cell spelled
again-cell f = pick 12 f _ _ (omega arith) (omega arith)

counts-cell : (f : Bool) → length (counts_cell f) ≤ 12
unfolding counts_cell spelled
counts-cell f = pick 12 f _ _ (omega arith) (omega arith)

half-cell : (f : Bool) → length (half_cell f) ≤ 12
unfolding half_cell spelled
half-cell f = pick 12 f _ _ (omega arith) (omega arith)

frozen-cell : (f : Bool) (n : ℕ) → length (frozen_cell f n) ≤ 12
unfolding frozen_cell spelled
frozen-cell f n = pick 12 f _ _ (number-cell n) (omega arith)

counter-cell : (v : ℕ) (e : Bool) (c : Counter) (row : ℕ) → length (counter_cell v e c row) ≤ 12
unfolding counter_cell
counter-cell v e c row =
    pick 12 (row == 0) _ _ (yes-cell _)
    (pick 12 (row == 1) _ _ (mode-cell _)
    (pick 12 (row == 2) _ _ (again-cell _)
    (pick 12 (row == 3) _ _ (counts-cell _)
    (pick 12 (row == 4) _ _ (yes-cell _)
    (pick 12 (row == 5) _ _ (yes-cell _)
    (pick 12 (row == 6) _ _ (yes-cell _)
    (pick 12 (row == 7) _ _ (yes-cell _)
    (pick 12 (row == 8) _ _ (number-cell _)
    (pick 12 (row == 9) _ _ (number-cell _)
    (pick 12 (row == 10) _ _ (bit-cell _)
    (pick 12 (row == 11) _ _ (bit-cell _)
    (pick 12 (row == 12) _ _ (half-cell _)
    (pick 12 (row == 13) _ _ (frozen-cell _ _)
    (pick 12 (row == 14) _ _ (bit-cell _) (bit-cell _)))))))))))))))

counter-column : (d : Device) (i row : ℕ) → length (counter_column d i row) ≤ 12
unfolding counter_column
counter-column d i row = counter-cell _ _ _ row

source-cell : (s : Source) (row : ℕ) → length (source_cell s row) ≤ 12
unfolding source_cell
source-cell s row = bit-cell _

-- ---- labels
port-label : (row : ℕ) → length (get_or port_labels row []) ≤ 16
unfolding spelled
port-label row = width 16 port_labels row refl

pattern-label : (row : ℕ) → length (get_or pattern_labels row []) ≤ 16
unfolding spelled
pattern-label row = width 16 pattern_labels row refl

transfer-label : (row : ℕ) → length (get_or transfer_labels row []) ≤ 16
unfolding spelled
transfer-label row = width 16 transfer_labels row refl

counter-label : (row : ℕ) → length (get_or counter_labels row []) ≤ 16
unfolding spelled
counter-label row = width 16 counter_labels row refl

source-label : (row : ℕ) → length (get_or source_labels row []) ≤ 16
unfolding spelled
source-label row = width 16 source_labels row refl

-- ---- lines
version-line : (version : ℕ) → length (version_line version) ≤ text_room
unfolding version_line spelled
version-line version = pick text_room (version == 1) _ _ (omega arith) (omega arith)

master-line : (m : ℕ) → length (master_line m) ≤ text_room
unfolding master_line named spelled
master-line m = simp length-append (omega arith)

link-line : (n : ℕ) → length (link_line n) ≤ text_room
unfolding link_line spelled
link-line n =
    pick text_room (n == 0) _ _ (omega arith)
    (pick text_room (n == 1) _ _ (omega arith)
    (pick text_room (n == 2) _ _ (omega arith) (omega arith)))

port-line : (d : Device) (row : ℕ) → length (port_line d row) ≤ text_room
unfolding port_line
port-line d row = simp length-append (omega (arith, port-label row, port-cell d 0 row, port-cell d 1 row, port-cell d 2 row))

pattern-line : (d : Device) (row : ℕ) → length (pattern_line d row) ≤ text_room
unfolding pattern_line
pattern-line d row =
    simp length-append
    (omega (arith, pattern-label row, pattern-cell d 0 row, pattern-cell d 1 row))

transfer-line : (d : Device) (row : ℕ) → length (transfer_line d row) ≤ text_room
unfolding transfer_line
transfer-line d row =
    simp length-append
    (omega (arith, transfer-label row, transfer-cell (transfer_at d 0) row, transfer-cell (transfer_at d 1) row))

counter-line : (d : Device) (row : ℕ) → length (counter_line d row) ≤ text_room
unfolding counter_line
counter-line d row =
    simp length-append
    (omega (arith, counter-label row, counter-column d 0 row, counter-column d 1 row, counter-column d 2 row))

source-line : (d : Device) (row : ℕ) → length (source_line d row) ≤ text_room
unfolding source_line
source-line d row =
    let s0 = source-cell (source_at d 0) row in
    let s1 = source-cell (source_at d 1) row in
    let s2 = source-cell (source_at d 2) row in
    let s3 = source-cell (source_at d 3) row in
    let s4 = source-cell (source_at d 4) row in
    simp length-append (omega (arith, source-label row, s0, s1, s2, s3, s4))

levels-line : (d : Device) → length (levels_line d) ≤ text_room
unfolding levels_line named spelled
levels-line d = simp length-append (omega arith)

request-line : (k : ℕ) → length (request_line k) ≤ text_room
unfolding request_line spelled
request-line k =
    pick text_room (k == 1) _ _ (omega arith)
    (pick text_room (k == 2) _ _ (omega arith)
    (pick text_room (k == 3) _ _ (omega arith)
    (pick text_room (k == 4) _ _ (omega arith)
    (pick text_room (k == 5) _ _ (omega arith) (omega arith)))))

acknowledge-line : (d : Device) → length (acknowledge_line d) ≤ text_room
unfolding acknowledge_line spelled
acknowledge-line d = simp length-append (omega (arith, given))
  where
    given : length (if ltb (requester d) 5 then byte_cell (acknowledge d) ++ line_end else spelled "code 6\n") ≤ 13
    given = pick 13 (ltb (requester d) 5) _ _ (simp length-append (omega (arith, byte-cell (acknowledge d)))) (omega arith)

head-line : (d : Device) (n : ℕ) → length (head_line d n) ≤ text_room
unfolding head_line spelled
head-line d n =
    pick text_room (n == 0) _ _ (version-line _)
    (pick text_room (n == 1) _ _ (master-line _)
    (pick text_room (n == 2) _ _ (link-line _) (omega arith)))

tail-line : (d : Device) (n : ℕ) → length (tail_line d n) ≤ text_room
unfolding tail_line
tail-line d n = pick text_room (n == 0) _ _ (levels-line d) (pick text_room (n == 1) _ _ (request-line _) (acknowledge-line d))

pub line-short : (d : Device) (n : ℕ) → length (shown_line d n) ≤ text_room
unfolding shown_line spelled
line-short d n =
    pick text_room (ltb n first_port) _ _ (head-line d n)
    (pick text_room (ltb n first_pattern) _ _ (port-line d (n - first_port))
    (pick text_room (ltb n first_transfer) _ _ (pattern-line d (n - first_pattern))
    (pick text_room (ltb n counter_head) _ _ (transfer-line d (n - first_transfer))
    (pick text_room (ltb n first_counter) _ _ (omega arith)
    (pick text_room (ltb n source_head) _ _ (counter-line d (n - first_counter))
    (pick text_room (ltb n first_source) _ _ (omega arith)
    (pick text_room (ltb n first_tail) _ _ (source-line d (n - first_source)) (tail-line d (n - first_tail)))))))))

-- what is printed of a line is the line
pub line-bytes : (d : Device) (n : ℕ) → bytes_of (typed no_text (shown_line d n)) ≡ shown_line d n
line-bytes d n = bytes-line (shown_line d n) (line-short d n)
