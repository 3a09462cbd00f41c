-- Paper 02, W-212: the words of the theorems on a row.
-- Assumes nothing.
use Rattle.std.specs.Prelude.{ℕ, ◌≤◌, ◌≡◌, Bool, true, false, ◌&&◌, List, [], ◌∷◌, ltb, get_or, if◌then◌else◌, ◌==◌}
use Rattle.basics.specs.Runs.{answers_through}
use Rattle.rules.specs.declared.Device.{Device}
use Rattle.rules.specs.declared.Effect.{Effect}
use Rattle.rules.specs.Record.{Shaped, fresh_of}
use Rattle.rules.specs.Events.{is_k}
use Rattle.rows.specs.declared.RowEvent.{RowEvent}
use Rattle.rows.specs.declared.Shown.{Shown}
use Rattle.rows.specs.Rows.{row_sound, reached, reaches, misfits, row_code, reached_by, shown_for, row_answer, row_after}

-- "a sound row of one to eight"
pub record Board (ds : List Device) : Type 0 where
  pub sound : row_sound ds ≡ true
  pub size : misfits ds ≡ false

-- device i of a row
abbrev pub device_at : List Device → ℕ → Device
device_at ds i = get_or ds i fresh_of

-- the arrays of each device have the lengths that the struct gives them
abbrev pub RowShaped : List Device → Type 0
RowShaped ds = (i : ℕ) → Shaped (device_at ds i)

-- what an event does to device i, if it reaches it
abbrev pub own_effect : List Device → RowEvent → ℕ → Effect
own_effect ds e i = reached_by (reaches ds e i) e.event (device_at ds i)

-- IEI of device i after an event
abbrev pub iei_after : List Device → RowEvent → ℕ → Bool
iei_after ds e i = (device_at (row_after ds e) i).iei

-- "whether one of them took the acknowledge": one of the devices before device i
unfoldable pub took_before : List Device → RowEvent → ℕ → Bool
took_before ds e i = is_k e.event && ltb (reached ds e) i && row_code ds e == 0

-- of an answer what is device i's: its pins, lines and counts, and code and value if the event reached it
pub record Own : Type 0 where
  pub code : ℕ
  pub value : ℕ
  pub shown : Shown

unfoldable pub own_of : List Device → RowEvent → ℕ → Own
own_of ds e i =
    let r = row_answer ds e in
    record {
      code = if i == reached ds e then r.code else 0;
      value = if i == reached ds e then r.value else 0;
      shown = shown_for r.devices i;
    }

-- and so for a list of events
abbrev pub own_answers : ℕ → List Device → List RowEvent → List Own
own_answers i = answers_through row_after (λ ds e. own_of ds e i)

-- what device i may see of the earlier devices is the same in two rows at an event: its IEI after it, and whether one of them took the
-- acknowledge
pub record Alike (i : ℕ) (ds es : List Device) (e : RowEvent) : Type 0 where
  pub iei : iei_after ds e i ≡ iei_after es e i
  pub took : took_before ds e i ≡ took_before es e i

-- two rows that are the same up to device i, whatever the later devices are
abbrev pub SameUpTo : ℕ → List Device → List Device → Type 0
SameUpTo i ds es = (j : ℕ) → j ≤ i → device_at ds j ≡ device_at es j

-- at each event of a list
unfoldable pub AlikeThrough : ℕ → List Device → List Device → List RowEvent → Type 0
AlikeThrough i ds es [] = Unit {0}
AlikeThrough i ds es (e ∷ l) = Alike i ds es e × AlikeThrough i (row_after ds e) (row_after es e) l
