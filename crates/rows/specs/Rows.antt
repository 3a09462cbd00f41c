-- Paper 02, W-212: "A board has up to eight devices, handed in as one row, first nearest the processor."
-- A row is a list of devices; they are numbered from 0.
-- Assumes nothing.
use Rattle.std.specs.Prelude.{ℕ, zero, suc, Bool, true, false, not, ◌&&◌, ◌||◌, List, [], ◌∷◌, map, ltb, leb, get_or, length, if◌then◌else◌, ◌==◌}
use Rattle.std.specs.Bool.{beq}
use Rattle.rules.specs.declared.Device.{Device}
use Rattle.rules.specs.declared.Event.{Event}
use Rattle.rules.specs.declared.Effect.{Effect}
use Rattle.rules.specs.With.{with_iei}
use Rattle.rules.specs.Record.{fresh_of}
use Rattle.rules.specs.Report.{no_report}
use Rattle.rules.specs.PortData.{pins_at}
use Rattle.rules.specs.Interrupts.{relined}
use Rattle.rules.specs.Sound.{sound_of}
use Rattle.rules.specs.Events.{is_x, is_w, is_r, is_p, is_t, is_k, code_of, effect, event_of}
use Rattle.rows.specs.declared.RowEvent.{RowEvent}
use Rattle.rows.specs.declared.Shown.{Shown}
use Rattle.rows.specs.declared.RowAnswer.{RowAnswer}

-- ---- soundness
-- "each device is"
unfoldable pub each_sound : List Device → Bool
each_sound [] = true
each_sound (d ∷ ds) = sound_of d && each_sound ds

-- "A device's IEI is the IEO of the one before"
unfoldable pub chained : List Device → Bool
chained [] = true
chained (d ∷ []) = true
chained (d ∷ e ∷ ds) = beq e.iei d.lines.ieo && chained (e ∷ ds)

-- "A row is sound when each device is and each IEI follows the chain"
unfoldable pub row_sound : List Device → Bool
row_sound ds = each_sound ds && chained ds

-- ---- whom an event reaches
-- "W, R, P and X name a device."
unfoldable pub names : Event → Bool
names e = is_w e || is_r e || is_p e || is_x e

-- "the first device that requests"; the row's length if none does
unfoldable pub first_requesting : List Device → ℕ
first_requesting [] = 0
first_requesting (d ∷ ds) = if d.lines.int then 0 else suc (first_requesting ds)

-- "K goes to the first device that requests."; "E reaches only the first."
unfoldable pub reached : List Device → RowEvent → ℕ
reached ds e =
    if names e.event then e.device else
    if is_k e.event then first_requesting ds else
    0

-- "T goes to all."
unfoldable pub reaches : List Device → RowEvent → ℕ → Bool
reaches ds e i = is_t e.event || i == reached ds e

-- ---- the refusals
-- 13: "for an empty row, more than eight"
unfoldable pub misfits : List Device → Bool
misfits ds = length ds == 0 || ltb 8 (length ds)

-- "or a device number past the end"
unfoldable pub past_end : List Device → RowEvent → Bool
past_end ds e = names e.event && leb (length ds) e.device

-- "any event on another row gets 9"; "13 .. first after 9"; 6, where no device requests; else the code is that of the device that the
-- event reaches, of T and of an unknown kind the first
unfoldable pub row_code : List Device → RowEvent → ℕ
row_code ds e =
    if not (row_sound ds) then 9 else
    if misfits ds || past_end ds e then 13 else
    if is_k e.event && reached ds e == length ds then 6 else
    code_of (get_or ds (reached ds e) fresh_of) e.event

-- ---- the effect
-- "A device's IEI is the IEO of the one before", which is `high`: the device after IEI came to it
unfoldable pub iei_from : Bool → Device → Device
iei_from high d = relined (with_iei d high)

-- what an event that reaches a device does to it, and nothing where it does not
unfoldable pub reached_by : Bool → Event → Device → Effect
reached_by does e d =
    if does then record { device = (event_of d e).device; value = (event_of d e).answer.value; report = (event_of d e).answer.report } else
    effect d 0

-- and then IEI comes from the one before, to all but the first
unfoldable pub part_of : Bool → Event → ℕ → Bool → Device → Effect
part_of does e zero high d = reached_by does e d
part_of does e (suc i) high d =
    let r = reached_by does e d in
    record { device = iei_from high r.device; value = r.value; report = r.report }

-- along the row from the place i on: whom the event reaches is told by `who`
unfoldable pub along_row : (ℕ → Bool) → Event → ℕ → Bool → List Device → List Effect
along_row who e i high [] = []
along_row who e i high (d ∷ ds) =
    let r = part_of (who i) e i high d in
    r ∷ along_row who e (suc i) r.device.lines.ieo ds

-- what an accepted event does to each device of the row
unfoldable pub row_effects : List Device → RowEvent → List Effect
row_effects ds e = along_row (reaches ds e) e.event 0 true ds

-- ---- the answer
-- of each device "its pins, lines and six counts"
unfoldable pub shown_of : Effect → Shown
shown_of r =
    record {
      a = pins_at r.device 0;
      b = pins_at r.device 1;
      c = pins_at r.device 2;
      int = r.device.lines.int;
      ieo = r.device.lines.ieo;
      report = r.report;
    }

-- all 0
abbrev pub dark : Shown
dark = record { a = 0; b = 0; c = 0; int = false; ieo = false; report = no_report }

-- the answer's eight places, of which those past the end of the row are all 0
abbrev pub shown_for : List Shown → ℕ → Shown
shown_for l i = get_or l i dark

unfoldable pub eight_of : List Shown → List Shown
eight_of l = shown_for l 0 ∷ shown_for l 1 ∷ shown_for l 2 ∷ shown_for l 3 ∷ shown_for l 4 ∷ shown_for l 5 ∷ shown_for l 6 ∷ shown_for l 7 ∷ []

-- the value is that of the device reached
unfoldable pub value_in : ℕ → List Effect → ℕ
value_in i l = (get_or l i (effect fresh_of 0)).value

-- under 9, and under 13 for more than eight, all fields but the code are 0
abbrev pub dark_answer : ℕ → RowAnswer
dark_answer code = record { code = code; value = 0; devices = eight_of [] }

-- "any event on another row gets 9 and changes nothing"; a refused event hands the row back as it came, and its lines are as they stand
unfoldable pub row_answer : List Device → RowEvent → RowAnswer
row_answer ds e =
    let code = row_code ds e in
    if code == 9 || ltb 8 (length ds) then dark_answer code else
    if code == 0 then record { code = 0; value = value_in (reached ds e) (row_effects ds e); devices = eight_of (map shown_of (row_effects ds e)) } else
    record { code = code; value = 0; devices = eight_of (map (λ d. shown_of (effect d 0)) ds) }

unfoldable pub row_after : List Device → RowEvent → List Device
row_after ds e = if row_code ds e == 0 then map (λ r. r.device) (row_effects ds e) else ds
