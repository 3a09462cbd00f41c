-- How an event goes along a row, in two passes of one device after the other: the first looks, the second acts. That this comes to
-- the definitions of `rows` is proved in `row`.
-- Assumes nothing.
use Rattle.std.specs.Prelude.{ℕ, zero, suc, Bool, true, false, not, ◌&&◌, ◌||◌, List, ltb, set, if◌then◌else◌, ◌==◌}
use Rattle.std.specs.Bool.{beq}
use Rattle.rules.specs.declared.Device.{Device}
use Rattle.rules.specs.declared.Effect.{Effect}
use Rattle.rules.specs.Events.{is_t, is_k, code_of, effect}
use Rattle.rules.specs.Sound.{sound_of}
use Rattle.rows.specs.declared.RowEvent.{RowEvent}
use Rattle.rows.specs.declared.RowAnswer.{RowAnswer}
use Rattle.rows.specs.declared.Shown.{Shown}
use Rattle.rows.specs.Rows.{names, part_of, shown_of, dark_answer}
use Rattle.row_visit.specs.declared.Pass.{Pass}
use Rattle.row_visit.specs.declared.Seen.{Seen}

-- ---- a pass from device to device
-- how many devices come before the one that is named, and before the first none
unfoldable pub to_of : RowEvent → ℕ
to_of e = if names e.event then e.device else 0

-- before the first device
unfoldable pub pass_begun : RowEvent → Bool → Bool → ℕ → Pass
pass_begun e acts shows code =
    record { event = e; acts = acts; shows = shows; to = to_of e; found = false; place = 0; high = true; sound = true; answer = dark_answer code }

-- the event reaches this device: K the first that requests, any other kind the one at its place
unfoldable pub here_of : Device → Pass → Bool
here_of d s = if is_k s.event.event then not s.found && d.lines.int else not s.found && s.to == 0

-- one device fewer to come
unfoldable pub one_fewer : ℕ → ℕ
one_fewer zero = zero
one_fewer (suc n) = n

-- one device more has come by, of more than eight 9
unfoldable pub next_place : ℕ → ℕ
next_place p = if ltb p 9 then suc p else p

-- at the next device
unfoldable pub onward : Pass → Bool → Bool → Bool → RowAnswer → Pass
onward s hit high sound a =
    record {
      event = s.event;
      acts = s.acts;
      shows = s.shows;
      to = one_fewer s.to;
      found = s.found || hit;
      place = next_place s.place;
      high = high;
      sound = sound;
      answer = a;
    }

-- ---- the pass that looks
unfoldable pub looking_of : RowEvent → Pass
looking_of e = pass_begun e false false 0

-- sound, with its IEI from the one before; that of the first is free
unfoldable pub follows_of : Device → Pass → Bool
follows_of d s = sound_of d && (s.place == 0 || beq d.iei s.high)

-- the code of the device that the event reaches
unfoldable pub code_seen : Bool → Device → Pass → ℕ
code_seen hit d s = if hit then code_of d s.event.event else s.answer.code

unfoldable pub looked_of : Device → Pass → Pass
looked_of d s =
    let hit = here_of d s in
    onward s hit d.lines.ieo (s.sound && follows_of d s) (dark_answer (code_seen hit d s))

-- ---- between the two
-- 13
unfoldable pub refused_of : Pass → Bool
refused_of s = s.place == 0 || ltb 8 s.place || (names s.event.event && not s.found)

-- the code of the event
unfoldable pub verdict_of : Pass → ℕ
verdict_of s =
    if not s.sound then 9 else
    if refused_of s then 13 else
    if is_k s.event.event && not s.found then 6 else
    s.answer.code

-- the second pass: it acts where nothing is refused, and shows the devices but under 9 and where there are more than eight
unfoldable pub acting_of : Pass → Pass
acting_of s =
    let code = verdict_of s in
    pass_begun s.event (code == 0) (not (code == 9 || ltb 8 s.place)) code

-- ---- the pass that acts
-- T goes to all
unfoldable pub does_of : Pass → Bool → Bool
does_of s hit = is_t s.event.event || hit

unfoldable pub parted_of : Bool → Device → Pass → Effect
parted_of hit d s = if s.acts then part_of (does_of s hit) s.event.event s.place s.high d else effect d 0

unfoldable pub shows_at : Pass → Effect → List Shown
shows_at s r = if s.shows && ltb s.place 8 then set s.answer.devices s.place (shown_of r) else s.answer.devices

-- the value is that of the device reached
unfoldable pub filled_of : Bool → Pass → Effect → RowAnswer
filled_of hit s r = record { code = s.answer.code; value = if hit then r.value else s.answer.value; devices = shows_at s r }

unfoldable pub acted_of : Device → Pass → Seen
acted_of d s =
    let hit = here_of d s in
    let r = parted_of hit d s in
    record { device = r.device; pass = onward s hit r.device.lines.ieo s.sound (filled_of hit s r) }
