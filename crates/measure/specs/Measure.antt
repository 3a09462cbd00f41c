-- W-201, "How long an interrupt waits": the measure of a trace, event by event.
-- Assumes nothing.
use Rattle.std.specs.Prelude.{ℕ, zero, suc, ◌+◌, ◌-◌, ◌/◌, ◌%◌, Bool, false, not, ◌&&◌, ◌||◌, List, [], ◌∷◌, nat_lt, slice_index_or, slice_set, if◌then◌else◌, ◌==◌}
use Rattle.rules.specs.declared.Device.{Device}
use Rattle.rules.specs.declared.Event.{Event}
use Rattle.rules.specs.declared.Answer.{Answer}
use Rattle.rules.specs.declared.Outcome.{Outcome}
use Rattle.rules.specs.Record.{pattern_at, transfer_at, source_at}
use Rattle.rules.specs.Handshakes.{inputs, outputs, itb}
use Rattle.rules.specs.Registers.{port_enabled}
use Rattle.rules.specs.Interrupts.{requester}
use Rattle.rules.specs.Access.{clears_ip}
use Rattle.rules.specs.Step.{ran_of}
use Rattle.rules.specs.Events.{is_w, is_r, is_t, is_k, code_of, effect, outcome_of, event_of}
use Rattle.measure.specs.declared.Wait.{Wait}
use Rattle.measure.specs.declared.Measure.{Measure}
use Rattle.measure.specs.declared.Measured.{Measured}
use Rattle.measure.specs.Wait.{none, moved, counted}

-- ---- the five sources stand in their order of priority: CT3, A, CT2, B, CT1
abbrev pub five : {A : Type 0} → (ℕ → A) → List A
five f = f 0 ∷ f 1 ∷ f 2 ∷ f 3 ∷ f 4 ∷ []

abbrev pub wait_at : Measure → ℕ → Wait
wait_at m k = slice_index_or m.waits k none

abbrev pub with_waits : Measure → List Wait → Measure
with_waits m ws = record { clocks = m.clocks; waits = ws }

-- where a trace begins: an IP that stands already has no wait
abbrev pub measure_start : Measure
measure_start = record { clocks = 0; waits = five (λ k. none) }

-- ---- a step
-- from the record d to the record e, with the sources whose IP was cleared in between
unfoldable pub stepped : (ℕ → Bool) → Device → Device → Measure → Measure
stepped cleared d e m =
    with_waits m (five (λ k. moved (source_at d k).ip (cleared k) (source_at e k).ip m.clocks (wait_at m k)))

-- the command register of source k: "08, 09 port commands; 0A-0C counter commands"
abbrev pub command_of : ℕ → ℕ
command_of k = if k % 2 == 1 then 0x08 + k / 2 else 0x0C - k / 2

-- whether an event clears IP of the source with that register, and may set it again: "1 clear IP and IUS", "5 clear IP". A set in the
-- same event is a new request, from the hidden error too. (While RESET is 1 these writes do nothing, and there is no IP.)
abbrev pub clears_by : Event → ℕ → Bool
clears_by e command = is_w e && e.a == command && clears_ip (e.b / 32)

-- W-203: "Reading the data clears IP, with ITB 1 at the second byte read since IP rose"; W-206: a byte written to an output port does
-- likewise: of port p, at 0DH or 0EH
abbrev pub clears_by_data : Device → Event → ℕ → Bool
clears_by_data d e p =
    ((is_r e && inputs (pattern_at d p)) || (is_w e && outputs (pattern_at d p) && port_enabled d p))
    && e.a == 0x0D + p && (not (itb (pattern_at d p)) || (transfer_at d p).pair)

-- whether an event clears IP of source k; those at odd places are the ports'
abbrev pub clears : Device → Event → ℕ → Bool
clears d e k = clears_by e (command_of k) || (k % 2 == 1 && clears_by_data d e (k / 2))

-- ---- clocks
-- one clock, from the record d to the record e
unfoldable pub clocked : Device → Device → Measure → Measure
clocked d e m = stepped (λ k. false) d e (record { clocks = m.clocks + 1; waits = m.waits })

-- n clocks, one by one
unfoldable pub ticked : ℕ → Device → Measure → Measure
ticked zero d m = m
ticked (suc n) d m = clocked (ran_of n d).device (ran_of (suc n) d).device (ticked n d m)

-- ---- K: "set that source's IUS"
unfoldable pub taken : Device → Measure → Measure
taken d m = with_waits m (slice_set m.waits (requester d) (counted m.clocks (wait_at m (requester d))))

-- ---- the measuring call
-- "A trace has up to 4,000,000,000 clocks."
abbrev pub most_clocks : ℕ
most_clocks = 4000000000

-- "12, after 5, for a T that would take the trace's clocks past that limit"; T has no refusal after 5
abbrev pub past : Measure → Event → Bool
past m e = is_t e && nat_lt most_clocks (m.clocks + e.a)

-- what an accepted event does to the measure
unfoldable pub measure_of : Measure → Device → Event → Measure
measure_of m d e =
    if is_t e then ticked e.a d m else
    if is_k e then taken d m else
    stepped (clears d e) d (event_of d e).device m

abbrev pub beside : Measure → Outcome Device Answer → Measured
beside m o = record { measure = m; device = o.device; answer = o.answer }

-- refused events leave the measure; with 12 "leaving the table and the device as they stood"
unfoldable pub measured_of : Measure → Device → Event → Measured
measured_of m d e =
    if not (code_of d e == 0) then beside m (event_of d e) else
    if past m e then beside m (outcome_of 12 (effect d 0)) else
    beside (measure_of m d e) (event_of d e)

-- ---- "The result is one table, five sources by four numbers."
abbrev pub row_of : Wait → List ℕ
row_of w = w.acknowledged ∷ w.least ∷ w.greatest ∷ w.sum ∷ []

abbrev pub table_of : Measure → List (List ℕ)
table_of m = five (λ k. row_of (wait_at m k))
