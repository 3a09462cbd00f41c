-- Paper 01, "Events and their answers".
-- Assumes nothing.
use Rattle.std.specs.Prelude.{ℕ, ◌-◌, Bool, false, not, ◌&&◌, ◌||◌, [], ◌∷◌, ltb, leb, if◌then◌else◌, ◌==◌}
use Rattle.rules.specs.declared.Device.{Device}
use Rattle.rules.specs.declared.Event.{Event}
use Rattle.rules.specs.declared.Answer.{Answer}
use Rattle.rules.specs.declared.Outcome.{Outcome}
use Rattle.rules.specs.declared.Effect.{Effect}
use Rattle.rules.specs.With.{with_outside, with_ports, with_iei}
use Rattle.rules.specs.Record.{register_count, port_at, reset_of}
use Rattle.rules.specs.Handshakes.{irf_at, ore_at}
use Rattle.rules.specs.Moves.{moves_of}
use Rattle.rules.specs.Report.{no_report}
use Rattle.rules.specs.Registers.{kind_of, reset, read_only, later}
use Rattle.rules.specs.PortData.{pins_at}
use Rattle.rules.specs.Interrupts.{requester, relined, acknowledged, acknowledge}
use Rattle.rules.specs.Step.{step_of, ran_of}
use Rattle.rules.specs.Access.{read_of, reads_byte, writes_byte, after_read, written_of}
use Rattle.rules.specs.Sound.{sound_of}

-- "X .. W .. R .. P .. T .. K .. E .. Kinds are numbered 0 to 6 in this order."
abbrev pub is_x : Event → Bool
is_x e = e.kind == 0

abbrev pub is_w : Event → Bool
is_w e = e.kind == 1

abbrev pub is_r : Event → Bool
is_r e = e.kind == 2

abbrev pub is_p : Event → Bool
is_p e = e.kind == 3

abbrev pub is_t : Event → Bool
is_t e = e.kind == 4

abbrev pub is_k : Event → Bool
is_k e = e.kind == 5

abbrev pub is_e : Event → Bool
is_e e = e.kind == 6

-- ---- the refusals
-- 1: "kind above 6"
unfoldable pub unknown : Event → Bool
unknown e = ltb 6 e.kind

-- 2: "W or R, address above 47"
unfoldable pub no_register : Event → Bool
no_register e = (is_w e || is_r e) && leb register_count e.a

-- 5: "a byte, a or b above 255, c above 15, v above 1"
unfoldable pub too_large : Event → Bool
too_large e =
    (is_w e && ltb 255 e.b) || (is_p e && (ltb 255 e.a || ltb 255 e.b || ltb 15 e.c)) || (is_e e && ltb 1 e.a)

-- "While RESET is 1, other writes are accepted with no effect"
unfoldable pub held : Device → Event → Bool
held d e = reset d && is_w e && not (e.a == 0x00)

-- paper 02, W-203: "11 for a data read with IRF 0", of an input port; W-206: "10 for a data write with ORE 0", of an output port
unfoldable pub no_byte : Device → Event → Bool
no_byte d e = is_r e && reads_byte d e.a && not (irf_at d (e.a - 0x0D))

unfoldable pub no_room : Device → Event → Bool
no_room d e = is_w e && writes_byte d e.a && not (ore_at d (e.a - 0x0D))

-- "Order: 9, 1, 2, 5, reset hold, 3, 4, 6."; 11 "after 3", 10 "after 11"
unfoldable pub code_of : Device → Event → ℕ
code_of d e =
    if not (sound_of d) then 9 else
    if unknown e then 1 else
    if no_register e then 2 else
    if too_large e then 5 else
    if held d e then 0 else
    if is_w e && read_only e.a then 3 else
    if no_byte d e then 11 else
    if no_room d e then 10 else
    if is_w e && later d e.a e.b then 4 else
    if is_k e && requester d == 5 then 6 else
    0

-- ---- the effect: what an accepted event does to the record, the value that it gives, and what it reports
abbrev pub effect : Device → ℕ → Effect
effect d v = record { device = d; value = v; report = no_report }

-- "W address byte": a step; "While RESET is 1, other writes are accepted with no effect"
unfoldable pub write_effect : Device → ℕ → ℕ → Effect
write_effect d a b =
    if reset d && not (a == 0x00) then effect d 0 else
    effect (step_of false d (moves_of d (written_of d (kind_of a) b))).device 0

-- "R address": under RESET "other registers (1FH too) read 0"
unfoldable pub read_effect : Device → ℕ → Effect
read_effect d a = if reset d && not (a == 0x00) then effect d 0 else effect (after_read d a) (read_of d (kind_of a))

-- "P a b c: outside pin levels."
unfoldable pub outside_set : Device → ℕ → ℕ → ℕ → Device
outside_set d a b c =
    with_ports d (with_outside (port_at d 0) a ∷ with_outside (port_at d 1) b ∷ with_outside (port_at d 2) c ∷ [])

unfoldable pub pins_effect : Device → ℕ → ℕ → ℕ → Effect
pins_effect d a b c = effect (step_of false d (moves_of d (outside_set d a b c))).device 0

-- "T n: n PCLK clocks."
unfoldable pub clocks_effect : Device → ℕ → Effect
clocks_effect d n = record { device = (ran_of n d).device; value = 0; report = (ran_of n d).report }

-- "K: acknowledge."
unfoldable pub acknowledge_effect : Device → Effect
acknowledge_effect d = effect (acknowledged d) (acknowledge d)

-- "E v: IEI level."
unfoldable pub iei_effect : Device → ℕ → Effect
iei_effect d v = effect (with_iei d (v == 1)) 0

unfoldable pub effect_of : Device → Event → Effect
effect_of d e =
    if is_x e then effect (reset_of d) 0 else
    if is_w e then write_effect d e.a e.b else
    if is_r e then read_effect d e.a else
    if is_p e then pins_effect d e.a e.b e.c else
    if is_t e then clocks_effect d e.a else
    if is_k e then acknowledge_effect d else
    iei_effect d e.a

-- paper 02, W-208: the stored lines are kept "true through every event": worked out once, after it
unfoldable pub relit : Effect → Effect
relit r = record { device = relined r.device; value = r.value; report = r.report }

-- ---- the answer
-- "An answer is: code, value (a byte), pin levels A, B, C, INT (1 = asserted), IEO (1 = High), and terminal counts of
-- counters 1, 2, 3 (0 but for T). Lines are those after the event.", as they are stored. Paper 02, W-202: "T answers three more numbers".
unfoldable pub answer_of : ℕ → Effect → Answer
answer_of code r =
    record {
      code = code;
      value = r.value;
      a = pins_at r.device 0;
      b = pins_at r.device 1;
      c = pins_at r.device 2;
      int = r.device.lines.int;
      ieo = r.device.lines.ieo;
      report = r.report;
    }

-- "With code 9 on an event, value, pins, lines and counts are all 0."
abbrev pub unsound_answer : Answer
unsound_answer = record { code = 9; value = 0; a = 0; b = 0; c = 0; int = false; ieo = false; report = no_report }

unfoldable pub outcome_of : ℕ → Effect → Outcome Device Answer
outcome_of code r = record { device = r.device; answer = answer_of code r }

-- an event is a code, an effect, an answer; "A refused event hands its record back as it came."
unfoldable pub event_of : Device → Event → Outcome Device Answer
event_of d e =
    if code_of d e == 9 then record { device = d; answer = unsound_answer } else
    if code_of d e == 0 then outcome_of 0 (relit (effect_of d e)) else
    outcome_of (code_of d e) (effect d 0)
