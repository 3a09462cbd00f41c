-- docs/CTC.md, "Events and their answers". The kinds are paper 01's, 0 to 6: X, W, R, P, T, K, E.
-- Assumes nothing.
use Rattle.std.specs.Prelude.{ℕ, ◌*◌, ◌/◌, ◌%◌, Bool, false, not, ◌&&◌, ◌||◌, ltb, if◌then◌else◌, ◌==◌}
use Rattle.basics.specs.Byte.{bit}
use Rattle.rules.specs.declared.Event.{Event}
use Rattle.rules.specs.Events.{is_x, is_w, is_r, is_p, is_t, is_k, is_e, unknown}
use Rattle.ctc_rules.specs.declared.Ctc.{Ctc}
use Rattle.ctc_rules.specs.declared.CtcEffect.{CtcEffect}
use Rattle.ctc_rules.specs.declared.CtcAnswer.{CtcAnswer}
use Rattle.rules.specs.declared.Outcome.{Outcome}
use Rattle.ctc_rules.specs.Set.{set_channels, set_vector, set_levels, set_iei, set_channel}
use Rattle.ctc_rules.specs.Record.{four_of, channel_at, reset_ctc}
use Rattle.ctc_rules.specs.Channels.{level_channel, control_word, constant_word}
use Rattle.ctc_rules.specs.Interrupts.{requester_ctc, int_ctc, ieo_ctc, acknowledged_ctc, vector_ctc, released_ctc}
use Rattle.ctc_rules.specs.Clocks.{no_zeros, ran_ctc}
use Rattle.ctc_rules.specs.Sound.{sound_ctc}

-- ---- the refusals
-- 2: "W or R, channel above 3"
unfoldable pub no_channel : Event → Bool
no_channel e = (is_w e || is_r e) && ltb 3 e.a

-- 5: "a byte or a above 255, v above 1"
unfoldable pub too_large_ctc : Event → Bool
too_large_ctc e = (is_w e && ltb 255 e.b) || (is_p e && ltb 255 e.a) || (is_e e && ltb 1 e.a)

-- "Order: 9, 1, 2, 5, 6."; 1: "kind above 6"; 6: "K, no channel requests"
unfoldable pub code_ctc : Ctc → Event → ℕ
code_ctc d e =
    if not (sound_ctc d) then 9 else
    if unknown e then 1 else
    if no_channel e then 2 else
    if too_large_ctc e then 5 else
    if is_k e && requester_ctc d == 4 then 6 else
    0

-- ---- the effect: what an accepted event does to the record, the value that it gives, and the zero counts
abbrev pub plain_ctc : Ctc → ℕ → CtcEffect
plain_ctc d v = record { device = d; value = v; zeros = no_zeros }

-- "with D0 = 1 it is a control word"
abbrev pub is_control : ℕ → Bool
is_control b = b % 2 == 1

-- "W channel byte: where the channel awaits a constant the byte is that, whatever its D0; else with D0 = 1 it is a control word, and with
-- D0 = 0 to channel 0 the vector word, of which D7-D3 are stored. With D0 = 0 to another channel it does nothing."
unfoldable pub written_ctc : Ctc → ℕ → ℕ → Ctc
written_ctc d i b =
    if (channel_at d i).awaits then set_channel d i (constant_word (channel_at d i) b) else
    if is_control b then set_channel d i (control_word (channel_at d i) b) else
    if i == 0 then set_vector d (b / 8 * 8) else
    d

-- "P a b c: trigger levels, D3-D0 of a; the channels take their edges."
unfoldable pub levels_ctc : Ctc → ℕ → Ctc
levels_ctc d a = set_levels (set_channels d (four_of (λ i. level_channel (channel_at d i) (bit d.levels i) (bit a i)))) (a % 16)

-- "T n: n clocks."
unfoldable pub clocks_ctc : Ctc → ℕ → CtcEffect
clocks_ctc d n = record { device = (ran_ctc n d).device; value = 0; zeros = (ran_ctc n d).zeros }

-- "R channel: the down-counter", and K, E and X
unfoldable pub effect_ctc : Ctc → Event → CtcEffect
effect_ctc d e =
    if is_x e then plain_ctc (reset_ctc d) 0 else
    if is_w e then plain_ctc (written_ctc d e.a e.b) 0 else
    if is_r e then plain_ctc d (channel_at d e.a).count else
    if is_p e then plain_ctc (levels_ctc d e.a) 0 else
    if is_t e then clocks_ctc d e.a else
    if is_k e then plain_ctc (acknowledged_ctc d) (vector_ctc d) else
    plain_ctc (set_iei d (e.a == 1)) 0

-- ---- the answer
-- "An answer is: code, value (a byte), trigger levels, INT, IEO, and zero counts of the four channels (0 but for T). Lines are those after
-- the event."
unfoldable pub outcome_ctc : ℕ → CtcEffect → Outcome Ctc CtcAnswer
outcome_ctc code r =
    record {
      device = r.device;
      answer = record {
        code = code;
        value = r.value;
        levels = r.device.levels;
        int = int_ctc r.device;
        ieo = ieo_ctc r.device;
        zeros = r.zeros;
      };
    }

-- "With code 9 value, levels, lines and counts are all 0"
abbrev pub unsound_ctc : Ctc → Outcome Ctc CtcAnswer
unsound_ctc d = record { device = d; answer = record { code = 9; value = 0; levels = 0; int = false; ieo = false; zeros = no_zeros } }

-- an event is a code, an effect, an answer; "A refused event hands its record back as it came."
unfoldable pub event_ctc : Ctc → Event → Outcome Ctc CtcAnswer
event_ctc d e =
    if code_ctc d e == 9 then unsound_ctc d else
    if code_ctc d e == 0 then outcome_ctc 0 (effect_ctc d e) else
    outcome_ctc (code_ctc d e) (plain_ctc d 0)

-- "The end of service is a call of its own: it answers 9 or 0, with the lines after it."
unfoldable pub end_of_service : Ctc → Outcome Ctc CtcAnswer
end_of_service d = if sound_ctc d then outcome_ctc 0 (plain_ctc (released_ctc d) 0) else unsound_ctc d
