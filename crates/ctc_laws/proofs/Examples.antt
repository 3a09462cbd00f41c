-- Short traces from the fresh CTC, worked out by the definitions: what some of the readings come to (docs/DECISIONS.md, section C).
-- Assumes nothing.
use Prim.Native.Nat.{ℕ}
use mathlib.Core.Path.{◌≡◌, refl}
use mathlib.Core.Bool.{Bool, true, false}
use mathlib.Core.List.{List, [], ◌∷◌}
use Rattle.basics.specs.Iterate.{iterate}
use Rattle.basics.specs.Runs.{answers_through}
use Rattle.rules.specs.Events.{unknown}
use Rattle.theorems.specs.Used.{of}
use Rattle.ctc_rules.specs.declared.CtcAnswer.{CtcAnswer}
use Rattle.ctc_rules.specs.Record.{factor_of, reset_ctc, fresh_ctc}
use Rattle.ctc_rules.specs.Channels.{count_channel, timer_runs, clock_channel, edge_channel, active_edge, level_channel, goes_on, control_word, constant_word}
use Rattle.ctc_rules.specs.Interrupts.{first_test, first_four, pending_at, serving_ctc, requests_at, requester_ctc, int_ctc, ieo_ctc, acknowledged_ctc, vector_ctc, released_ctc}
use Rattle.ctc_rules.specs.Clocks.{clock_ctc, ran_ctc}
use Rattle.ctc_rules.specs.Sound.{control_bits, runs_loaded, constant_loaded, counter_runs, prescaler_below, prescaler_timed, sound_channel, sound_ctc}
use Rattle.ctc_rules.specs.Events.{no_channel, too_large_ctc, code_ctc, written_ctc, levels_ctc, clocks_ctc, effect_ctc, outcome_ctc, event_ctc, end_of_service}
use Rattle.ctc_laws.specs.Runs.{CtcCall, happens, ends, answers_ctc}

-- the letters of a trace
abbrev W : ℕ → ℕ → CtcCall
W i b = happens (of 1 i b 0)

abbrev R : ℕ → CtcCall
R i = happens (of 2 i 0 0)

abbrev P : ℕ → CtcCall
P a = happens (of 3 a 0 0)

abbrev T : ℕ → CtcCall
T n = happens (of 4 n 0 0)

abbrev K : CtcCall
K = happens (of 5 0 0 0)

-- code, value, trigger levels, INT, IEO, and the zero counts of channels 0 and 1
abbrev line : ℕ → ℕ → ℕ → Bool → Bool → ℕ → ℕ → CtcAnswer
line code value levels int ieo n m = record { code = code; value = value; levels = levels; int = int; ieo = ieo; zeros = n ∷ m ∷ 0 ∷ 0 ∷ [] }

abbrev quiet : CtcAnswer
quiet = line 0 0 0 false true 0 0

-- calls from the fresh device, and their answers
abbrev Answers : List CtcCall → List CtcAnswer → Type 0
Answers l m = answers_ctc fresh_ctc l ≡ m

-- a timer of constant 3 by 16: its zero count is at clock 48, and lowers IEO (C3); K clears IP, so that a second K is 6, and the end of
-- service raises IEO (C2)
abbrev ATimer : Type 0
ATimer =
    Answers (W 1 0x85 ∷ W 1 3 ∷ T 47 ∷ T 1 ∷ K ∷ K ∷ ends ∷ [])
    (quiet ∷ quiet ∷ quiet ∷ line 0 0 0 true false 0 1 ∷ line 0 2 0 false false 0 0 ∷ line 6 0 0 false false 0 0 ∷ quiet ∷ [])

-- a counter of constant 2 on falling edges (C8)
abbrev ACounter : Type 0
ACounter =
    Answers (W 0 0x45 ∷ W 0 2 ∷ P 1 ∷ P 0 ∷ R 0 ∷ P 1 ∷ P 0 ∷ R 0 ∷ [])
    (quiet ∷ quiet ∷ line 0 0 1 false true 0 0 ∷ quiet ∷ line 0 1 0 false true 0 0 ∷ line 0 0 1 false true 0 0 ∷ quiet ∷ line 0 2 0 false true 0 0 ∷ [])

-- a constant written while the channel runs is used at the next reload (C6)
abbrev AConstant : Type 0
AConstant =
    Answers (W 0 5 ∷ W 0 2 ∷ T 16 ∷ W 0 5 ∷ W 0 9 ∷ R 0 ∷ T 16 ∷ R 0 ∷ [])
    (quiet ∷ quiet ∷ quiet ∷ quiet ∷ quiet ∷ line 0 1 0 false true 0 0 ∷ line 0 0 0 false true 1 0 ∷ line 0 9 0 false true 0 0 ∷ [])

-- a timer that waits for its edge is started by another slope (C9)
abbrev ASlope : Type 0
ASlope = Answers (W 0 0x0D ∷ W 0 1 ∷ T 16 ∷ W 0 0x19 ∷ T 16 ∷ []) (quiet ∷ quiet ∷ quiet ∷ quiet ∷ line 0 0 0 false true 1 0 ∷ [])

-- each is computed, with every definition of `ctc_rules` open
pub examples : ATimer × ACounter × AConstant × ASlope
unfolding answers_through iterate unknown factor_of reset_ctc count_channel timer_runs clock_channel edge_channel active_edge level_channel goes_on
    control_word constant_word first_test first_four pending_at serving_ctc requests_at requester_ctc int_ctc ieo_ctc acknowledged_ctc vector_ctc
    released_ctc clock_ctc ran_ctc control_bits runs_loaded constant_loaded counter_runs prescaler_below prescaler_timed sound_channel sound_ctc
    no_channel too_large_ctc code_ctc written_ctc levels_ctc clocks_ctc effect_ctc outcome_ctc event_ctc end_of_service
examples = (refl, refl, refl, refl)
