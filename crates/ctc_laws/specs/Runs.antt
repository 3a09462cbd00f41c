-- Calls of a CTC one after the other, each in the record that the one before it left: events, and ends of service.
-- Assumes nothing.
use Rattle.std.specs.Prelude.{ℕ, ◌+◌, Bool, true, false, ◌&&◌, List, [], ◌∷◌, get_or, ◌==◌}
use Rattle.basics.specs.Runs.{Course, record_through, answers_through, course_of, course_on, course_cut}
use Rattle.rules.specs.declared.Event.{Event}
use Rattle.rules.specs.Events.{is_t}
use Rattle.ctc_rules.specs.declared.Ctc.{Ctc}
use Rattle.ctc_rules.specs.declared.CtcAnswer.{CtcAnswer}
use Rattle.rules.specs.declared.Outcome.{Outcome}
use Rattle.ctc_rules.specs.Record.{four_of}
use Rattle.ctc_rules.specs.Clocks.{no_zeros}
use Rattle.ctc_rules.specs.Events.{event_ctc, end_of_service}

-- a call: an event, or the end of service
pub data CtcCall : Type 0 where
  happens : Event → CtcCall
  ends : CtcCall

abbrev pub call_ctc : Ctc → CtcCall → Outcome Ctc CtcAnswer
call_ctc d (happens e) = event_ctc d e
call_ctc d ends = end_of_service d

-- the record after a call, and its answer
abbrev pub next_ctc : Ctc → CtcCall → Ctc
next_ctc d x = (call_ctc d x).device

abbrev pub answer_ctc : Ctc → CtcCall → CtcAnswer
answer_ctc d x = (call_ctc d x).answer

-- the answers to a list of calls, and the record at the end
abbrev pub answers_ctc : Ctc → List CtcCall → List CtcAnswer
answers_ctc = answers_through next_ctc answer_ctc

abbrev pub record_ctc : Ctc → List CtcCall → Ctc
record_ctc = record_through next_ctc

-- both
abbrev pub RunCtc : Type 0
RunCtc = Course CtcAnswer Ctc

abbrev pub run_ctc : Ctc → List CtcCall → RunCtc
run_ctc = course_of next_ctc answer_ctc

-- a run, and then more calls
abbrev pub followed_ctc : RunCtc → List CtcCall → RunCtc
followed_ctc = course_on next_ctc answer_ctc

-- a list of calls cut into a first part and others, where f is done to the record at each cut (a save and its restore)
abbrev pub cut_ctc : (Ctc → Ctc) → Ctc → List CtcCall → List (List CtcCall) → RunCtc
cut_ctc = course_cut next_ctc answer_ctc

-- ---- T's one after the other, as one: what demand 3 speaks of
-- whether a call is a T, whether it is a T 1, and its clocks
abbrev pub is_tick : CtcCall → Bool
is_tick (happens e) = is_t e
is_tick ends = false

abbrev pub ticks_in : CtcCall → ℕ
ticks_in (happens e) = e.a
ticks_in ends = 0

-- of a list of them
unfoldable pub only_ticks : List CtcCall → Bool
only_ticks [] = true
only_ticks (x ∷ l) = is_tick x && only_ticks l

unfoldable pub only_ticks1 : List CtcCall → Bool
only_ticks1 [] = true
only_ticks1 (x ∷ l) = is_tick x && ticks_in x == 1 && only_ticks1 l

unfoldable pub tick_clocks : List CtcCall → ℕ
tick_clocks [] = 0
tick_clocks (x ∷ l) = ticks_in x + tick_clocks l

-- zero counts added up, channel by channel
unfoldable pub zeros_added : List ℕ → List ℕ → List ℕ
zeros_added ns ms = four_of (λ i. get_or ns i 0 + get_or ms i 0)

-- two answers, one after the other, as one: code, value and lines of the second, and the zero counts of both
abbrev pub both_ctc : CtcAnswer → CtcAnswer → CtcAnswer
both_ctc x y =
    record { code = y.code; value = y.value; levels = y.levels; int = y.int; ieo = y.ieo; zeros = zeros_added x.zeros y.zeros }

-- and any number of them; of no call there is no answer
abbrev pub no_ctc : CtcAnswer
no_ctc = record { code = 0; value = 0; levels = 0; int = false; ieo = false; zeros = no_zeros }

unfoldable pub answers_one_ctc : List CtcAnswer → CtcAnswer
answers_one_ctc [] = no_ctc
answers_one_ctc (x ∷ []) = x
answers_one_ctc (x ∷ y ∷ l) = both_ctc x (answers_one_ctc (y ∷ l))

-- calls one after the other as one: the record at the end, and their answers as one
abbrev pub one_ctc : RunCtc → Outcome Ctc CtcAnswer
one_ctc t = record { device = t.device; answer = answers_one_ctc t.answers }
