-- T n as an event, and T's one after the other as one: what demand 3 speaks of.
-- Assumes nothing.
use Rattle.std.specs.Prelude.{ℕ, ◌+◌, Bool, true, false, ◌&&◌, List, [], ◌∷◌, ◌==◌}
use Rattle.rules.specs.declared.Event.{Event}
use Rattle.rules.specs.declared.Answer.{Answer}
use Rattle.rules.specs.declared.Device.{Device}
use Rattle.rules.specs.declared.Outcome.{Outcome}
use Rattle.rules.specs.declared.Ran.{Ran}
use Rattle.rules.specs.declared.Report.{Report}
use Rattle.rules.specs.Report.{no_report, reports_added}
use Rattle.rules.specs.Events.{is_t}
use Rattle.theorems.specs.Used.{of}
use Rattle.theorems.specs.Traces.{Traced}

-- "T n: n PCLK clocks."
abbrev pub tick : ℕ → Event
tick n = of 4 n 0 0

-- whether each event of a list is a T, whether each is a T 1, and the clocks of all together
unfoldable pub only_t : List Event → Bool
only_t [] = true
only_t (e ∷ l) = is_t e && only_t l

unfoldable pub only_t1 : List Event → Bool
only_t1 [] = true
only_t1 (e ∷ l) = is_t e && e.a == 1 && only_t1 l

unfoldable pub all_clocks : List Event → ℕ
all_clocks [] = 0
all_clocks (e ∷ l) = e.a + all_clocks l

-- clocks with the report of earlier ones added
abbrev pub on_top : Report → Ran → Ran
on_top r s = record { device = s.device; report = reports_added r s.report }

-- two answers, one after the other, as one: code, value and lines of the second, and the reports of both
abbrev pub answers_added : Answer → Answer → Answer
answers_added x y =
    record {
      code = y.code;
      value = y.value;
      a = y.a;
      b = y.b;
      c = y.c;
      int = y.int;
      ieo = y.ieo;
      report = reports_added x.report y.report;
    }

-- and any number of them; of no event there is no answer
abbrev pub no_answer : Answer
no_answer = record { code = 0; value = 0; a = 0; b = 0; c = 0; int = false; ieo = false; report = no_report }

unfoldable pub answers_as_one : List Answer → Answer
answers_as_one [] = no_answer
answers_as_one (x ∷ []) = x
answers_as_one (x ∷ y ∷ l) = answers_added x (answers_as_one (y ∷ l))

-- events one after the other as one: the record at the end, and their answers as one
abbrev pub as_one : Traced → Outcome Device Answer
as_one t = record { device = t.device; answer = answers_as_one t.answers }
