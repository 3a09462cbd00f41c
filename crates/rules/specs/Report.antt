-- What an answer reports of its clocks: "terminal counts of counters 1, 2, 3 (0 but for T)"; paper 02, W-202: "T answers three
-- more numbers, lost terminals for counters 1 to 3."
-- Assumes nothing.
use Rattle.std.specs.Prelude.{ℕ, ◌+◌, Bool, false, List, [], ◌∷◌, get_or}
use Rattle.basics.specs.Byte.{num}
use Rattle.rules.specs.declared.Report.{Report}
use Rattle.rules.specs.declared.Stepped.{Stepped}

-- no clocks, nothing to report
abbrev pub no_report : Report
no_report = record { terminals = 0 ∷ 0 ∷ 0 ∷ []; lost = 0 ∷ 0 ∷ 0 ∷ [] }

-- "the reports add up": counter by counter
unfoldable pub sums : List ℕ → List ℕ → List ℕ
sums ns ms = (get_or ns 0 0 + get_or ms 0 0) ∷ (get_or ns 1 0 + get_or ms 1 0) ∷ (get_or ns 2 0 + get_or ms 2 0) ∷ []

unfoldable pub reports_added : Report → Report → Report
reports_added r s = record { terminals = sums r.terminals s.terminals; lost = sums r.lost s.lost }

-- 1 for each counter of which it is true
unfoldable pub nums : List Bool → List ℕ
nums vs = num (get_or vs 0 false) ∷ num (get_or vs 1 false) ∷ num (get_or vs 2 false) ∷ []

-- the report of one step
abbrev pub step_report : Stepped → Report
step_report s = record { terminals = nums s.terminals; lost = nums s.lost }
