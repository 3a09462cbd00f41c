-- The laws of a report: none adds nothing, reports add up in any grouping, and how large the sum is.
-- Assumes nothing.
use Prim.Native.Nat.{ℕ, zero, suc, ◌+◌, ◌≤◌, ◌<◌}
use mathlib.Core.Path.{◌≡◌, refl, sym}
use mathlib.Core.Bool.{Bool, true, false}
use mathlib.Core.List.{List, [], ◌∷◌}
use native.Mathlib.Nat.{add-zero, zero-add, add_assoc}
use native.Mathlib.Omega.{arith}
use lib.ListN.{get_or, length}
use Rattle.basics.specs.Byte.{num}
use Rattle.rules.specs.declared.Report.{Report}
use Rattle.rules.specs.declared.Stepped.{Stepped}
use Rattle.rules.specs.Report.{no_report, sums, nums, reports_added, step_report}
use Rattle.theorems.specs.Reports.{Whole, Fits}
use Rattle.basics.proofs.Lists.{three}
use Rattle.basics.proofs.Places.{all-zero}

-- ---- the numbers of one kind, a row of three
-- nothing is added by noughts, and rows add up in any grouping
none-sum : (ns : List ℕ) → length ns ≡ 3 → sums (0 ∷ 0 ∷ 0 ∷ []) ns ≡ ns
unfolding sums
none-sum ns h = simp zero-add (sym (three 0 ns h))

sum-none : (ns : List ℕ) → length ns ≡ 3 → sums ns (0 ∷ 0 ∷ 0 ∷ []) ≡ ns
unfolding sums
sum-none ns h = simp add-zero (sym (three 0 ns h))

sum-assoc : (ns ms ks : List ℕ) → sums (sums ns ms) ks ≡ sums ns (sums ms ks)
unfolding sums
sum-assoc ns ms ks = simp add_assoc

-- at each place the sum of what stands there
pub sum-at : (ns ms : List ℕ) (i : ℕ) → i < 3 → get_or (sums ns ms) i 0 ≡ get_or ns i 0 + get_or ms i 0
unfolding sums
sum-at ns ms zero h = refl
sum-at ns ms (suc zero) h = refl
sum-at ns ms (suc (suc zero)) h = refl
sum-at ns ms (suc (suc (suc i))) h = absurd (omega arith)

pub sum-le : (ns ms : List ℕ) (i : ℕ) → get_or (sums ns ms) i 0 ≤ get_or ns i 0 + get_or ms i 0
unfolding sums
sum-le ns ms zero = omega arith
sum-le ns ms (suc zero) = omega arith
sum-le ns ms (suc (suc zero)) = omega arith
sum-le ns ms (suc (suc (suc i))) = omega arith

-- a step adds at most one of each counter
pub num-le : (v : Bool) → num v < 2
num-le true = omega arith
num-le false = omega arith

pub nums_at : (vs : List Bool) (i : ℕ) → i < 3 → get_or (nums vs) i 0 ≡ num (get_or vs i false)
unfolding nums
nums_at vs zero h = refl
nums_at vs (suc zero) h = refl
nums_at vs (suc (suc zero)) h = refl
nums_at vs (suc (suc (suc i))) h = absurd (omega arith)

pub nums-le : (vs : List Bool) (i : ℕ) → get_or (nums vs) i 0 ≤ 1
unfolding nums
nums-le vs zero = omega (arith, num-le (get_or vs 0 false))
nums-le vs (suc zero) = omega (arith, num-le (get_or vs 1 false))
nums-le vs (suc (suc zero)) = omega (arith, num-le (get_or vs 2 false))
nums-le vs (suc (suc (suc i))) = omega arith

-- ---- the two rows of a report: what holds of either is said of a row
pub record Row : Type 0 where
  pub of : Report → List ℕ
  pub marks : Stepped → List Bool
  pub adds : (r : Report) (t : Stepped) → of (reports_added r (step_report t)) ≡ sums (of r) (nums (marks t))

pub terminals-add : (r : Report) (t : Stepped) → (reports_added r (step_report t)).terminals ≡ sums r.terminals (nums t.terminals)
unfolding reports_added
terminals-add r t = refl

pub lost-add : (r : Report) (t : Stepped) → (reports_added r (step_report t)).lost ≡ sums r.lost (nums t.lost)
unfolding reports_added
lost-add r t = refl

abbrev pub the_terminals : Row
the_terminals = record { of = λ r. r.terminals; marks = λ t. t.terminals; adds = terminals-add }

abbrev pub the_lost : Row
the_lost = record { of = λ r. r.lost; marks = λ t. t.lost; adds = lost-add }

-- ---- whole
pub none-whole : Whole no_report
none-whole = record { terminals = refl; lost = refl }

pub added-whole : (r s : Report) → Whole (reports_added r s)
unfolding reports_added sums
added-whole r s = record { terminals = refl; lost = refl }

-- ---- none: nothing is added by it
pub none-added : (r : Report) → Whole r → reports_added no_report r ≡ r
unfolding reports_added
none-added r w = λ i. record { terminals = none-sum r.terminals w.terminals i; lost = none-sum r.lost w.lost i }

pub added_none : (r : Report) → Whole r → reports_added r no_report ≡ r
unfolding reports_added
added_none r w = λ i. record { terminals = sum-none r.terminals w.terminals i; lost = sum-none r.lost w.lost i }

-- ---- added: in any grouping
pub added-assoc : (r s t : Report) → reports_added (reports_added r s) t ≡ reports_added r (reports_added s t)
unfolding reports_added
added-assoc r s t =
    λ i. record { terminals = sum-assoc r.terminals s.terminals t.terminals i; lost = sum-assoc r.lost s.lost t.lost i }

-- ---- fits
pub none-fits : Fits 0 no_report
none-fits = record { terminals = λ i. omega (arith, all-zero i); lost = λ i. omega (arith, all-zero i) }

pub added-fits : (m n : ℕ) (r s : Report) → Fits m r → Fits n s → Fits (m + n) (reports_added r s)
unfolding reports_added
added-fits m n r s h g =
    record {
      terminals = λ i. omega (arith, sum-le r.terminals s.terminals i, h.terminals i, g.terminals i);
      lost = λ i. omega (arith, sum-le r.lost s.lost i, h.lost i, g.lost i);
    }

pub fits_more : (m n : ℕ) (r : Report) → m ≤ n → Fits m r → Fits n r
fits_more m n r l h = record { terminals = λ i. omega (arith, l, h.terminals i); lost = λ i. omega (arith, l, h.lost i) }

pub step_fits : (t : Stepped) → Fits 1 (step_report t)
step_fits t = record { terminals = nums-le t.terminals; lost = nums-le t.lost }
