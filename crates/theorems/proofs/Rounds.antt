-- Whole rounds: what comes back to where it was goes round. That needs nothing but that a clock is a function.
-- Assumes nothing.
use Prim.Native.Nat.{ℕ, zero, suc, ◌+◌, ◌-◌, ◌*◌, ◌≤◌, ◌<◌}
use mathlib.Core.Path.{◌≡◌, refl, sym, ap, ◌∙◌}
use mathlib.Core.Bool.{Bool, true, false}
use mathlib.Core.List.{List, [], ◌∷◌}
use native.Mathlib.Nat.{zero-mul, suc-mul, add-zero}
use native.Mathlib.Omega.{arith}
use lib.Dec.{lit<}
use lib.ListN.{get_or, length}
use Rattle.rules.specs.declared.Ran.{Ran}
use Rattle.rules.specs.declared.Report.{Report}
use Rattle.rules.specs.Registers.{reset}
use Rattle.rules.specs.Report.{sums, reports_added}
use Rattle.rules.specs.Step.{clock_of}
use Rattle.basics.specs.Iterate.{iterate}
use Rattle.theorems.specs.Reports.{Whole}
use Rattle.theorems.specs.Ticks.{on_top}
use Rattle.basics.proofs.Iterate.{iterate-add, iterate-commutes}
use Rattle.basics.proofs.Lists.{three}
use Rattle.theorems.proofs.ReportLaws.{Row, the_terminals, the_lost}
use Rattle.theorems.proofs.Reports.{clock-held, clock-first, clock-timer, clock-on-top, clocks-add, no_less, one_more}

-- ---- over any function f, and any g that does not matter to it: a round that does g
module _ {A : Type 0} (f g : A → A) (apart : (x : A) → f (g x) ≡ g (f x)) (p : ℕ) (x : A) (round : iterate p f x ≡ g x) where
  -- q rounds do g q times
  pub only-rounds : (q : ℕ) → iterate (q * p) f x ≡ iterate q g x
  unfolding iterate
  only-rounds zero = ap (λ (n : ℕ). iterate n f x) (zero-mul p)
  only-rounds (suc q) =
      ap (λ (n : ℕ). iterate n f x) (suc-mul q p) ∙ iterate-add (q * p) p f x ∙ ap (iterate p f) (only-rounds q)
      ∙ sym (iterate-commutes g (iterate p f) (λ y. sym (iterate-commutes f g apart p y)) q x)
      ∙ ap (iterate q g) round ∙ iterate-commutes g g (λ y. refl) q x

  -- the end after q rounds and r more is the end after r, with g done q times
  pub rounds : (q r : ℕ) → iterate (q * p + r) f x ≡ iterate q g (iterate r f x)
  rounds q r =
      iterate-add (q * p) r f x ∙ ap (iterate r f) (only-rounds q)
      ∙ sym (iterate-commutes g (iterate r f) (λ y. sym (iterate-commutes f g apart r y)) q x)

-- a round that does nothing else
same_after : {A : Type 0} (q : ℕ) (y : A) → iterate q (λ x. x) y ≡ y
unfolding iterate
same_after zero y = refl
same_after (suc q) y = same_after q y

pub plain-rounds : {A : Type 0} (f : A → A) (p : ℕ) (x : A) → iterate p f x ≡ x → (q r : ℕ) → iterate (q * p + r) f x ≡ iterate r f x
plain-rounds f p x round q r = rounds f (λ x. x) (λ y. refl) p x round q r ∙ same_after q (iterate r f x)

-- ---- clocks: the numbers of a row never fall, and rise by at most one a clock
module _ (w : Row) (i : ℕ) where
  -- the row's number of counter i
  abbrev pub at : Ran → ℕ
  at s = get_or (w.of s.report) i 0

  clock-rises : i < 3 → (r p : Bool) (s : Ran) → reset s.device ≡ r → s.device.phase ≡ p → at s ≤ at (clock_of s)
  clock-rises h true p s e q = rw (clock-held s e) (omega arith)
  clock-rises h false false s e q = rw (clock-first s e q) (omega arith)
  clock-rises h false true s e q = rw (clock-timer s e q) (no_less w s.report _ i h)

  clock-once : (r p : Bool) (s : Ran) → reset s.device ≡ r → s.device.phase ≡ p → at (clock_of s) ≤ at s + 1
  clock-once true p s e q = rw (clock-held s e) (omega arith)
  clock-once false false s e q = rw (clock-first s e q) (omega arith)
  clock-once false true s e q = rw (clock-timer s e q) (one_more w s.report _ i)

  pub once : (s : Ran) → at (clock_of s) ≤ at s + 1
  once s = clock-once _ _ s refl refl

  pub rises : (n : ℕ) (s : Ran) → i < 3 → at s ≤ at (iterate n clock_of s)
  unfolding iterate
  rises zero s h = omega arith
  rises (suc n) s h = omega (arith, rises n s h, clock-rises h _ _ (iterate n clock_of s) refl refl)

  pub at_most : (n : ℕ) (s : Ran) → at (iterate n clock_of s) ≤ at s + n
  unfolding iterate
  at_most zero s = omega arith
  at_most (suc n) s = omega (arith, at_most n s, once (iterate n clock_of s))

-- ---- whole rounds of clocks
-- a number after q rounds more, of which each adds as much as there was from `was` to `is`
abbrev pub after_rounds : ℕ → ℕ → ℕ → ℕ
after_rounds q was is = is + q * (is - was)

-- a row, and a report
abbrev pub row_after : ℕ → List ℕ → List ℕ → List ℕ
row_after q was is =
    after_rounds q (get_or was 0 0) (get_or is 0 0) ∷ after_rounds q (get_or was 1 0) (get_or is 1 0) ∷ after_rounds q (get_or was 2 0) (get_or is 2 0) ∷ []

abbrev pub report_after : ℕ → Report → Report → Report
report_after q was is =
    record { terminals = row_after q was.terminals is.terminals; lost = row_after q was.lost is.lost }

-- the same row on top, q times
abbrev topped : ℕ → List ℕ → List ℕ → List ℕ
topped q gs ns = (get_or ns 0 0 + q * get_or gs 0 0) ∷ (get_or ns 1 0 + q * get_or gs 1 0) ∷ (get_or ns 2 0 + q * get_or gs 2 0) ∷ []

topped-none : (gs ns : List ℕ) → length ns ≡ 3 → ns ≡ topped 0 gs ns
topped-none gs ns h = simp (zero-mul, add-zero) (three 0 ns h)

another : (a x q : ℕ) → a + (x + q * a) ≡ x + suc q * a
another a x q = omega (arith, suc-mul q a)

topped-more : (q : ℕ) (gs ns : List ℕ) → sums gs (topped q gs ns) ≡ topped (suc q) gs ns
unfolding sums
topped-more q gs ns =
    λ i. another (get_or gs 0 0) (get_or ns 0 0) q i ∷ another (get_or gs 1 0) (get_or ns 1 0) q i ∷ another (get_or gs 2 0) (get_or ns 2 0) q i ∷ []

-- and the same report
abbrev topped_report : ℕ → Report → Report → Report
topped_report q g r = record { terminals = topped q g.terminals r.terminals; lost = topped q g.lost r.lost }

tops : (q : ℕ) (g : Report) (s : Ran) → Whole s.report
    → iterate q (on_top g) s ≡ record { device = s.device; report = topped_report q g s.report }
unfolding iterate reports_added
tops zero g s w =
    let ts = topped-none g.terminals s.report.terminals w.terminals in
    let ls = topped-none g.lost s.report.lost w.lost in
    λ i. record { device = s.device; report = record { terminals = ts i; lost = ls i } }
tops (suc q) g s w =
    let ts = topped-more q g.terminals s.report.terminals in
    let ls = topped-more q g.lost s.report.lost in
    ap (on_top g) (tops q g s w) ∙ (λ i. record { device = s.device; report = record { terminals = ts i; lost = ls i } })

-- what a row gained; on top of what it was, it is what the row is
abbrev gains : List ℕ → List ℕ → List ℕ
gains was is = (get_or is 0 0 - get_or was 0 0) ∷ (get_or is 1 0 - get_or was 1 0) ∷ (get_or is 2 0 - get_or was 2 0) ∷ []

less-and-more : (n m : ℕ) → m ≤ n → n ≡ (n - m) + m
less-and-more n m h = omega arith

regained : (was is : List ℕ) → length is ≡ 3 → ((i : ℕ) → i < 3 → get_or was i 0 ≤ get_or is i 0) → is ≡ sums (gains was is) was
unfolding sums
regained was is h g =
    three 0 is h
    ∙ (λ i.
    less-and-more (get_or is 0 0) (get_or was 0 0) (g 0 (lit< tt)) i
    ∷ less-and-more (get_or is 1 0) (get_or was 1 0) (g 1 (lit< tt)) i
    ∷ less-and-more (get_or is 2 0) (get_or was 2 0) (g 2 (lit< tt)) i
    ∷ [])

-- the record is what it was p clocks ago
module _ (was now : Ran) (p : ℕ) (now-whole : Whole now.report) (present : now ≡ iterate p clock_of was) (back : now.device ≡ was.device) where
  pub gained : (w : Row) (i : ℕ) → i < 3 → (at w i was ≤ at w i now) × (at w i now - at w i was ≤ p)
  gained w i h =
      let e = ap (at w i) present in
      (omega (arith, e, rises w i p was h), omega (arith, e, at_most w i p was))

  abbrev gain : Report
  gain = record { terminals = gains was.report.terminals now.report.terminals; lost = gains was.report.lost now.report.lost }

  anchored : now ≡ on_top gain was
  unfolding reports_added
  anchored =
      let ts = regained was.report.terminals now.report.terminals now-whole.terminals (λ i h. (gained the_terminals i h).0) in
      let ls = regained was.report.lost now.report.lost now-whole.lost (λ i h. (gained the_lost i h).0) in
      λ k. record { device = back k; report = record { terminals = ts k; lost = ls k } }

  a-round : iterate p clock_of now ≡ on_top gain now
  a-round = ap (iterate p clock_of) anchored ∙ clocks-add gain p was ∙ ap (on_top gain) (sym present)

  -- where q rounds and r clocks from now end
  pub whole : (q r : ℕ)
      → iterate (q * p + r) clock_of now ≡ iterate r clock_of (record { device = now.device; report = report_after q was.report now.report })
  whole q r =
      iterate-add (q * p) r clock_of now
      ∙ ap (iterate r clock_of) (only-rounds clock_of (on_top gain) (clock-on-top gain) p now a-round q ∙ tops q gain now now-whole)
