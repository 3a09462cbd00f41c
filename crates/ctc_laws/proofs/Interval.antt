-- Document 001: "Consequently, the time interval is the product of" the clock period, the prescaler factor P and the time constant T: a timer
-- that has just started has a zero count at every P times T clocks, with 0 read as 256.
-- Assumes nothing.
use Prim.Native.Nat.{ℕ, ◌+◌, ◌-◌, ◌*◌, ◌/◌, ◌<◌}
use mathlib.Core.Path.{◌≡◌, sym, ap, ap₂, ◌∙◌}
use native.Mathlib.Nat.{zero-add, add_comm, div-eq_of_lt, div-eq-sub-div, div-div-eq-div-mul}
use lib.Dec.{ltb}
use borrow.Author.Tests.{ltb-true, ltb-false}
use Rattle.basics.proofs.Tests.{by-test}
use Rattle.theorems.specs.Free.{full_of, terminals_after}
use Rattle.theorems.proofs.Countdown.{full-pos}
use Rattle.ctc_rules.specs.declared.Channel.{Channel}
use Rattle.ctc_rules.specs.Record.{factor_of}
use Rattle.ctc_laws.specs.Divided.{timer_counts, zeros_in}

-- k counts from a count of t: one zero count at every t
every : (k t : ℕ) → 0 < t → terminals_after t t k ≡ k / t
unfolding terminals_after
every k t h =
    by-test (λ (n : ℕ). n ≡ k / t) (ltb k t) 0 (1 + (k - t) / t) (λ l. sym (div-eq_of_lt (ltb-true k t l)))
    (λ l. sym (div-eq-sub-div h (ltb-false k t l) ∙ add_comm ((k - t) / t) 1))

-- the zero counts of a timer in n clocks after its start
pub interval : (c : Channel) (n : ℕ) → c.prescaler ≡ 0 → c.count ≡ c.constant → c.constant < 256
    → zeros_in c (timer_counts c n) ≡ n / (factor_of c * full_of 256 c.constant)
unfolding zeros_in timer_counts
interval c n p e h =
    let t = full_of 256 c.constant in
    ap₂ (λ (m k : ℕ). terminals_after (full_of 256 m) t (k / factor_of c)) e (ap (λ (k : ℕ). k + n) p ∙ zero-add n)
    ∙ every (n / factor_of c) t (full-pos 256 c.constant h) ∙ div-div-eq-div-mul n (factor_of c) t
