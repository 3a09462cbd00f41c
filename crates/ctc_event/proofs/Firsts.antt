-- The first of the four that requests is the first that is pending, where it stands above the first in service.
-- Assumes nothing.
use Rattle.std.proofs.Common.{◌≡◌, ℕ, zero, suc, Bool, true, false, ◌&&◌, ltb, cond, refl, lt-ltb, arith}
use mathlib.Core.Bool.{and-false}
use Rattle.ctc_rules.specs.declared.Ctc.{Ctc}
use Rattle.ctc_rules.specs.Interrupts.{first_test, first_four, pending_at, serving_ctc, requests_at, requester_ctc}

cond-same : (b : Bool) (n : ℕ) → n ≡ cond b n n
cond-same true n = refl
cond-same false n = refl

first_below : (a b c d : Bool) (s : ℕ)
    → first_test (a && ltb 0 s) (b && ltb 1 s) (c && ltb 2 s) (d && ltb 3 s) ≡ cond (ltb (first_test a b c d) s) (first_test a b c d) 4
unfolding first_test
first_below true b c d zero = simp and-false
first_below true b c d (suc s) = simp (lt-ltb 0 (suc s) (omega arith))
first_below false true c d zero = simp and-false
first_below false true c d (suc zero) = simp and-false
first_below false true c d (suc (suc s)) = simp (lt-ltb 1 (suc (suc s)) (omega arith))
first_below false false true d zero = simp and-false
first_below false false true d (suc zero) = simp and-false
first_below false false true d (suc (suc zero)) = simp and-false
first_below false false true d (suc (suc (suc s))) = simp (lt-ltb 2 (suc (suc (suc s))) (omega arith))
first_below false false false true zero = refl
first_below false false false true (suc zero) = refl
first_below false false false true (suc (suc zero)) = refl
first_below false false false true (suc (suc (suc zero))) = refl
first_below false false false true (suc (suc (suc (suc s)))) = simp (lt-ltb 3 (suc (suc (suc (suc s)))) (omega arith))
first_below false false false false zero = refl
first_below false false false false (suc zero) = refl
first_below false false false false (suc (suc zero)) = refl
first_below false false false false (suc (suc (suc zero))) = refl
first_below false false false false (suc (suc (suc (suc zero)))) = refl
first_below false false false false (suc (suc (suc (suc (suc s))))) = cond-same _ 4

-- none requests while IEI is 0
requests_by : (v a b c d : Bool) (s : ℕ)
    → first_test (v && a && ltb 0 s) (v && b && ltb 1 s) (v && c && ltb 2 s) (v && d && ltb 3 s)
    ≡ cond (v && ltb (first_test a b c d) s) (first_test a b c d) 4
unfolding first_test
requests_by false a b c d s = refl
requests_by true a b c d s = first_below a b c d s

pub requester_by : (d : Ctc) → requester_ctc d ≡ cond (d.iei && ltb (first_four (pending_at d)) (serving_ctc d)) (first_four (pending_at d)) 4
unfolding requester_ctc first_four requests_at
requester_by d = requests_by d.iei (pending_at d 0) (pending_at d 1) (pending_at d 2) (pending_at d 3) (serving_ctc d)
