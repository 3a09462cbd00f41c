-- of each byte
use Prim.Native.Nat.{ℕ, ◌-◌, ◌≤◌, ◌<◌}
use mathlib.Core.Path.{◌≡◌}
use lib.Bits.{bit_or}
use lib.Count.{count_leading_zeros}
use lib.Dec.{eqb, leb, eqb→eq, leb→le}
use borrow.Author.Rules.{rules}
use Rattle.basics.specs.Byte.{bit}
use Rattle.basics.proofs.Laws.{below}
use Rattle.rules.specs.Patterns.{highest_of}
use Rattle.ports.proofs.highest_bit.Goals as goal

at-most : (b : ℕ) → b < 256 → count_leading_zeros 8 (bit_or b 1) ≤ 7
unfolding count_leading_zeros
at-most b h = leb→le _ _ (below (λ b. leb (count_leading_zeros 8 (bit_or b 1)) 7) 256 tt b h)

is-highest : (b : ℕ) → b < 256 → 7 - count_leading_zeros 8 (bit_or b 1) ≡ highest_of (bit b)
unfolding highest_of count_leading_zeros
is-highest b h = eqb→eq _ _ (below (λ b. eqb (7 - count_leading_zeros 8 (bit_or b 1)) (highest_of (bit b))) 256 tt b h)

pub overflow_sub-result : goal.overflow_sub-result
overflow_sub-result c = at-most _ (search rules)

pub returns : goal.returns
returns c = is-highest _ (search rules)
