use Rattle.std.proofs.Common.{ℕ, List, ◌∷◌, [], ◌++◌, ◌≡◌, map}
use native.Mathlib.Omega.{arith}
use Rattle.rules.specs.declared.Answer.{Answer}
use Rattle.texts.specs.Answers.{glyph_of}
use Rattle.bench_lines.specs.Walk.{Ended, bit_byte, counts_of, tail_of}
use Rattle.bench_lines.proofs.Walked.{feeds, met-first, met-all}
use Rattle.bench_lines.proofs.agreed.tail.Goals as goal

-- three fields of one byte, and the numbers behind them
as-tail : (a : Answer) (x y z : ℕ) (b : List ℕ) (at r : ℕ) → x ≡ glyph_of a.c → y ≡ bit_byte a.int → z ≡ bit_byte a.ieo
    → Ended (map (λ (d : ℕ). d ∷ []) (x ∷ y ∷ z ∷ []) ++ counts_of a.report.terminals a.report.lost) b at r → Ended (tail_of a) b at r
as-tail a x y z b at r p q s m = rw (← p, ← q, ← s) m

pub returns-then-b-at-lt19 : goal.returns-then-b-at-lt19
returns-then-b-at-lt19 c = feeds _ _

pub returns-then-not-has_one : goal.returns-then-not-has_one
returns-then-not-has_one c =
    as-tail c.args.a _ _ _ _ _ _ c.glyph.ensures c.bit.ensures c.bit-2.ensures
    (met-first (λ (d : ℕ). d ∷ []) _ _ c.loop-d.d-index _ _ _ c.loop-d.invariant.met)

pub returns : goal.returns
returns c =
    as-tail c.args.a _ _ _ _ _ _ c.glyph.ensures c.bit.ensures c.bit-2.ensures
    (met-all (λ (d : ℕ). d ∷ []) _ _ c.loop-d.d-index _ _ _ _ (omega arith) c.loop-d.invariant.met c.counts.ensures)
