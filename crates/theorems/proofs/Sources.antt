-- A counter's source after n terminals and one more, or none: what it becomes, and whether that one is lost. Of any source, sound or not.
-- Assumes nothing.
use Prim.Native.Nat.{ℕ, zero, suc, ◌+◌, ◌-◌, ◌≤◌}
use mathlib.Core.Path.{◌≡◌, refl, sym, ap, ◌∙◌}
use mathlib.Core.Bool.{Bool, true, false}
use native.Mathlib.Nat.{add-zero}
use native.Mathlib.Omega.{arith}
use borrow.Author.Tests.{ne_eqb}
use Rattle.rules.specs.declared.Source.{Source}
use Rattle.basics.specs.Byte.{num}
use Rattle.rules.specs.Interrupts.{fate_of, was_lost}
use Rattle.theorems.specs.Free.{free_places, lost_after}
use Rattle.theorems.specs.Alone.{left_by, struck_by, source_after}

abbrev struck : Source → Source
struck = struck_by true true

-- two terminals or more leave the same
twice-after : (s : Source) (n : ℕ) → 2 ≤ n → source_after s n ≡ struck (struck s)
unfolding source_after
twice-after s n h = simp (ne_eqb n 0 (λ e. omega arith), ne_eqb n 1 (λ e. omega arith))

-- ---- by what is set: IP, ERR, the hidden error
module _ (u i : Bool) where
  abbrev source : Bool → Bool → Bool → Source
  source p e h = record { ius = u; ie = i; ip = p; err = e; hidden = h }

  settled-by : (p e h : Bool) → struck (struck (struck (source p e h))) ≡ struck (struck (source p e h))
  unfolding struck_by fate_of left_by
  settled-by false false false = refl
  settled-by false false true = refl
  settled-by false true h = refl
  settled-by true false false = refl
  settled-by true false true = refl
  settled-by true true h = refl

  -- which of the first terminals is lost
  record Fates (s : Source) : Type 0 where
    one : num (was_lost (fate_of true true s)) ≡ 1 - free_places s
    two : num (was_lost (fate_of true true (struck s))) ≡ (2 - free_places s) - (1 - free_places s)
    three : num (was_lost (fate_of true true (struck (struck s)))) ≡ 1
    places : free_places s ≤ 2

  fates-by : (p e h : Bool) → Fates (source p e h)
  unfolding struck_by fate_of left_by was_lost free_places
  fates-by false false false = record { one = refl; two = refl; three = refl; places = omega arith }
  fates-by false false true = record { one = refl; two = refl; three = refl; places = omega arith }
  fates-by false true h = record { one = refl; two = refl; three = refl; places = omega arith }
  fates-by true false false = record { one = refl; two = refl; three = refl; places = omega arith }
  fates-by true false true = record { one = refl; two = refl; three = refl; places = omega arith }
  fates-by true true h = record { one = refl; two = refl; three = refl; places = omega arith }

module _ (s : Source) where
  settled : struck (struck (struck s)) ≡ struck (struck s)
  settled = settled-by s.ius s.ie s.ip s.err s.hidden

  fates : Fates s.ius s.ie s
  fates = fates-by s.ius s.ie s.ip s.err s.hidden

-- ---- the laws
pub source_more : (s : Source) (n : ℕ) (t : Bool) → source_after s (n + num t) ≡ left_by (fate_of true t (source_after s n)) (source_after s n)
unfolding left_by fate_of struck_by source_after
source_more s n false = ap (source_after s) (add-zero n)
source_more s zero true = refl
source_more s (suc zero) true = refl
source_more s (suc (suc n)) true =
    twice-after s (suc (suc n) + 1) (omega arith) ∙ sym (settled s) ∙ ap struck (sym (twice-after s (suc (suc n)) (omega arith)))

pub lost-more : (s : Source) (n : ℕ) (t : Bool) → lost_after s (n + num t) ≡ lost_after s n + num (was_lost (fate_of true t (source_after s n)))
unfolding was_lost fate_of lost_after source_after
lost-more s n false = omega arith
lost-more s zero true = omega (arith, (fates s).one)
lost-more s (suc zero) true = omega (arith, (fates s).two)
lost-more s (suc (suc n)) true =
    let e = ap (λ (r : Source). num (was_lost (fate_of true true r))) (twice-after s (suc (suc n)) (omega arith)) ∙ (fates s).three in
    omega (arith, e, (fates s).places)
