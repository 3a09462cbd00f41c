-- W-201, "T n is measured as n times T 1": a T is measured as T's of as many clocks, one after the other, however it is cut.
-- Assumes nothing.
use Rattle.std.proofs.Common.{◌≡◌, ℕ, zero, suc, ◌+◌, ◌≤◌, Bool, true, false, List, [], ◌∷◌, replicate, sym, refl, ap, ◌∙◌, ap₂, arith, le-ltb}
use mathlib.Core.Bool.{So}
use Rattle.basics.specs.Runs.{record_through}
use Rattle.basics.proofs.Tests.{left, right, so-not}
use Rattle.rules.specs.declared.Device.{Device}
use Rattle.rules.specs.declared.Event.{Event}
use Rattle.rules.specs.declared.Ran.{Ran}
use Rattle.rules.specs.Interrupts.{lines_of, relined}
use Rattle.rules.specs.Sound.{sound_of}
use Rattle.rules.specs.Step.{ran_of}
use Rattle.rules.specs.Events.{is_t}
use Rattle.theorems.specs.Ticks.{tick, only_t, all_clocks}
use Rattle.theorems.proofs.Soundness.{ran-relined}
use Rattle.theorems.proofs.Stored.{relined-blind, sound-relined, ran-blind}
use Rattle.theorems.proofs.Reports.{ran-none}
use Rattle.theorems.proofs.Refusals.{code-9}
use Rattle.measure.specs.declared.Measure.{Measure}
use Rattle.measure.specs.declared.Measured.{Measured}
use Rattle.measure.specs.Measure.{ticked, most_clocks, measure_of, measured_of}
use Rattle.measure.proofs.Ticked.{ticked-clocks, ticked-cut, ticked-blind, cut-device}
use Rattle.measure.proofs.Calls.{refused-device, ticks-device}
use Rattle.measure.proofs.Measuring.{sound-tick}
use Rattle.measure.proofs.Traces.{after}

-- one T, within the limit: the measure and the record after its clocks; and in a record that is not sound
abbrev both : Measured → Measure × Device
both r = (r.measure, r.device)

abbrev both_after : ℕ → Measure → Device → Measure × Device
both_after n m d = (ticked n d m, relined (ran_of n d).device)

module _ (m : Measure) (d : Device) (e : Event) (t : So (is_t e)) where
  tick-both : sound_of d ≡ true → m.clocks + e.a ≤ most_clocks → both (measured_of m d e) ≡ both_after e.a m d
  unfolding measured_of measure_of
  tick-both s c =
      let z = sound-tick d e s t in
      simp (z, le-ltb most_clocks (m.clocks + e.a) c, t, ticks-device d e z t)

  tick-none : sound_of d ≡ false → both (measured_of m d e) ≡ (m, d)
  unfolding measured_of
  tick-none s =
      let n = (code-9 d e).1 (so-not s) in
      simp (n, refused-device d e (λ z. omega (arith, sym n ∙ z)))

-- ---- any T's, one after the other: the clocks of one do not look at the lines that the one before worked out
blind : (m : Measure) (d : Device) (n : ℕ) → both_after n m (relined d) ≡ both_after n m d
unfolding relined
blind m d n =
    let l = lines_of d in
    ap₂ (λ (m : Measure) (d : Device). (m, d)) (ticked-blind l d m n)
    (ap (λ (s : Ran). relined s.device) (ran-blind l n d) ∙ relined-blind (ran_of n d).device l)

all_sound : (m : Measure) (d : Device) (l : List Event) → So (only_t l) → sound_of d ≡ true → m.clocks + all_clocks l ≤ most_clocks
    → after m d l ≡ both_after (all_clocks l) m d
unfolding only_t all_clocks ticked record_through
all_sound m d [] h s c = ap (λ (e : Device). (m, e)) (sym (ap (λ (r : Ran). relined r.device) (ran-none d) ∙ sound-relined d s))
all_sound m d (f ∷ l) h s c =
    let r = measured_of m d f in
    let n = f.a in
    let m' = ticked n d m in
    let d' = (ran_of n d).device in
    let c' = ticked-clocks d m n in
    ap (λ (p : Measure × Device). after p.0 p.1 l) (tick-both m d f (left (is_t f) (only_t l) h) s (omega arith))
    ∙ all_sound m' (relined d') l (right (is_t f) (only_t l) h) (ran-relined n d s) (omega (arith, c'))
    ∙ blind m' d' (all_clocks l)
    ∙ ap₂ (λ (m : Measure) (d : Device). (m, d)) (sym (ticked-cut d m n (all_clocks l))) (ap relined (sym (cut-device d n (all_clocks l))))

all-unsound : (m : Measure) (d : Device) (l : List Event) → So (only_t l) → sound_of d ≡ false → after m d l ≡ (m, d)
unfolding only_t record_through
all-unsound m d [] h s = refl
all-unsound m d (f ∷ l) h s =
    ap (λ (p : Measure × Device). after p.0 p.1 l) (tick-none m d f (left (is_t f) (only_t l) h) s)
    ∙ all-unsound m d l (right (is_t f) (only_t l) h) s

cut_by_lem : (v : Bool) (m : Measure) (d : Device) (e : Event) (l : List Event) → sound_of d ≡ v → So (is_t e) → So (only_t l) → e.a ≡ all_clocks l
    → m.clocks + e.a ≤ most_clocks → both (measured_of m d e) ≡ after m d l
cut_by_lem true m d e l s t h q c =
    tick-both m d e t s c ∙ ap (λ (n : ℕ). both_after n m d) q ∙ sym (all_sound m d l h s (omega arith))
cut_by_lem false m d e l s t h q c = tick-none m d e t s ∙ sym (all-unsound m d l h s)

-- within the limit: the measure and the record (their answers are the event call's, and demand 3 adds these up)
pub cut : (m : Measure) (d : Device) (e : Event) (l : List Event) → So (is_t e) → So (only_t l) → e.a ≡ all_clocks l
    → m.clocks + e.a ≤ most_clocks → ((measured_of m d e).measure, (measured_of m d e).device) ≡ after m d l
cut m d e l = cut_by_lem _ m d e l refl

-- ---- T n is n times T 1
ones-only : (n : ℕ) → So (only_t (replicate n (tick 1)))
unfolding only_t
ones-only zero = refl
ones-only (suc n) = ones-only n

ones-clocks : (n : ℕ) → n ≡ all_clocks (replicate n (tick 1))
unfolding all_clocks
ones-clocks zero = refl
ones-clocks (suc n) = omega (arith, ones-clocks n)

pub many : (m : Measure) (d : Device) (n : ℕ) → m.clocks + n ≤ most_clocks
    → ((measured_of m d (tick n)).measure, (measured_of m d (tick n)).device) ≡ after m d (replicate n (tick 1))
many m d n = cut m d (tick n) (replicate n (tick 1)) refl (ones-only n) (ones-clocks n)
