-- Paper 02, W-212: every event takes a sound row to a sound row, from a row of fresh devices on. The arrays of each device have the lengths
-- that the struct gives them, and every event keeps them.
-- Assumes nothing.
use Prim.Native.Nat.{ℕ, zero, suc, ◌≤◌, ◌<◌}
use mathlib.Core.Path.{◌≡◌, refl, sym, subst, ap, ◌∙◌}
use mathlib.Core.Bool.{Bool, true, false, ◌||◌, true≢false, and-false}
use mathlib.Core.List.{List}
use native.Mathlib.Omega.{arith}
use lib.Dec.{eqb, ltb}
use lib.ListN.{length, replicate, length-replicate, get_or-eq_default}
use borrow.Author.Tests.{ltb-true, ltb-false, le-ltb, ne_eqb}
use Rattle.basics.specs.Byte.{num}
use Rattle.rules.specs.declared.Device.{Device}
use Rattle.rules.specs.declared.Event.{Event}
use Rattle.rules.specs.With.{with_iei}
use Rattle.rules.specs.Record.{Shaped, fresh_of}
use Rattle.rules.specs.Interrupts.{relined}
use Rattle.rules.specs.Sound.{sound_of}
use Rattle.rules.specs.Events.{unknown, no_register, too_large, held, no_byte, no_room, code_of, iei_effect, effect_of, relit, outcome_of, event_of}
use Rattle.basics.proofs.Tests.{so-both, not_so}
use Rattle.basics.proofs.Runs.{list-kept}
use Rattle.theorems.specs.Used.{of}
use Rattle.theorems.proofs.Soundness.{Good, event-good, fresh-sound as fresh-device}
use Rattle.theorems.proofs.Shapes.{fresh-shaped, event-shaped, relined-shaped}
use Rattle.rows.specs.declared.RowEvent.{RowEvent}
use Rattle.rows.specs.Rows.{each_sound, chained, row_sound, misfits, row_code, iei_from, reached_by, part_of, reaches, row_answer, row_after}
use Rattle.rows.specs.Runs.{row_through}
use Rattle.row_laws.specs.Desk.{Board, device_at, RowShaped}
use Rattle.row_laws.proofs.Along.{places, whole}
use Rattle.row_laws.proofs.After.{ieo_before, refused, either, after-at, length-kept}
use Rattle.row_laws.proofs.Refusals.{code_is, code-9}

-- ---- IEI that comes from the one before comes as by E
pub joined_is : (high : Bool) (d : Device) → sound_of d ≡ true → iei_from high d ≡ (event_of d (of 6 (num high) 0 0)).device
unfolding iei_from event_of code_of unknown no_register too_large held no_byte no_room effect_of iei_effect relit outcome_of
joined_is true d s = simp (s, and-false)
joined_is false d s = simp (s, and-false)

joined-good : (high : Bool) (d : Device) → Good d → Good (iei_from high d)
joined-good high d g = subst Good (sym (joined_is high d g.1)) (event-good d (of 6 (num high) 0 0) g)

joined-shaped : (high : Bool) (d : Device) → Shaped d → Shaped (iei_from high d)
unfolding iei_from
joined-shaped high d h =
    relined-shaped (with_iei d high)
    (record { vectors = h.vectors; ports = h.ports; patterns = h.patterns; transfers = h.transfers; counters = h.counters; sources = h.sources })

-- ---- what an event of a device keeps, and IEI from the one before, an event of a row keeps
module _ (P : Device → Type 0) (fresh : P fresh_of) (event : (d : Device) (e : Event) → P d → P (event_of d e).device)
    (join : (high : Bool) (d : Device) → P d → P (iei_from high d)) where
  reached-kept : (does : Bool) (e : Event) (d : Device) → P d → P (reached_by does e d).device
  unfolding reached_by
  reached-kept true e d h = event d e h
  reached-kept false e d h = h

  part-kept : (does : Bool) (e : Event) (i : ℕ) (high : Bool) (d : Device) → P d → P (part_of does e i high d).device
  unfolding part_of
  part-kept does e zero high d h = reached-kept does e d h
  part-kept does e (suc i) high d h = join high (reached_by does e d).device (reached-kept does e d h)

  past_end_lem : (ds : List Device) (i : ℕ) → length ds ≤ i → P (device_at ds i)
  past_end_lem ds i h = subst P (sym (get_or-eq_default ds fresh_of h)) fresh

  at_place : (v : Bool) (ds : List Device) (e : RowEvent) (i : ℕ) → row_code ds e ≡ 0 → ltb i (length ds) ≡ v
      → ((i : ℕ) → P (device_at ds i)) → P (device_at (row_after ds e) i)
  at_place true ds e i z l h =
      subst P (sym (after-at ds e z i (ltb-true i (length ds) l)))
      (part-kept (reaches ds e i) e.event i (ieo_before (row_after ds e) i) (device_at ds i) (h i))
  at_place false ds e i z l h = past_end_lem (row_after ds e) i (rw (length-kept ds e) (ltb-false i (length ds) l))

  pub each-kept : (ds : List Device) (e : RowEvent) → ((i : ℕ) → P (device_at ds i)) → (i : ℕ) → P (device_at (row_after ds e) i)
  each-kept ds e h i =
      either ds e (P (device_at (row_after ds e) i)) (λ z. at_place _ ds e i z refl h)
      (λ n. subst (λ (l : List Device). P (device_at l i)) (sym (refused ds e n)) (h i))

-- ---- of a sound device of its shape
pub reached-good : (does : Bool) (e : Event) (d : Device) → Good d → Good (reached_by does e d).device
reached-good = reached-kept Good (fresh-shaped, fresh-device) event-good joined-good

-- ---- the lengths
pub row-shaped : (ds : List Device) (e : RowEvent) → RowShaped ds → RowShaped (row_after ds e)
row-shaped = each-kept Shaped fresh-shaped (λ d e h. event-shaped d h e) joined-shaped

-- ---- the chain
pub chain-kept : (ds : List Device) (e : RowEvent) → row_sound ds ≡ true → (i : ℕ) → suc i < length (row_after ds e)
    → (device_at (row_after ds e) (suc i)).iei ≡ (device_at (row_after ds e) i).lines.ieo
unfolding part_of iei_from relined
chain-kept ds e s i h =
    let l : suc i < length ds = rw (length-kept ds e) at h in
    either ds e ((device_at (row_after ds e) (suc i)).iei ≡ (device_at (row_after ds e) i).lines.ieo)
    (λ z. ap (λ (d : Device). d.iei) (after-at ds e z (suc i) l))
    (λ n. rw (refused ds e n) ((places ds s).iei i l))

-- ---- every event takes a sound row to a sound row
pub row-sound : (ds : List Device) (e : RowEvent) → RowShaped ds → row_sound ds ≡ true → row_sound (row_after ds e) ≡ true
row-sound ds e h s =
    let good = each-kept Good (fresh-shaped, fresh-device) event-good joined-good ds e (λ i. (h i, (places ds s).sound i)) in
    whole (row_after ds e) (record { sound = λ i. (good i).1; iei = chain-kept ds e s })

-- and so does every list of events
abbrev pub GoodRow : List Device → Type 0
GoodRow ds = RowShaped ds × (row_sound ds ≡ true)

pub row-good : (ds : List Device) (e : RowEvent) → GoodRow ds → GoodRow (row_after ds e)
row-good ds e g = (row-shaped ds e g.0, row-sound ds e g.0 g.1)

pub list-shaped : (ds : List Device) (l : List RowEvent) → RowShaped ds → RowShaped (row_through ds l)
list-shaped = list-kept row_after RowShaped row-shaped

pub list-sound : (ds : List Device) (l : List RowEvent) → RowShaped ds → row_sound ds ≡ true → row_sound (row_through ds l) ≡ true
list-sound ds l h s = (list-kept row_after GoodRow row-good ds l (h, s)).1

-- ---- a sound row of one to eight stays one
pub board-kept : (ds : List Device) (e : RowEvent) → RowShaped ds → Board ds → Board (row_after ds e)
unfolding misfits
board-kept ds e h b =
    record { sound = row-sound ds e h b.sound; size = ap (λ (n : ℕ). eqb n 0 || ltb 8 n) (length-kept ds e) ∙ b.size }

-- ---- a row of n fresh devices is sound
fresh-each : (n : ℕ) → each_sound (replicate n fresh_of) ≡ true
unfolding each_sound
fresh-each zero = refl
fresh-each (suc n) = so-both fresh-device (fresh-each n)

fresh-chained : (n : ℕ) → chained (replicate n fresh_of) ≡ true
unfolding chained
fresh-chained zero = refl
fresh-chained (suc zero) = refl
fresh-chained (suc (suc n)) = fresh-chained (suc n)

pub fresh-sound : (n : ℕ) → row_sound (replicate n fresh_of) ≡ true
unfolding row_sound
fresh-sound n = so-both (fresh-each n) (fresh-chained n)

pub fresh-row-shaped : (n : ℕ) → RowShaped (replicate n fresh_of)
fresh-row-shaped zero i = fresh-shaped
fresh-row-shaped (suc n) zero = fresh-shaped
fresh-row-shaped (suc n) (suc i) = fresh-row-shaped n i

-- and from one to eight of them are a sound row of one to eight
pub fresh-board : (n : ℕ) → 0 < n → n ≤ 8 → Board (replicate n fresh_of)
unfolding misfits
fresh-board n h l =
    record {
      sound = fresh-sound n;
      size = simp (length-replicate n fresh_of, ne_eqb n 0 (λ q. omega arith), le-ltb 8 n l);
    }

-- so from it no event comes to code 9
pub never-unsound : (n : ℕ) (l : List RowEvent) (e : RowEvent) → (row_answer (row_through (replicate n fresh_of) l) e).code ≡ 9 → ⊥
never-unsound n l e q =
    let ds = row_through (replicate n fresh_of) l in
    true≢false (sym (list-sound (replicate n fresh_of) l (fresh-row-shaped n) (fresh-sound n)) ∙ not_so (row_sound ds) ((code-9 ds e).0 (sym (code_is ds e) ∙ q)))
