-- The row after an event, place by place: as it was where the event is refused; else by each device's own effect and the IEO of the one
-- before.
-- Assumes nothing.
use Prim.Native.Nat.{ℕ, zero, suc, ◌<◌}
use mathlib.Core.Path.{◌≡◌, refl, sym, ap, ◌∙◌}
use mathlib.Core.Bool.{Bool, true, false}
use mathlib.Core.List.{List, map}
use native.Mathlib.Nat.{zero-add}
use lib.Dec.{eqb}
use lib.ListN.{get_or, length, length-map, get_or-map}
use borrow.Author.Tests.{eqb-true, eqb-false, eq-eqb, ne_eqb}
use Rattle.rules.specs.declared.Device.{Device}
use Rattle.rules.specs.declared.Effect.{Effect}
use Rattle.rows.specs.declared.RowEvent.{RowEvent}
use Rattle.rows.specs.Rows.{row_code, part_of, reaches, row_effects, row_after}
use Rattle.row_laws.specs.Desk.{device_at}
use Rattle.row_laws.proofs.Along.{nothing, before, along-length, along-at}

-- IEO of the device before; before the first there is none
abbrev pub ieo_before : List Device → ℕ → Bool
ieo_before ds zero = true
ieo_before ds (suc i) = (device_at ds i).lines.ieo

module _ (ds : List Device) (e : RowEvent) where
  -- a refused event changes nothing
  pub refused : (row_code ds e ≡ 0 → ⊥) → row_after ds e ≡ ds
  unfolding row_after
  refused n = simp (ne_eqb (row_code ds e) 0 n)

  -- refused or accepted
  by_code : (P : Type 0) (v : Bool) → eqb (row_code ds e) 0 ≡ v → (row_code ds e ≡ 0 → P) → ((row_code ds e ≡ 0 → ⊥) → P) → P
  by_code P true z f g = f (eqb-true (row_code ds e) 0 z)
  by_code P false z f g = g (eqb-false (row_code ds e) 0 z)

  pub either : (P : Type 0) → (row_code ds e ≡ 0 → P) → ((row_code ds e ≡ 0 → ⊥) → P) → P
  either P f g = by_code P _ refl f g

  pub effects-length : length (row_effects ds e) ≡ length ds
  unfolding row_effects
  effects-length = along-length _ _ 0 true ds

  module _ (z : row_code ds e ≡ 0) where
    pub accepted : row_after ds e ≡ map (λ r. r.device) (row_effects ds e)
    unfolding row_after
    accepted = simp (eq-eqb (row_code ds e) 0 z)

    pub device-at : (i : ℕ) → device_at (row_after ds e) i ≡ (get_or (row_effects ds e) i nothing).device
    device-at i = ap (λ (l : List Device). device_at l i) accepted ∙ get_or-map (λ (r : Effect). r.device) (row_effects ds e) i nothing

    ieo-at : (i : ℕ) → before true (row_effects ds e) i ≡ ieo_before (row_after ds e) i
    ieo-at zero = refl
    ieo-at (suc i) = ap (λ (d : Device). d.lines.ieo) (sym (device-at i))

    pub effect-at : (i : ℕ) → i < length ds
        → get_or (row_effects ds e) i nothing ≡ part_of (reaches ds e i) e.event i (ieo_before (row_after ds e) i) (device_at ds i)
    unfolding row_effects
    effect-at i h =
        along-at (reaches ds e) e.event 0 true ds i h
        ∙ ap (λ (n : ℕ). part_of (reaches ds e n) e.event n (before true (row_effects ds e) i) (device_at ds i)) (zero-add i)
        ∙ ap (λ (b : Bool). part_of (reaches ds e i) e.event i b (device_at ds i)) (ieo-at i)

    pub after-at : (i : ℕ) → i < length ds
        → device_at (row_after ds e) i ≡ (part_of (reaches ds e i) e.event i (ieo_before (row_after ds e) i) (device_at ds i)).device
    after-at i h = device-at i ∙ ap (λ (r : Effect). r.device) (effect-at i h)

  -- a row stays as long as it is
  pub length-kept : length (row_after ds e) ≡ length ds
  length-kept =
      either (length (row_after ds e) ≡ length ds) (λ z. ap length (accepted z) ∙ length-map (row_effects ds e) (λ (r : Effect). r.device) ∙ effects-length)
      (λ n. ap length (refused n))
