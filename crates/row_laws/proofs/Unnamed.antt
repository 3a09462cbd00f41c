-- Paper 02, W-212: "At W, R, P and X every device but the named one keeps its bytes, its IEI and stored lines excepted." Of any row; and so
-- every device that an event does not reach.
-- Assumes nothing.
use Prim.Native.Nat.{ℕ, zero, suc, ◌≤◌, ◌<◌}
use mathlib.Core.Path.{◌≡◌, refl, sym, subst, ◌∙◌}
use mathlib.Core.Bool.{Bool, true, false}
use mathlib.Core.List.{List}
use native.Mathlib.Omega.{arith}
use lib.Dec.{ltb}
use lib.ListN.{length, get_or-eq_default}
use borrow.Author.Tests.{ne_eqb, ltb-true, ltb-false}
use Rattle.rules.specs.declared.Device.{Device}
use Rattle.rules.specs.declared.Event.{Event}
use Rattle.rules.specs.With.{with_iei, with_lines}
use Rattle.rules.specs.Record.{fresh_of}
use Rattle.rules.specs.Interrupts.{relined}
use Rattle.rows.specs.declared.RowEvent.{RowEvent}
use Rattle.rows.specs.Rows.{names, reaches, row_code, iei_from, reached_by, part_of, row_after}
use Rattle.row_laws.specs.Desk.{Board, device_at}
use Rattle.row_laws.proofs.Whom.{named}
use Rattle.row_laws.proofs.Fall.{earlier-kept}
use Rattle.row_laws.proofs.After.{ieo_before, refused, either, after-at, length-kept}

-- the same device but for IEI and the stored lines
abbrev pub Kept : Device → Device → Type 0
Kept d x = x ≡ with_lines (with_iei d x.iei) x.lines

part-keeps : (e : Event) (i : ℕ) (high : Bool) (d : Device) → Kept d (part_of false e i high d).device
unfolding part_of reached_by iei_from relined
part-keeps e zero high d = refl
part-keeps e (suc i) high d = refl

module _ (ds : List Device) (e : RowEvent) (j : ℕ) where
  accepted-keeps : (v : Bool) → row_code ds e ≡ 0 → ltb j (length ds) ≡ v → reaches ds e j ≡ false → Kept (device_at ds j) (device_at (row_after ds e) j)
  accepted-keeps true z l r =
      subst (Kept (device_at ds j)) (sym (after-at ds e z j (ltb-true j (length ds) l)))
      (rw r (part-keeps e.event j (ieo_before (row_after ds e) j) (device_at ds j)))
  accepted-keeps false z l r =
      let h = ltb-false j (length ds) l in
      let k : length (row_after ds e) ≤ j = rw (length-kept ds e) h in
      rw (get_or-eq_default ds fresh_of h, get_or-eq_default (row_after ds e) fresh_of k)

  -- a device that the event does not reach
  pub unreached-keeps : reaches ds e j ≡ false → Kept (device_at ds j) (device_at (row_after ds e) j)
  unreached-keeps r =
      either ds e (Kept (device_at ds j) (device_at (row_after ds e) j)) (λ z. accepted-keeps _ z refl r)
      (λ n. subst (λ (l : List Device). Kept (device_at ds j) (device_at l j)) (sym (refused ds e n)) refl)

  -- at W, R, P and X every device but the named one
  pub unnamed-keeps : names e.event ≡ true → (j ≡ e.device → ⊥)
      → device_at (row_after ds e) j ≡ with_lines (with_iei (device_at ds j) (device_at (row_after ds e) j).iei) (device_at (row_after ds e) j).lines
  unnamed-keeps n h = unreached-keeps (named ds e j n ∙ ne_eqb j e.device h)

-- and those before it stay wholly as they are, in a sound row of one to eight
pub earlier-stays : (ds : List Device) (e : RowEvent) (j : ℕ) → Board ds → j < length ds → names e.event ≡ true → j < e.device
    → device_at (row_after ds e) j ≡ device_at ds j
earlier-stays ds e j b h n l = earlier-kept ds e b j h (λ m k. named ds e m n ∙ ne_eqb m e.device (λ q. omega arith))
