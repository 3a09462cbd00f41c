-- A row by its places: soundness and the chain of each device, and what an accepted event does to the device at a place.
-- Assumes nothing.
use Prim.Native.Nat.{ℕ, zero, suc, ◌+◌, ◌<◌}
use mathlib.Core.Path.{◌≡◌, refl, sym, ap, ◌∙◌}
use mathlib.Core.Bool.{Bool, true, beq}
use mathlib.Core.List.{List, [], ◌∷◌}
use native.Mathlib.Omega.{arith}
use native.Mathlib.Nat.{add-zero}
use lib.ListN.{get_or, length}
use Rattle.rules.specs.declared.Device.{Device}
use Rattle.rules.specs.declared.Event.{Event}
use Rattle.rules.specs.declared.Effect.{Effect}
use Rattle.rules.specs.Record.{fresh_of}
use Rattle.rules.specs.Sound.{sound_of}
use Rattle.rules.specs.Events.{effect}
use Rattle.basics.proofs.Tests.{so-both, left, right}
use Rattle.theorems.proofs.Equal.{beq-true, beq-refl}
use Rattle.theorems.proofs.Soundness.{fresh-sound}
use Rattle.rows.specs.Rows.{each_sound, chained, row_sound, part_of, along_row}
use Rattle.row_laws.specs.Desk.{device_at}

-- ---- "each device is" sound, place by place; past the end stands the fresh device
pub sound-each : (ds : List Device) → each_sound ds ≡ true → (i : ℕ) → sound_of (device_at ds i) ≡ true
unfolding each_sound
sound-each [] s i = fresh-sound
sound-each (d ∷ ds) s zero = left (sound_of d) (each_sound ds) s
sound-each (d ∷ ds) s (suc i) = sound-each ds (right (sound_of d) (each_sound ds) s) i

pub each-sound : (ds : List Device) → ((i : ℕ) → sound_of (device_at ds i) ≡ true) → each_sound ds ≡ true
unfolding each_sound
each-sound [] h = refl
each-sound (d ∷ ds) h = so-both (h 0) (each-sound ds (λ i. h (suc i)))

-- "A device's IEI is the IEO of the one before", place by place
pub iei-each : (ds : List Device) → chained ds ≡ true → (i : ℕ) → suc i < length ds → (device_at ds (suc i)).iei ≡ (device_at ds i).lines.ieo
unfolding chained
iei-each [] c i h = absurd (omega arith)
iei-each (d ∷ []) c i h = absurd (omega arith)
iei-each (d ∷ e ∷ ds) c zero h = beq-true e.iei d.lines.ieo (left (beq e.iei d.lines.ieo) (chained (e ∷ ds)) c)
iei-each (d ∷ e ∷ ds) c (suc i) h = iei-each (e ∷ ds) (right (beq e.iei d.lines.ieo) (chained (e ∷ ds)) c) i (omega arith)

pub each-iei : (ds : List Device) → ((i : ℕ) → suc i < length ds → (device_at ds (suc i)).iei ≡ (device_at ds i).lines.ieo) → chained ds ≡ true
unfolding chained
each-iei [] h = refl
each-iei (d ∷ []) h = refl
each-iei (d ∷ e ∷ ds) h =
    so-both {a = beq e.iei d.lines.ieo} (rw (h 0 (omega arith)) (beq-refl d.lines.ieo)) (each-iei (e ∷ ds) (λ i l. h (suc i) (omega arith)))

-- a sound row, place by place
pub record Places (ds : List Device) : Type 0 where
  pub sound : (i : ℕ) → sound_of (device_at ds i) ≡ true
  pub iei : (i : ℕ) → suc i < length ds → (device_at ds (suc i)).iei ≡ (device_at ds i).lines.ieo

pub places : (ds : List Device) → row_sound ds ≡ true → Places ds
unfolding row_sound
places ds s = record { sound = sound-each ds (left (each_sound ds) (chained ds) s); iei = iei-each ds (right (each_sound ds) (chained ds) s) }

pub whole : (ds : List Device) → Places ds → row_sound ds ≡ true
unfolding row_sound
whole ds h = so-both (each-sound ds h.sound) (each-iei ds h.iei)

-- ---- along the row
-- past the end
abbrev pub nothing : Effect
nothing = effect fresh_of 0

-- IEO of the one before, after the event; of the first `high`
abbrev pub before : Bool → List Effect → ℕ → Bool
before high l zero = high
before high l (suc k) = (get_or l k nothing).device.lines.ieo

module _ (who : ℕ → Bool) (e : Event) where
  pub along-length : (i : ℕ) (high : Bool) (ds : List Device) → length (along_row who e i high ds) ≡ length ds
  unfolding along_row
  along-length i high [] = refl
  along-length i high (d ∷ ds) = ap suc (along-length (suc i) _ ds)

  one_on : (high : Bool) (r : Effect) (l : List Effect) (k : ℕ) → before r.device.lines.ieo l k ≡ before high (r ∷ l) (suc k)
  one_on high r l zero = refl
  one_on high r l (suc k) = refl

  -- the effect at a place is that of its device, with the IEO of the one before
  pub along-at : (i : ℕ) (high : Bool) (ds : List Device) (k : ℕ) → k < length ds
      → get_or (along_row who e i high ds) k nothing ≡ part_of (who (i + k)) e (i + k) (before high (along_row who e i high ds) k) (device_at ds k)
  unfolding along_row
  along-at i high [] k h = absurd (omega arith)
  along-at i high (d ∷ ds) zero h = ap (λ (n : ℕ). part_of (who n) e n high d) (sym (add-zero i))
  along-at i high (d ∷ ds) (suc k) h =
      let r = part_of (who i) e i high d in
      let l = along_row who e (suc i) r.device.lines.ieo ds in
      let n : suc i + k ≡ i + suc k = omega arith in
      along-at (suc i) r.device.lines.ieo ds k (omega arith)
      ∙ ap (λ (b : Bool). part_of (who (suc i + k)) e (suc i + k) b (device_at ds k)) (one_on high r l k)
      ∙ ap (λ (n : ℕ). part_of (who n) e n (before high (r ∷ l) (suc k)) (device_at ds k)) n
