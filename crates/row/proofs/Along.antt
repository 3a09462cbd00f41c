-- The pass that acts, along a row that is done up to the place i: what is still to come of it.
--     later-pass, later-row    what the pass and the row will be, from the row zs as it stands and the pass t, where the elements before i are done
--     pass_step, row_step      a turn at i takes it on to the next place
--     pass-end, row-end        at the end nothing is to come
-- Assumes nothing.
use mathlib.Core.Path.{◌≡◌, refl, ap}
use Prim.Native.Nat.{ℕ, zero, suc, ◌≤◌, ◌<◌}
use native.Mathlib.Nat.{le_of_suc-le-suc, not-suc-le-zero}
use mathlib.Core.List.{List, [], ◌∷◌}
use lib.ListN.{length, get_or, set}
use Rattle.rules.specs.declared.Device.{Device}
use Rattle.row_visit.specs.declared.Pass.{Pass}
use Rattle.row_visit.specs.Visits.{acted_of}
use Rattle.row.specs.Passes.{pass_along, row_along}

abbrev pub later-pass : ℕ → List Device → Pass → Pass
later-pass zero zs t = pass_along zs t
later-pass (suc i) [] t = t
later-pass (suc i) (z ∷ zs) t = later-pass i zs t

abbrev pub later-row : ℕ → List Device → Pass → List Device
later-row zero zs t = row_along zs t
later-row (suc i) [] t = []
later-row (suc i) (z ∷ zs) t = z ∷ later-row i zs t

pub pass_step : (i : ℕ) (zs : List Device) (t : Pass) (d : Device) → i < length zs
    → later-pass (suc i) (set zs i (acted_of (get_or zs i d) t).device) (acted_of (get_or zs i d) t).pass ≡ later-pass i zs t
pass_step i [] t d l = absurd (not-suc-le-zero l)
pass_step zero (z ∷ zs) t d l = refl
pass_step (suc i) (z ∷ zs) t d l = pass_step i zs t d (le_of_suc-le-suc l)

pub row_step : (i : ℕ) (zs : List Device) (t : Pass) (d : Device) → i < length zs
    → later-row (suc i) (set zs i (acted_of (get_or zs i d) t).device) (acted_of (get_or zs i d) t).pass ≡ later-row i zs t
row_step i [] t d l = absurd (not-suc-le-zero l)
row_step zero (z ∷ zs) t d l = refl
row_step (suc i) (z ∷ zs) t d l = ap {B = List Device} (λ ws. z ∷ ws) (row_step i zs t d (le_of_suc-le-suc l))

pub pass-end : (i : ℕ) (zs : List Device) (t : Pass) → length zs ≤ i → later-pass i zs t ≡ t
pass-end zero [] t l = refl
pass-end zero (z ∷ zs) t l = absurd (not-suc-le-zero l)
pass-end (suc i) [] t l = refl
pass-end (suc i) (z ∷ zs) t l = pass-end i zs t (le_of_suc-le-suc l)

pub row-end : (i : ℕ) (zs : List Device) (t : Pass) → length zs ≤ i → later-row i zs t ≡ zs
row-end zero [] t l = refl
row-end zero (z ∷ zs) t l = absurd (not-suc-le-zero l)
row-end (suc i) [] t l = refl
row-end (suc i) (z ∷ zs) t l = ap {B = List Device} (λ ws. z ∷ ws) (row-end i zs t (le_of_suc-le-suc l))
