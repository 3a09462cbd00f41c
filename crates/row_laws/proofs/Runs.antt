-- Events of a row one after the other: a list cut anywhere is its first part and then the rest, and what leaves sound devices as they are
-- may be done to each device at every cut.
-- Assumes nothing.
use Prim.Native.Nat.{ℕ, suc}
use mathlib.Core.Path.{◌≡◌, refl}
use mathlib.Core.Bool.{true}
use mathlib.Core.List.{List, [], ◌∷◌, ◌++◌, map, flatten}
use Rattle.basics.proofs.Runs.{cut-answers as general-answers, cut_record as general-record, unseen as general-unseen}
use Rattle.rules.specs.declared.Device.{Device}
use Rattle.rules.specs.Record.{Shaped}
use Rattle.rules.specs.Sound.{sound_of}
use Rattle.rows.specs.declared.RowEvent.{RowEvent}
use Rattle.rows.specs.Rows.{row_sound, row_answer, row_after}
use Rattle.rows.specs.Runs.{row_answers, row_through, row_run, row_cut}
use Rattle.row_laws.specs.Desk.{device_at, RowShaped}
use Rattle.row_laws.proofs.Along.{places}
use Rattle.row_laws.proofs.Soundness.{GoodRow, row-good}

-- ---- cut anywhere
pub cut-answers : (ds : List Device) (l m : List RowEvent) → row_answers ds (l ++ m) ≡ row_answers ds l ++ row_answers (row_through ds l) m
cut-answers = general-answers row_after row_answer

pub cut-row : (ds : List Device) (l m : List RowEvent) → row_through ds (l ++ m) ≡ row_through (row_through ds l) m
cut-row = general-record row_after

-- ---- what leaves each sound device of its shape as it is leaves a sound row of them as it is
module _ (f : Device → Device) (leaves : (d : Device) → Shaped d → sound_of d ≡ true → f d ≡ d) where
  leaves-each : (ds : List Device) → RowShaped ds → ((i : ℕ) → sound_of (device_at ds i) ≡ true) → map f ds ≡ ds
  leaves-each [] h s = refl
  leaves-each (d ∷ ds) h s = λ j. leaves d (h 0) (s 0) j ∷ leaves-each ds (λ i. h (suc i)) (λ i. s (suc i)) j

  pub leaves-row : (ds : List Device) → RowShaped ds → row_sound ds ≡ true → map f ds ≡ ds
  leaves-row ds h s = leaves-each ds h (places ds s).sound

  -- so it is not seen, at whatever cuts it is done
  pub unseen : (ds : List Device) (l : List RowEvent) (ls : List (List RowEvent)) → RowShaped ds → row_sound ds ≡ true
      → row_cut (map f) ds l ls ≡ row_run ds (flatten (l ∷ ls))
  unseen ds l ls h s = general-unseen row_after row_answer GoodRow row-good (map f) (λ ds g. leaves-row ds g.0 g.1) ds l ls (h, s)
