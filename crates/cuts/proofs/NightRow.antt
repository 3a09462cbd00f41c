-- Paper 02, W-212: the night of a row is not seen: each device is saved in the evening and restored in the morning.
-- Assumes nothing.
use Prim.Native.Nat.{ℕ}
use mathlib.Core.Path.{◌≡◌, sym, ◌∙◌}
use mathlib.Core.Bool.{true, So}
use mathlib.Core.List.{List, ◌∷◌, map, flatten}
use Rattle.rules.specs.declared.Device.{Device}
use Rattle.rules.specs.Events.{is_t}
use Rattle.theorems.specs.Ticks.{only_t, all_clocks}
use Rattle.rows.specs.declared.RowEvent.{RowEvent}
use Rattle.rows.specs.Rows.{row_sound}
use Rattle.rows.specs.Runs.{row_run, row_cut}
use Rattle.row_laws.specs.Desk.{Board, RowShaped}
use Rattle.row_laws.specs.RowTicks.{events_of, row_turn, row_as_one}
use Rattle.row_laws.proofs.Runs.{leaves-row, unseen}
use Rattle.row_laws.proofs.Demand3.{cut_apart}
use Rattle.cuts.specs.Nights.{Roomy, night_of}
use Rattle.cuts.proofs.Night.{night-keeps}

module _ (buffer : List ℕ) (roomy : Roomy buffer) where
  -- a sound row is in the morning what it was in the evening
  pub row_keeps : (ds : List Device) → RowShaped ds → row_sound ds ≡ true → map (night_of buffer) ds ≡ ds
  row_keeps = leaves-row (night_of buffer) (night-keeps buffer roomy)

  -- any events from any sound row, cut anywhere, with a night of each device at each cut, have the answers and the row at the end of the
  -- uncut events
  pub night-unseen : (ds : List Device) (l : List RowEvent) (ls : List (List RowEvent)) → RowShaped ds → row_sound ds ≡ true
      → row_cut (map (night_of buffer)) ds l ls ≡ row_run ds (flatten (l ∷ ls))
  night-unseen = unseen (night_of buffer) (night-keeps buffer roomy)

  -- two mornings begin in the same row only if their evenings ended in the same
  pub one-evening : (ds es : List Device) → RowShaped ds → row_sound ds ≡ true → RowShaped es → row_sound es ≡ true
      → map (night_of buffer) ds ≡ map (night_of buffer) es → ds ≡ es
  one-evening ds es h s g t same = sym (row_keeps ds h s) ∙ same ∙ row_keeps es g t

  -- demand 3: T n cut into any parts, with a night of each device at any of the cuts: the row, its lines, and the counts of each device added
  -- up
  pub saved-cuts : (ds : List Device) (e g : RowEvent) (l : List RowEvent) (ls : List (List RowEvent)) → RowShaped ds → Board ds
      → So (is_t e.event) → So (only_t (events_of (flatten ((g ∷ l) ∷ ls)))) → e.event.a ≡ all_clocks (events_of (flatten ((g ∷ l) ∷ ls)))
      → row_turn ds e ≡ row_as_one (row_cut (map (night_of buffer)) ds (g ∷ l) ls)
  saved-cuts = cut_apart (night_of buffer) (night-keeps buffer roomy)
