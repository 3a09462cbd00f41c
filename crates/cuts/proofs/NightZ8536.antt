-- Paper 02, W-209: the night of a Z8536 is not seen.
-- Assumes nothing.
use Prim.Native.Nat.{ℕ, ◌≤◌}
use mathlib.Core.Path.{◌≡◌, sym, ap, ◌∙◌}
use mathlib.Core.Bool.{true, So}
use mathlib.Core.List.{List, ◌∷◌, flatten}
use lib.ListN.{length}
use Rattle.rules.specs.declared.Event.{Event}
use Rattle.rules.specs.Record.{Shaped}
use Rattle.rules.specs.Events.{is_t}
use Rattle.theorems.specs.Ticks.{only_t, all_clocks}
use Rattle.z8536.specs.declared.Z8536.{Z8536}
use Rattle.z8536.specs.Z8536.{sound_z8536, event_z8536}
use Rattle.z8536.specs.Runs.{run_z8536, cut_z8536, one_of}
use Rattle.z8536.proofs.Runs.{unseen}
use Rattle.z8536.proofs.Demand3.{cut_apart}
use Rattle.image.specs.declared.Restored.{Restored}
use Rattle.image.proofs.PointedTrip.{restored-saved}
use Rattle.cuts.specs.Nights.{night_z8536}

module _ (buffer : List ℕ) (room : 102 ≤ length buffer) where
  -- a sound record is in the morning what it was in the evening
  pub night-keeps : (z : Z8536) → Shaped z.core → sound_z8536 z ≡ true → night_z8536 buffer z ≡ z
  unfolding night_z8536
  night-keeps z h s = ap (λ (r : Restored Z8536). r.device) (restored-saved z buffer h s room)

  -- any events from any sound record, cut anywhere, with a night at each cut, have the answers and the record at the end of the uncut
  -- events
  pub night-unseen : (z : Z8536) (l : List Event) (ls : List (List Event)) → Shaped z.core → sound_z8536 z ≡ true
      → cut_z8536 (night_z8536 buffer) z l ls ≡ run_z8536 z (flatten (l ∷ ls))
  night-unseen z l ls h s = unseen (night_z8536 buffer) night-keeps z l ls h s

  -- two mornings begin in the same record only if their evenings ended in the same
  pub one-evening : (z y : Z8536) → Shaped z.core → sound_z8536 z ≡ true → Shaped y.core → sound_z8536 y ≡ true
      → night_z8536 buffer z ≡ night_z8536 buffer y → z ≡ y
  one-evening z y h s g t same = sym (night-keeps z h s) ∙ same ∙ night-keeps y g t

  -- demand 3: T n cut into any parts, with a night at any of the cuts
  pub saved-cuts : (z : Z8536) (e g : Event) (l : List Event) (ls : List (List Event)) → Shaped z.core → sound_z8536 z ≡ true
      → So (is_t e) → So (only_t (flatten ((g ∷ l) ∷ ls))) → e.a ≡ all_clocks (flatten ((g ∷ l) ∷ ls))
      → event_z8536 z e ≡ one_of (cut_z8536 (night_z8536 buffer) z (g ∷ l) ls)
  saved-cuts z e g l ls h s t o q = cut_apart (night_z8536 buffer) night-keeps z e g l ls h s t o q
