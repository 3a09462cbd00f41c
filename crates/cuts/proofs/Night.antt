-- The night is not seen. Demand 3 with a save and its own restore between the parts.
-- Assumes nothing.
use Prim.Native.Nat.{ℕ, ◌≤◌}
use mathlib.Core.Path.{◌≡◌, sym, ap, ◌∙◌}
use mathlib.Core.Bool.{true, So}
use mathlib.Core.List.{List, ◌∷◌, flatten}
use native.Mathlib.Nat.{le_trans}
use lib.Dec.{lit≤}
use lib.ListN.{length}
use Rattle.rules.specs.declared.Device.{Device}
use Rattle.rules.specs.declared.Event.{Event}
use Rattle.rules.specs.Record.{Shaped, image_len}
use Rattle.rules.specs.Sound.{sound_of}
use Rattle.rules.specs.Events.{is_t, event_of}
use Rattle.theorems.specs.Traces.{traced_of, cut_by}
use Rattle.theorems.specs.Ticks.{only_t, all_clocks, as_one}
use Rattle.theorems.proofs.Traces.{unseen}
use Rattle.theorems.proofs.Demand3.{cut_apart}
use Rattle.bodies.specs.Layout.{length_of}
use Rattle.bodies.proofs.Whole.{of-record}
use Rattle.image.specs.declared.Restored.{Restored}
use Rattle.image.proofs.Codes.{save-0}
use Rattle.image.proofs.RoundTrip.{restored-saved}
use Rattle.cuts.specs.Nights.{Roomy, night_of}

-- 96 bytes are enough
pub enough : (buffer : List ℕ) → image_len 2 ≤ length buffer → Roomy buffer
unfolding image_len
enough buffer h d = of-record (λ l. length_of l ≤ length buffer) (le_trans (lit≤ tt) h) h d

module _ (buffer : List ℕ) (roomy : Roomy buffer) where
  -- a sound record is in the morning what it was in the evening
  pub night-keeps : (d : Device) → Shaped d → sound_of d ≡ true → night_of buffer d ≡ d
  unfolding night_of
  night-keeps d h s = ap (λ (r : Restored Device). r.device) (restored-saved d buffer h ((save-0 d (length buffer)).1 (s, roomy d)))

  -- the night is not seen: any events from any sound record, cut anywhere, with a night at each cut, have the answers and the
  -- record at the end of the uncut events
  pub night-unseen : (d : Device) (l : List Event) (ls : List (List Event)) → Shaped d → sound_of d ≡ true
      → cut_by (night_of buffer) d l ls ≡ traced_of d (flatten (l ∷ ls))
  night-unseen d l ls h s = unseen (night_of buffer) night-keeps d l ls h s

  -- two mornings begin in the same record only if their evenings ended in the same
  pub one-evening : (d e : Device) → Shaped d → sound_of d ≡ true → Shaped e → sound_of e ≡ true
      → night_of buffer d ≡ night_of buffer e → d ≡ e
  one-evening d e h s g t same = sym (night-keeps d h s) ∙ same ∙ night-keeps e g t

  -- demand 3: T n cut into any parts, with a night at any of the cuts: record, lines, and the reports added up
  pub saved-cuts : (d : Device) (e g : Event) (l : List Event) (ls : List (List Event)) → Shaped d → sound_of d ≡ true
      → So (is_t e) → So (only_t (flatten ((g ∷ l) ∷ ls))) → e.a ≡ all_clocks (flatten ((g ∷ l) ∷ ls))
      → event_of d e ≡ as_one (cut_by (night_of buffer) d (g ∷ l) ls)
  saved-cuts d e g l ls h s t o q = cut_apart (night_of buffer) night-keeps d e g l ls h s t o q
