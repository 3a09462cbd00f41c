-- Paper 02, W-213: the night of a CTC is not seen. `CtcCall` is an event or the end of service.
-- Assumes nothing.
use Prim.Native.Nat.{ℕ, ◌≤◌}
use mathlib.Core.Path.{◌≡◌, sym, ap, ◌∙◌}
use mathlib.Core.Bool.{true, So}
use mathlib.Core.List.{List, ◌∷◌, flatten}
use lib.ListN.{length}
use Rattle.rules.specs.declared.Event.{Event}
use Rattle.rules.specs.Events.{is_t}
use Rattle.ctc_rules.specs.declared.Ctc.{Ctc}
use Rattle.ctc_rules.specs.Record.{FourChannels}
use Rattle.ctc_rules.specs.Sound.{sound_ctc}
use Rattle.ctc_rules.specs.Events.{event_ctc}
use Rattle.ctc_laws.specs.Runs.{CtcCall, run_ctc, cut_ctc, only_ticks, tick_clocks, one_ctc}
use Rattle.ctc_laws.proofs.Runs.{unseen}
use Rattle.ctc_laws.proofs.Demand3.{cut_apart}
use Rattle.image.specs.declared.Restored.{Restored}
use Rattle.ctc_image.proofs.Codes.{save-0}
use Rattle.ctc_image.proofs.RoundTrip.{restored-saved}
use Rattle.cuts.specs.Nights.{night_ctc}

module _ (buffer : List ℕ) (room : 41 ≤ length buffer) where
  -- a sound record is in the morning what it was in the evening
  pub night-keeps : (d : Ctc) → FourChannels d → sound_ctc d ≡ true → night_ctc buffer d ≡ d
  unfolding night_ctc
  night-keeps d h s = ap (λ (r : Restored Ctc). r.device) (restored-saved d buffer h ((save-0 d (length buffer)).1 (s, room)))

  -- any events and ends of service from any sound record, cut anywhere, with a night at each cut, have the answers and the record at the
  -- end of the uncut ones
  pub night-unseen : (d : Ctc) (l : List CtcCall) (ls : List (List CtcCall)) → FourChannels d → sound_ctc d ≡ true
      → cut_ctc (night_ctc buffer) d l ls ≡ run_ctc d (flatten (l ∷ ls))
  night-unseen d l ls h s = unseen (night_ctc buffer) night-keeps d l ls h s

  -- two mornings begin in the same record only if their evenings ended in the same
  pub one-evening : (d e : Ctc) → FourChannels d → sound_ctc d ≡ true → FourChannels e → sound_ctc e ≡ true
      → night_ctc buffer d ≡ night_ctc buffer e → d ≡ e
  one-evening d e h s g t same = sym (night-keeps d h s) ∙ same ∙ night-keeps e g t

  -- demand 3: T n cut into any parts, with a night at any of the cuts
  pub saved-cuts : (d : Ctc) (e : Event) (x : CtcCall) (l : List CtcCall) (ls : List (List CtcCall)) → FourChannels d → sound_ctc d ≡ true
      → So (is_t e) → So (only_ticks (flatten ((x ∷ l) ∷ ls))) → e.a ≡ tick_clocks (flatten ((x ∷ l) ∷ ls))
      → event_ctc d e ≡ one_ctc (cut_ctc (night_ctc buffer) d (x ∷ l) ls)
  saved-cuts d e x l ls h s t o q = cut_apart (night_ctc buffer) night-keeps d e x l ls h s t o q
