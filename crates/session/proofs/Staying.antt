-- A session whose device is sound has a sound device after any lines.
-- Assumes nothing.
use Rattle.std.specs.Prelude.{Option}
use Prim.Native.Nat.{ℕ}
use mathlib.Core.Path.{◌≡◌, sym, subst}
use mathlib.Core.Bool.{true}
use mathlib.Core.List.{List, [], ◌∷◌}
use lib.ListN.{take, drop}
use Rattle.chip.specs.declared.Chip.{Chip}
use Rattle.chip.specs.Chips.{sound_chip, event_chip}
use Rattle.chip.proofs.Kept.{event-good}
use Rattle.chip.specs.Vetting.{Good}
use Rattle.lines.specs.Lines.{event_in}
use Rattle.lines.specs.Pieces.{said_in}
use Rattle.rules.specs.declared.Event.{Event}
use Rattle.session.specs.declared.Fed.{Fed}
use Rattle.session.specs.declared.Session.{Session}
use Rattle.session.specs.Sessions.{device_after, after_of, fed_by}
use Rattle.session.proofs.Feeding.{SoFar}

device-good : (d : Chip) (ls : List (Option Event)) → Good d → Good (device_after d ls)
unfolding device_after
device-good d [] g = g
device-good d (l ∷ ls) g = device-good (event_chip d (event_in l)).device ls (event-good d (event_in l) g)

pub fed-sound : (s : Session) (piece : List ℕ) (at : ℕ) (out₀ : List ℕ) (f : Fed) (out : List ℕ) → SoFar s piece at out₀ f out → Good s.device
    → sound_chip f.session.device ≡ true
unfolding fed_by after_of
fed-sound s piece at out₀ f out h g =
    subst (λ (x : Fed). sound_chip x.session.device ≡ true) (sym h.fed)
    (device-good s.device (said_in s.text (take h.k (drop at piece))) g).1
