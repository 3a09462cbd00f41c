-- Paper 02, W-207: the account of a port with handshake over nights, and from an image. "A save and its own restore may stand anywhere
-- between; going back to an earlier image starts the account at that image."
-- Assumes nothing.
use Prim.Native.Nat.{ℕ, zero, suc, ◌+◌, ◌*◌, ◌<◌}
use mathlib.Core.Path.{◌≡◌, refl, sym, ap, ap₂, subst, ◌∙◌}
use mathlib.Core.Bool.{true}
use mathlib.Core.List.{List, [], ◌∷◌, ◌++◌, flatten}
use lib.Dec.{lit<}
use lib.ListN.{take}
use Rattle.rules.specs.declared.Device.{Device}
use Rattle.rules.specs.declared.Event.{Event}
use Rattle.rules.specs.declared.Transfer.{Transfer}
use Rattle.rules.specs.Record.{Shaped, pattern_at, transfer_at}
use Rattle.rules.specs.Registers.{port_enabled}
use Rattle.rules.specs.Handshakes.{inputs, outputs}
use Rattle.rules.specs.Interrupts.{relined}
use Rattle.rules.specs.Sound.{sound_of}
use Rattle.theorems.specs.Traces.{record_after, Traced, cut_by}
use Rattle.account.specs.Account.{data_written_by, acknowledged_by, strobed_by, read_by, held_of, HoldsBytes, over, over_cut, account_stands}
use Rattle.account.specs.Account.{OutputAccount, InputAccount}
use Rattle.account.proofs.Cut.{over-unseen}
use Rattle.account.proofs.Every.{output, input}
use Rattle.bodies.specs.Layout.{Layout, layout_in, offset_of, size_of, body_in}
use Rattle.bodies.specs.Taken.{Bytes, transfer_in, transfers_in, record_in, device_in}
use Rattle.bodies.proofs.Entries.{bytes-part}
use Rattle.basics.proofs.Places.{each2}
use Rattle.image.specs.Image.{restored_of}
use Rattle.image.proofs.Answers.{accepted}
use Rattle.image.proofs.RoundTrip.{accepted-sound, accepted-shaped}
use Rattle.cuts.specs.Nights.{Roomy, night_of}
use Rattle.cuts.proofs.Night.{night-keeps, night-unseen}

-- ---- any events, cut anywhere, with a night at each cut
module _ (buffer : List ℕ) (roomy : Roomy buffer) (p : ℕ) (two : p < 2) (d : Device) (h : Shaped d) (s : sound_of d ≡ true)
    (on : port_enabled d p ≡ true) (l : List Event) (ls : List (List Event)) (st : account_stands p d (flatten (l ∷ ls)) ≡ true) where
  over-nights : (f : Device → Event → List ℕ) → over_cut (night_of buffer) f d l ls ≡ over f d (flatten (l ∷ ls))
  over-nights f = over-unseen f (night_of buffer) (night-keeps buffer roomy) d l ls h s

  held_after : held_of (cut_by (night_of buffer) d l ls).device p ≡ held_of (record_after d (flatten (l ∷ ls))) p
  held_after = ap (λ (t : Traced). held_of t.device p) (night-unseen buffer roomy d l ls h s)

  -- the account of the parts is that of the whole
  nights : (f g : Device → Event → List ℕ)
      → held_of d p ++ over f d (flatten (l ∷ ls)) ≡ over g d (flatten (l ∷ ls)) ++ held_of (record_after d (flatten (l ∷ ls))) p
      → held_of d p ++ over_cut (night_of buffer) f d l ls ≡ over_cut (night_of buffer) g d l ls ++ held_of (cut_by (night_of buffer) d l ls).device p
  nights f g e = ap (λ (m : List ℕ). held_of d p ++ m) (over-nights f) ∙ e ∙ ap₂ ◌++◌ (sym (over-nights g)) (sym held_after)

  pub output-over-nights : outputs (pattern_at d p) ≡ true → HoldsBytes p d
      → held_of d p ++ over_cut (night_of buffer) (data_written_by p) d l ls
      ≡ over_cut (night_of buffer) (acknowledged_by p) d l ls ++ held_of (cut_by (night_of buffer) d l ls).device p
  output-over-nights o b = nights (data_written_by p) (acknowledged_by p) (output p two d h s on (flatten (l ∷ ls)) st o b)

  pub input-over-nights : inputs (pattern_at d p) ≡ true
      → held_of d p ++ over_cut (night_of buffer) (strobed_by p) d l ls
      ≡ over_cut (night_of buffer) (read_by p) d l ls ++ held_of (cut_by (night_of buffer) d l ls).device p
  input-over-nights i = nights (strobed_by p) (read_by p) (input p two d h s on (flatten (l ∷ ls)) st i)

-- ---- from any accepted image
-- an image of bytes tells of bytes held
told-transfer : (l : Layout) (s : List ℕ) (p : ℕ) → p < 2 → transfer_at (device_in l s) p ≡ transfer_in (body_in l 5 s) p
unfolding device_in record_in transfers_in relined
told-transfer l s = each2 (λ p. transfer_at (device_in l s) p ≡ transfer_in (body_in l 5 s) p) refl refl

pair-bytes : (a b : ℕ) → a < 256 → b < 256 → Bytes (a ∷ b ∷ [])
pair-bytes a b g h zero = g
pair-bytes a b g h (suc zero) = h
pair-bytes a b g h (suc (suc k)) = lit< tt

told-bytes : (l : Layout) (s : List ℕ) (p : ℕ) → p < 2 → Bytes s → HoldsBytes p (device_in l s)
unfolding held_of transfer_in
told-bytes l s p two b =
    let body = bytes-part (offset_of l 5) (size_of l 5) s b in
    let t = transfer_in (body_in l 5 s) p in
    subst (λ (t : Transfer). Bytes (take t.bytes (t.front ∷ t.behind ∷ []))) (sym (told-transfer l s p two))
    (bytes-part 0 t.bytes (t.front ∷ t.behind ∷ []) (pair-bytes t.front t.behind (body (4 * p)) (body (1 + 4 * p))))

module _ (s : List ℕ) (taken : (restored_of s).code ≡ 0) (p : ℕ) (two : p < 2) where
  abbrev d : Device
  d = (restored_of s).device

  image-bytes : Bytes s → HoldsBytes p d
  image-bytes b = subst (HoldsBytes p) (sym (accepted s taken).is) (told-bytes (layout_in s) s p two b)

  module _ (on : port_enabled d p ≡ true) (l : List Event) (st : account_stands p d l ≡ true) where
    pub output-from-image : Bytes s → outputs (pattern_at d p) ≡ true → OutputAccount p d l
    output-from-image b o = output p two d (accepted-shaped s taken) (accepted-sound s taken) on l st o (image-bytes b)

    pub input-from-image : inputs (pattern_at d p) ≡ true → InputAccount p d l
    input-from-image i = input p two d (accepted-shaped s taken) (accepted-sound s taken) on l st i
