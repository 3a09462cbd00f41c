-- A list of events cut anywhere: the bytes of its parts, one after the other, are those of the whole; also where at each cut is done what
-- leaves the sound records of the device's shape as they are.
-- Assumes nothing.
use mathlib.Core.Path.{◌≡◌, refl, sym, ap, ◌∙◌}
use mathlib.Core.Bool.{true}
use mathlib.Core.List.{List, [], ◌∷◌, ◌++◌, flatten, append-nil, append_assoc}
use Prim.Native.Nat.{ℕ}
use Rattle.rules.specs.declared.Device.{Device}
use Rattle.rules.specs.declared.Event.{Event}
use Rattle.rules.specs.Record.{Shaped}
use Rattle.rules.specs.Sound.{sound_of}
use Rattle.basics.specs.Runs.{record_through}
use Rattle.theorems.specs.Traces.{record_after}
use Rattle.theorems.proofs.Traces.{list-sound, list-shaped}
use Rattle.account.specs.Account.{after, over, over_cut}

module _ (f : Device → Event → List ℕ) where
  cut-over : (d : Device) (l m : List Event) → over f d (l ++ m) ≡ over f d l ++ over f (record_after d l) m
  unfolding over record_through
  cut-over d [] m = refl
  cut-over d (e ∷ l) m =
      ap (λ (n : List ℕ). f d e ++ n) (cut-over (after d e) l m)
      ∙ sym (append_assoc (f d e) (over f (after d e) l) (over f (record_after (after d e) l) m))

  module _ (g : Device → Device) (leaves : (d : Device) → Shaped d → sound_of d ≡ true → g d ≡ d) where
    pub over-unseen : (d : Device) (l : List Event) (ls : List (List Event)) → Shaped d → sound_of d ≡ true
        → over_cut g f d l ls ≡ over f d (flatten (l ∷ ls))
    unfolding over_cut flatten
    over-unseen d l [] h s = ap (over f d) (sym (append-nil l))
    over-unseen d l (m ∷ ms) h s =
        let h' = list-shaped d l h in
        let s' = list-sound d l h s in
        ap (λ (e : Device). over f d l ++ over_cut g f e m ms) (leaves (record_after d l) h' s')
        ∙ ap (λ (n : List ℕ). over f d l ++ n) (over-unseen (record_after d l) m ms h' s') ∙ sym (cut-over d l (flatten (m ∷ ms)))
