-- A sound record is of version 1 or 2, and of version 1 it has no port with handshake: so an image tells the whole of it.
-- Assumes nothing.
use Prim.Native.Nat.{ℕ, ◌<◌}
use mathlib.Core.Path.{◌≡◌, refl, ap, ap₂, ◌∙◌}
use mathlib.Core.Bool.{Bool, true, false, not, ◌&&◌, ◌||◌, So}
use mathlib.Core.List.{[], ◌∷◌}
use mathlib.Core.Logic.{inl, inr}
use borrow.Author.Tests.{eqb-true}
use lib.Dec.{eqb, lit<}
use Rattle.rules.specs.declared.Device.{Device}
use Rattle.rules.specs.declared.Transfer.{Transfer}
use Rattle.rules.specs.Record.{Shaped, vacant, transfer_at}
use Rattle.rules.specs.Registers.{port_enabled}
use Rattle.rules.specs.Sound.{sound_of}
use Rattle.basics.proofs.Tests.{never}
use Rattle.basics.proofs.Lists.{two}
use Rattle.theorems.proofs.Clauses.{sound-parts}
use Rattle.theorems.proofs.Versions.{no-handshake}
use Rattle.bodies.proofs.Whole.{Versioned}

module _ (d : Device) (f : Shaped d) (s : sound_of d ≡ true) where
  -- so nothing is held there
  empty : d.version ≡ 1 → (p : ℕ) → p < 2 → transfer_at d p ≡ vacant
  empty e p l = ((sound-parts d s).base.transfers p l).held (ap (λ (t : Bool). not (t && port_enabled d p)) (no-handshake d p l s e))

  pub sound-versioned : Versioned d
  sound-versioned = by-version (eqb d.version 1) (eqb d.version 2) refl refl (sound-parts d s).base.version
    where
      by-version : (a b : Bool) → eqb d.version 1 ≡ a → eqb d.version 2 ≡ b → So (a || b) → Versioned d
      by-version true b p q h =
          let e = eqb-true d.version 1 p in
          inr (e, two vacant d.transfers f.transfers ∙ ap₂ (λ (t u : Transfer). t ∷ u ∷ []) (empty e 0 (lit< tt)) (empty e 1 (lit< tt)))
      by-version false true p q h = inl (eqb-true d.version 2 q)
      by-version false false p q h = never refl h
