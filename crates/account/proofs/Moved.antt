-- What a port holds after its own move: a byte taken or stored stands last, a byte acknowledged or read stood first.
-- Assumes nothing.
use Prim.Native.Nat.{ℕ, ◌≤◌, ◌<◌}
use mathlib.Core.Path.{◌≡◌, refl, sym, ap, subst, ◌∙◌}
use mathlib.Core.Bool.{Bool, true, false, ◌&&◌, cond, So}
use mathlib.Core.List.{List, [], ◌∷◌, ◌++◌}
use native.Mathlib.Omega.{arith}
use lib.Dec.{eqb}
use lib.ListN.{get_or, set}
use lib.Seq.{get_or-set_same}
use Rattle.rules.specs.declared.Device.{Device}
use Rattle.rules.specs.declared.Source.{Source}
use Rattle.rules.specs.declared.Transfer.{Transfer}
use Rattle.rules.specs.Record.{Shaped, pattern_at, transfer_at, vacant}
use Rattle.rules.specs.Handshakes.{inputs, ackin_at}
use Rattle.rules.specs.PortData.{path_at}
use Rattle.rules.specs.Moves.{held_at, put_at, works_at, falls, taken_at, left_at, moves_at, given_at, stored_at}
use Rattle.rules.specs.Sound.{sound_of}
use Rattle.basics.proofs.Tests.{by-test}
use Rattle.theorems.proofs.Clauses.{sound-parts}
use Rattle.theorems.proofs.TransferLaws.{two_deep}
use Rattle.account.specs.Account.{held_of, HoldsBytes}
use Rattle.account.proofs.Held.{inside, joined-inside, shifted-inside}

-- ---- a sound record holds two at most
module _ (d : Device) (s : sound_of d ≡ true) (p : ℕ) (l : p < 2) where
  pub two-held : (transfer_at d p).bytes ≤ 2
  two-held = omega (arith, ((sound-parts d s).base.transfers p l).room, two_deep (pattern_at d p))

  -- and the front byte is the first of them
  pub front-byte : HoldsBytes p d → ((transfer_at d p).bytes ≡ 0 → ⊥) → (transfer_at d p).front < 256
  unfolding held_of
  front-byte h some = subst (λ (m : List ℕ). get_or m 0 0 < 256) (shifted-inside (transfer_at d p) false false two-held some) (h 0)

module _ (d : Device) (k : Shaped d) (p : ℕ) (l : p < 2) where
  here : (t : Transfer) → get_or (set d.transfers p t) p vacant ≡ t
  here t = get_or-set_same d.transfers p t vacant (omega (arith, l, k.transfers))

  put-here : (puts : Bool) (b : ℕ) (t : Transfer) (s : Source) → transfer_at (held_at (cond puts (put_at d p b) d) p t s) p ≡ t
  unfolding held_at put_at
  put-here true b t s = here t
  put-here false b t s = here t

  -- ---- one comes
  pub taken-held : (transfer_at d p).bytes < 2 → held_of (taken_at d p) p ≡ held_of d p ++ path_at d p ∷ []
  unfolding held_of taken_at held_at
  taken-held h = ap inside (here _) ∙ joined-inside (path_at d p) (transfer_at d p) _ _ h

  pub stored-held : (b : ℕ) → (transfer_at d p).bytes < 2 → held_of (stored_at d p b) p ≡ held_of d p ++ b ∷ []
  unfolding held_of stored_at
  stored-held b h = ap inside (put-here (eqb (transfer_at d p).bytes 0) b _ _) ∙ joined-inside b (transfer_at d p) _ _ h

  -- ---- one goes
  module _ (two : (transfer_at d p).bytes ≤ 2) (some : (transfer_at d p).bytes ≡ 0 → ⊥) where
    pub left-held : held_of d p ≡ (transfer_at d p).front ∷ held_of (left_at d p) p
    unfolding held_of left_at
    left-held =
        shifted-inside (transfer_at d p) _ _ two some
        ∙ ap (λ (t : Transfer). (transfer_at d p).front ∷ inside t)
        (sym (put-here (eqb (transfer_at d p).bytes 2) (transfer_at d p).behind _ _))

    pub given-held : held_of d p ≡ (transfer_at d p).front ∷ held_of (given_at d p) p
    unfolding held_of given_at held_at
    given-held = shifted-inside (transfer_at d p) _ _ two some ∙ ap (λ (t : Transfer). (transfer_at d p).front ∷ inside t) (sym (here _))

  -- ---- by ACKIN, from the record d0
  module _ (d0 : Device) where
    pub takes : So (falls d0 d p) → So (inputs (pattern_at d p)) → moves_at p d0 d ≡ taken_at d p
    unfolding moves_at
    takes f i = simp (f, i)

    pub leaves : So (falls d0 d p) → inputs (pattern_at d p) ≡ false → moves_at p d0 d ≡ left_at d p
    unfolding moves_at
    leaves f i = simp (f, i)

    pub still-held : falls d0 d p ≡ false → held_of (moves_at p d0 d) p ≡ held_of d p
    unfolding held_of moves_at
    still-held z =
        simp z
        (by-test (λ (e : Device). inside (transfer_at e p) ≡ inside (transfer_at d p)) (works_at d p && ackin_at d p) _ d
        (λ _. ap inside (here _)) (λ _. refl))
