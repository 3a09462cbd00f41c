-- `sound_z8536` is true of a record exactly when its parts are sound: the test taken apart, and put together.
-- Assumes nothing.
use Prim.Native.Nat.{◌<◌}
use mathlib.Core.Path.{◌≡◌}
use mathlib.Core.Bool.{true, false, not, ◌&&◌, So}
use mathlib.Core.List.{[], ◌∷◌}
use lib.Dec.{eqb, ltb}
use borrow.Author.Tests.{eqb-true, eq-eqb, ltb-true, lt-ltb}
use Rattle.rules.specs.Record.{register_count}
use Rattle.rules.specs.Registers.{reset}
use Rattle.rules.specs.Sound.{sound_of}
use Rattle.basics.proofs.Tests.{so-both, left, right, each, not_so}
use Rattle.theorems.proofs.Parts.{if-then}
use Rattle.z8536.specs.declared.Z8536.{Z8536}
use Rattle.z8536.specs.Z8536.{reset_clear, sound_z8536}

pub record Parts (z : Z8536) : Type 0 where
  pub core : sound_of z.core ≡ true
  pub version : z.core.version ≡ 2
  pub pointer : z.pointer < register_count
  pub clear : So (reset_clear z)

pub parts : (z : Z8536) → sound_z8536 z ≡ true → Parts z
unfolding sound_z8536
parts z s =
    let part = each (sound_of z.core ∷ eqb z.core.version 2 ∷ ltb z.pointer register_count ∷ reset_clear z ∷ []) s in
    record { core = part 0; version = eqb-true _ _ (part 1); pointer = ltb-true _ _ (part 2); clear = part 3 }

pub whole : (z : Z8536) → Parts z → sound_z8536 z ≡ true
unfolding sound_z8536
whole z h = so-both (so-both (so-both h.core (eq-eqb _ _ h.version)) (lt-ltb _ _ h.pointer)) h.clear

-- ---- in reset pointer and state are clear; and of a device that is not, nothing is asked
pub record Clear (z : Z8536) : Type 0 where
  pub pointer : z.pointer ≡ 0
  pub pointed : z.pointed ≡ false

pub clear : (z : Z8536) → sound_z8536 z ≡ true → reset z.core ≡ true → Clear z
unfolding reset_clear
clear z s r =
    let p = eqb z.pointer 0 in
    let h = if-then (reset z.core) (p && not z.pointed) (parts z s).clear r in
    record { pointer = eqb-true _ _ (left p (not z.pointed) h); pointed = not_so z.pointed (right p (not z.pointed) h) }

pub no-reset-clear : (z : Z8536) → reset z.core ≡ false → So (reset_clear z)
unfolding reset_clear
no-reset-clear z r = simp r
