-- Paper 02, W-210: "prove it equal to the single clock n times for any sound record of that kind".
-- Assumes nothing.
use Prim.Native.Nat.{ℕ, ◌<◌}
use mathlib.Core.Path.{◌≡◌}
use mathlib.Core.Bool.{true, false}
use Rattle.rules.specs.declared.Device.{Device}
use Rattle.rules.specs.Record.{Shaped, port_at}
use Rattle.rules.specs.Registers.{reset}
use Rattle.rules.specs.Step.{ran_of}
use Rattle.rules.specs.Sound.{sound_of}
use Rattle.theorems.specs.Moving.{Small, by_division}
use Rattle.theorems.specs.Plain.{plain}
use Rattle.theorems.proofs.Caught.{sound-caught}
use Rattle.theorems.proofs.Formula.{formula, plain-apart}

-- in the record's numbers: counts and constants of 16 bits, catchers of 8
module _ (d : Device) (shaped : Shaped d) (small : Small d) (bytes : (p : ℕ) → p < 3 → (port_at d p).catcher < 256) where
  -- under RESET T changes nothing (`Demand3.under-reset`)
  pub night : (n : ℕ) → sound_of d ≡ true → reset d ≡ false → plain d ≡ true → ran_of n d ≡ by_division d n
  night n sound on p = formula d n shaped small (sound-caught d shaped sound bytes) on (plain-apart d p)
