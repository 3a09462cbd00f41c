-- A lent buffer: bytes laid into it from a place, all of them, or none where they do not fit.
-- Assumes nothing.
use Rattle.std.specs.Prelude.{ℕ, ◌+◌, Bool, List, leb, length, if◌then◌else◌}
use Rattle.std.proofs.Math.Seq.{paste}

-- whether the bytes w have room in the buffer from the place on
unfoldable pub fits : List ℕ → ℕ → List ℕ → Bool
fits buf place w = leb (place + length w) (length buf)

-- the buffer after it
unfoldable pub laid_of : List ℕ → ℕ → List ℕ → List ℕ
laid_of buf place w = if fits buf place w then paste buf place w (length w) else buf
