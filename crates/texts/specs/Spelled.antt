-- A quoted text as its bytes, so that the definitions can quote what is printed.
-- Assumes nothing.
use Rattle.std.specs.Prelude.{ℕ, List, [] as none, ◌∷◌ as ◌then◌}
use Prim.Native.Char.{code}
use Prim.Native.String.{String, [], ◌∷◌}

-- the bytes of a text in ASCII
unfoldable pub spelled : String → List ℕ
spelled [] = none
spelled (b ∷ s) = code b then spelled s
