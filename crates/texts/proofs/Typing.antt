-- Bytes typed one part after the other.
-- Assumes nothing.
use Prim.Native.Nat.{ℕ}
use mathlib.Core.List.{List, [], ◌∷◌, ◌++◌}
use mathlib.Core.Path.{◌≡◌, refl}
use Rattle.texts.specs.Kept.{pushed, typed}
use Rattle.texts.specs.declared.Text.{Text}

pub typed_append : (t : Text) (v w : List ℕ) → typed t (v ++ w) ≡ typed (typed t v) w
unfolding typed
typed_append t [] w = refl
typed_append t (b ∷ v) w = typed_append (pushed t b) v w
