-- Body 6, both ways: what it tells of the pointer and the state that wrote it, and that it is what they write.
-- Assumes nothing.
use Prim.Native.Nat.{ℕ, ◌<◌}
use mathlib.Core.Path.{◌≡◌, refl, ap, ◌∙◌}
use mathlib.Core.Bool.{Bool, true, false, cond}
use mathlib.Core.List.{List, [], ◌∷◌}
use lib.Dec.{eqb, ltb}
use lib.ListN.{length}
use Rattle.bodies.specs.Written.{pointer_body}
use Rattle.bodies.specs.Taken.{byte_at, Bytes, pointer_in, pointed_in, pointer_clear}
use Rattle.bodies.proofs.Bytes.{made_of}
use Rattle.bodies.proofs.Lists.{elements}

pub pointer_read : (p : ℕ) (s : Bool) → pointer_in (pointer_body p s) ≡ p
unfolding pointer_body
pointer_read p s = refl

pub pointed-read : (p : ℕ) (s : Bool) → pointed_in (pointer_body p s) ≡ s
unfolding pointer_body
pointed-read p true = refl
pointed-read p false = refl

pub pointer-clear : (p : ℕ) (s : Bool) → pointer_clear (pointer_body p s) ≡ true
unfolding pointer_body
pointer-clear p true = refl
pointer-clear p false = refl

state-made : (x : ℕ) → x < 256 → ltb x 2 ≡ true → cond (eqb x 1) 1 0 ≡ x
state-made = made_of (λ x. ltb x 2) (λ x. cond (eqb x 1) 1 0) tt

pub pointer-written : (b : List ℕ) → length b ≡ 2 → Bytes b → pointer_clear b ≡ true → pointer_body (pointer_in b) (pointed_in b) ≡ b
unfolding pointer_body
pointer-written b n h c = ap (λ (x : ℕ). byte_at b 0 ∷ x ∷ []) (state-made (byte_at b 1) (h 1) c) ∙ elements b 2 n
