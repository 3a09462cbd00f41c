-- Bytes laid into a buffer: where they fit, and where they do not.
-- Assumes nothing.
use Prim.Native.Nat.{ℕ, ◌+◌, ◌≤◌, ◌<◌}
use mathlib.Core.Bool.{cond}
use mathlib.Core.List.{List}
use mathlib.Core.Path.{◌≡◌, ◌∙◌}
use borrow.Author.Tests.{le-leb, lt-leb}
use lib.ListN.{length}
use lib.Seq.{paste}
use Rattle.basics.specs.Buffer.{fits, laid_of}

-- a buffer after bytes were laid into it, and the place after them
abbrev pub Laid : List ℕ → ℕ → List ℕ → List ℕ → ℕ → Type 0
Laid buf at w out r = (out ≡ laid_of buf at w) × (r ≡ cond (fits buf at w) (at + length w) at)

pub not-laid : (buf : List ℕ) (at : ℕ) (w : List ℕ) → length buf < at + length w → Laid buf at w buf at
unfolding laid_of fits
not-laid buf at w h = (simp (lt-leb (at + length w) (length buf) h), simp (lt-leb (at + length w) (length buf) h))

pub is-laid : (buf : List ℕ) (at : ℕ) (w out : List ℕ) → at + length w ≤ length buf → out ≡ paste buf at w (length w)
    → Laid buf at w out (at + length w)
unfolding laid_of fits
is-laid buf at w out h e = (e ∙ (simp (le-leb (at + length w) (length buf) h)), simp (le-leb (at + length w) (length buf) h))

pub laid-fits : (buf : List ℕ) (at : ℕ) (w : List ℕ) → at + length w ≤ length buf → laid_of buf at w ≡ paste buf at w (length w)
unfolding laid_of fits
laid-fits buf at w h = simp (le-leb (at + length w) (length buf) h)
