-- What is laid by its numbers is the image in its layout, over the front of a buffer.
-- Assumes nothing.
use Prim.Native.Nat.{ℕ, ◌+◌}
use mathlib.Core.Path.{◌≡◌, sym, ap₂, ◌∙◌}
use mathlib.Core.List.{List, ◌++◌}
use borrow.Author.Tests.{eq-eqb, ne_eqb}
use lib.ListN.{length, drop}
use Rattle.rules.specs.declared.Device.{Device}
use Rattle.rules.specs.Record.{image_len}
use Rattle.z8536.specs.declared.Z8536.{Z8536}
use Rattle.bodies.specs.Layout.{layout1, layout2, layout3, layout_of, length_of, contents_of}
use Rattle.bodies.specs.Written.{registers_from, registers_body, counts_body, pins_body, lines_body, transfers_body, pointer_body, image_of}
use Rattle.bodies.proofs.LayoutLaw.{length-of}
use Rattle.bodies.proofs.Whole.{image-laid-1, image-laid-2}
use Rattle.image.specs.Image.{fifth_len, bodies_len, laid_by}
use Rattle.image.specs.Pointed.{image_z8536}

-- the layout of a record whose version is 1, or is not
old : (d : Device) → d.version ≡ 1 → layout_of d ≡ layout1
unfolding layout_of
old d v = simp (eq-eqb d.version 1 v)

pub new : (d : Device) → (d.version ≡ 1 → ⊥) → layout_of d ≡ layout2
unfolding layout_of
new d v = simp (ne_eqb d.version 1 v)

-- as long as the image
pub size-1 : (d : Device) → d.version ≡ 1 → length (contents_of layout1) + bodies_len d.version ≡ image_len d.version
unfolding fifth_len image_len
size-1 d v = simp (eq-eqb d.version 1 v)

pub size-2 : (d : Device) → (d.version ≡ 1 → ⊥) → length (contents_of layout2) + bodies_len d.version ≡ image_len d.version
unfolding fifth_len image_len
size-2 d v = simp (ne_eqb d.version 1 v)

laid-1 : (d : Device) → d.version ≡ 1 → laid_by (contents_of layout1) d ≡ image_of d
unfolding laid_by registers_body registers_from counts_body pins_body lines_body
laid-1 d v = (simp (eq-eqb d.version 1 v)) ∙ image-laid-1 d (old d v)

laid-2 : (d : Device) → (d.version ≡ 1 → ⊥) → laid_by (contents_of layout2) d ≡ image_of d
unfolding laid_by
laid-2 d v = (simp (ne_eqb d.version 1 v)) ∙ image-laid-2 d (new d v)

-- the buffer behind it is as it was
pub over-1 : (d : Device) (e : List ℕ) → d.version ≡ 1
    → laid_by (contents_of layout1) d ++ drop (length (contents_of layout1) + bodies_len d.version) e ≡ image_of d ++ drop (length_of (layout_of d)) e
over-1 d e v = ap₂ (λ (i : List ℕ) (n : ℕ). i ++ drop n e) (laid-1 d v) (size-1 d v ∙ sym (length-of d))

pub over-2 : (d : Device) (e : List ℕ) → (d.version ≡ 1 → ⊥)
    → laid_by (contents_of layout2) d ++ drop (length (contents_of layout2) + bodies_len d.version) e ≡ image_of d ++ drop (length_of (layout_of d)) e
over-2 d e v = ap₂ (λ (i : List ℕ) (n : ℕ). i ++ drop n e) (laid-2 d v) (size-2 d v ∙ sym (length-of d))

-- ---- of a Z8536: up to its sixth body, and that behind it
pub size-3 : (d : Device) → d.version ≡ 2 → length (contents_of layout3) + bodies_len d.version ≡ 100
unfolding fifth_len
size-3 d v = simp v

pub laid-3 : (z : Z8536) → z.core.version ≡ 2 → laid_by (contents_of layout3) z.core ++ pointer_body z.pointer z.pointed ≡ image_z8536 z
unfolding laid_by image_z8536 registers_body registers_from counts_body pins_body lines_body transfers_body pointer_body
laid-3 z v = simp v

pub long-3 : (d : Device) → d.version ≡ 2 → length (laid_by (contents_of layout3) d) ≡ 100
unfolding laid_by registers_body registers_from counts_body pins_body lines_body transfers_body
long-3 d v = simp v
