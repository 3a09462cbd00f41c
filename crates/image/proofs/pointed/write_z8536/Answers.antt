use Prim.Native.Nat.{ℕ, ◌≤◌}
use mathlib.Core.Path.{refl, sym, ap, subst, ◌∙◌}
use mathlib.Core.List.{List, [], ◌∷◌, ◌++◌}
use native.Mathlib.Omega.{arith}
use lib.ListN.{length, drop}
use Rattle.bodies.specs.Layout.{layout3, contents_of}
use Rattle.bodies.specs.Written.{pointer_body}
use Rattle.bodies.proofs.Laid.{next}
use Rattle.image.specs.Image.{laid_by}
use Rattle.image.proofs.Laying.{size-3, long-3, laid-3}
use Rattle.image.proofs.pointed.write_z8536.Goals as goal

pub write_by-requires : goal.write_by-requires
write_by-requires c =
    let a = c.args in
    (omega arith, subst (λ (n : ℕ). n ≤ length a.buf.now) (sym (size-3 a.z.core c.requires.1)) (omega (arith, c.requires.0)))

pub returns : goal.returns
unfolding pointer_body
returns c =
    let a = c.args in
    let z = a.z in
    let e = a.buf.now in
    let is-2 = c.requires.1 in
    let front = laid_by (contents_of layout3) z.core in
    let first = c.write_by.ensures ∙ ap (λ (n : ℕ). front ++ drop n e) (size-3 z.core is-2) in
    let sixth = z.pointer ∷ c.weight.result ∷ [] in
    let all = next {e = e} {xs = front} sixth 2 102 refl refl c.requires.0 (record { holds = first; long = long-3 z.core is-2 }) c.lay.ensures.0 in
    all.holds ∙ ap (λ (x : ℕ). front ++ (z.pointer ∷ x ∷ []) ++ drop 102 e) c.weight.ensures.0
    ∙ ap (λ (i : List ℕ). i ++ drop 102 e) (laid-3 z is-2)
