-- with the fifth body, and of version 1 without it
use Prim.Native.Nat.{ℕ, ◌+◌, ◌≤◌}
use mathlib.Core.Path.{◌≡◌, refl, sym, ap, subst, ◌∙◌}
use mathlib.Core.List.{List, ◌++◌, append-nil}
use native.Mathlib.Omega.{arith}
use borrow.Author.Tests.{eq-eqb, ne_eqb}
use lib.ListN.{length, drop}
use Rattle.bodies.specs.declared.Bodies.{Bodies}
use Rattle.bodies.specs.Written.{registers_body, counts_body, pins_body, lines_body, transfers_body}
use Rattle.bodies.proofs.Laid.{none, next}
use Rattle.bodies.proofs.Lists.{registers-length}
use Rattle.rules.specs.declared.Device.{Device}
use Rattle.image.specs.Image.{fifth_len, bodies_len, laid_by}
use mathlib.Core.Bool.{Bool, true, false, cond}
use lib.Dec.{eqb}
use Rattle.image.proofs.write_by.Goals as goal

fits : (version n m : ℕ) → eqb version 1 ≡ false → n + (66 + fifth_len version) ≤ m → n + 74 ≤ m
unfolding fifth_len
fits version n m new h = omega (arith, subst (λ (t : Bool). n + (66 + cond t 0 8) ≤ m) new h)

with-fifth : (contents : List ℕ) (d : Device) (e : List ℕ) → eqb d.version 1 ≡ false
    → contents ++ registers_body d ++ counts_body d ++ pins_body d ++ lines_body d ++ transfers_body d ++ drop (length contents + 74) e
    ≡ laid_by contents d ++ drop (length contents + bodies_len d.version) e
unfolding laid_by fifth_len
with-fifth contents d e new = simp new

without : (contents : List ℕ) (d : Device) (e : List ℕ) → eqb d.version 1 ≡ true
    → contents ++ registers_body d ++ counts_body d ++ pins_body d ++ lines_body d ++ drop (length contents + 66) e
    ≡ laid_by contents d ++ drop (length contents + bodies_len d.version) e
unfolding laid_by fifth_len
without contents d e old = simp (old, append-nil)

pub returns-then-d-ne1 : goal.returns-then-d-ne1
unfolding registers_body counts_body pins_body lines_body transfers_body
returns-then-d-ne1 g c =
    let new = ne_eqb _ _ c.if-d-ne1.true in
    let a = c.args in
    let x = c.as_slice-contents.result.now in
    let same = c.as_slice-contents.ensures in
    let room = fits a.d.version _ _ new (subst (λ (y : List ℕ). length y + bodies_len a.d.version ≤ length a.buf.now) (sym same) c.requires) in
    let n = length x in
    let b = c.bodies-b.result in
    let is = c.bodies-b.ensures in
    let l1 = next {n = 0} x n n refl (omega arith) (omega (arith, room)) (none a.buf.now) c.lay.ensures.0 in
    let l2 = next b.registers 48 (n + 48) (ap (λ (x : Bodies). length x.registers) is ∙ registers-length a.d 0 48) refl (omega (arith, room)) l1 c.lay-2.ensures.0 in
    let l3 = next b.counts 9 (n + 57) (ap (λ (x : Bodies). length x.counts) is) (omega arith) (omega (arith, room)) l2 c.lay-3.ensures.0 in
    let l4 = next b.pins 7 (n + 64) (ap (λ (x : Bodies). length x.pins) is) (omega arith) (omega (arith, room)) l3 c.lay-4.ensures.0 in
    let l5 = next b.lines 2 (n + 66) (ap (λ (x : Bodies). length x.lines) is) (omega arith) (omega (arith, room)) l4 c.lay-5.ensures.0 in
    let l6 = next b.transfers 8 (n + 74) (ap (λ (x : Bodies). length x.transfers) is) (omega arith) (omega (arith, room)) l5 c.lay-then-d-ne1.ensures.0 in
    let rest = drop (n + 74) a.buf.now in
    subst (λ (y : List ℕ). c.lay-then-d-ne1.new.buf ≡ laid_by y a.d ++ drop (length y + bodies_len a.d.version) a.buf.now) same
    (l6.holds ∙ ap (λ (b : Bodies). x ++ b.registers ++ b.counts ++ b.pins ++ b.lines ++ b.transfers ++ rest) is
    ∙ with-fifth x a.d a.buf.now new)

pub returns-else-d-ne1 : goal.returns-else-d-ne1
unfolding registers_body counts_body pins_body lines_body transfers_body
returns-else-d-ne1 g c =
    let a = c.args in
    let x = c.as_slice-contents.result.now in
    let same = c.as_slice-contents.ensures in
    let room = subst (λ (y : List ℕ). length y + bodies_len a.d.version ≤ length a.buf.now) (sym same) c.requires in
    let n = length x in
    let b = c.bodies-b.result in
    let is = c.bodies-b.ensures in
    let l1 = next {n = 0} x n n refl (omega arith) (omega (arith, room)) (none a.buf.now) c.lay.ensures.0 in
    let l2 = next b.registers 48 (n + 48) (ap (λ (x : Bodies). length x.registers) is ∙ registers-length a.d 0 48) refl (omega (arith, room)) l1 c.lay-2.ensures.0 in
    let l3 = next b.counts 9 (n + 57) (ap (λ (x : Bodies). length x.counts) is) (omega arith) (omega (arith, room)) l2 c.lay-3.ensures.0 in
    let l4 = next b.pins 7 (n + 64) (ap (λ (x : Bodies). length x.pins) is) (omega arith) (omega (arith, room)) l3 c.lay-4.ensures.0 in
    let l5 = next b.lines 2 (n + 66) (ap (λ (x : Bodies). length x.lines) is) (omega arith) (omega (arith, room)) l4 c.lay-5.ensures.0 in
    let rest = drop (n + 66) a.buf.now in
    subst (λ (y : List ℕ). c.lay-5.new.buf ≡ laid_by y a.d ++ drop (length y + bodies_len a.d.version) a.buf.now) same
    (l5.holds ∙ ap (λ (b : Bodies). x ++ b.registers ++ b.counts ++ b.pins ++ b.lines ++ rest) is
    ∙ without x a.d a.buf.now (eq-eqb _ _ c.if-d-ne1.false))
