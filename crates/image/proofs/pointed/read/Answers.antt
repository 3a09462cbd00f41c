use Prim.Native.Nat.{ℕ}
use mathlib.Core.Path.{sym, ap₂, ◌∙◌}
use mathlib.Core.List.{[], ◌∷◌}
use borrow.Author.Tests.{eq-eqb}
use Rattle.std.proofs.Common.{rules}
use Rattle.image.specs.Pointed.{with_pointer}
use Rattle.image.proofs.Numbers.{core-read, core-refused}
use Rattle.image.proofs.pointed.read.Goals as goal

pub returns-in_err-core : goal.returns-in_err-core
returns-in_err-core c =
    let first = eq-eqb _ 3 (sym c.byte_at.ensures ∙ c.if-byte_at-ne3.false) in
    let k = core-refused c.args.s.now first c.in_err-core.field-0.0 c.in_err-core.ensures in
    search rules

pub returns : goal.returns
returns c =
    let first = eq-eqb _ 3 (sym c.byte_at.ensures ∙ c.if-byte_at-ne3.false) in
    let core = c.in_ok-core.core in
    c.with_pointer.ensures
    ∙ ap₂ (λ (x y : ℕ). with_pointer (record { code = 0; device = core }) (x ∷ y ∷ [])) c.byte_at-2.ensures c.byte_at-3.ensures
    ∙ core-read c.args.s.now first core c.in_ok-core.ensures
