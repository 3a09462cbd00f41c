use Prim.Native.Nat.{ℕ, ◌<◌}
use mathlib.Core.Path.{◌≡◌, sym, subst, ap₂, ◌∙◌}
use lib.ListN.{length}
use Rattle.rules.specs.declared.Port.{Port}
use Rattle.rules.specs.Registers.{port_enabled}
use Rattle.rules.specs.PortData.{pins_of, pins_at}
use Rattle.basics.proofs.Lists.{length-mapped}
use Rattle.levels.proofs.Plain.{effective-own, value-own}
use borrow.Author.Rules.{rules}
use Rattle.levels.proofs.pins_at.Goals as goal
use Rattle.levels.proofs.pins_at.Goals.{After-port_at-q, Start}

two : (c : Start) → length c.args.d.patterns ≡ 2
two c = search (rules, length-mapped)

bounds : (c : After-port_at-q) → (c.port_at-q.result.direction < 256) × (c.port_at-q.result.special < 256)
bounds c = (search rules, search rules)

pub returns : goal.returns
unfolding pins_at
returns c =
    let d = c.args.d in
    let p = c.args.p in
    let none = sym c.any.ensures ∙ c.if-any.false in
    let e = c.port_at-q.ensures in
    let own = effective-own d none (two c.before.before.before.before.before.before) p (subst (λ (c : Port). c.direction < 256) e (bounds c.before.before).0) (subst (λ (c : Port). c.special < 256) e (bounds c.before.before).1) in
    c.pins-2.ensures
    ∙ (simp (c.port_enabled-enabled.ensures, c.with_outputs.ensures, e))
    ∙ ap₂ (λ (r : Port) (x : ℕ). pins_of (port_enabled d p) r x) own (value-own d none (two c.before.before.before.before.before.before) p)
