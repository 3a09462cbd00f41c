use borrow.Author.Rules.{rules}
use Prim.Native.Nat.{◌<◌}
use mathlib.Core.Path.{◌≡◌, sym, subst, ◌∙◌}
use lib.ListN.{length}
use Rattle.rules.specs.declared.Port.{Port}
use Rattle.basics.proofs.Lists.{length-mapped}
use Rattle.levels.proofs.Plain.{effective-own}
use Rattle.levels.proofs.effective_at.Goals as goal
use Rattle.levels.proofs.effective_at.Goals.{Start}

two : (c : Start) → length c.args.d.patterns ≡ 2
two c = search (rules, length-mapped)

pub returns : goal.returns
returns c =
    let e = c.port_at.ensures in
    e ∙ effective-own c.args.d (sym c.any.ensures ∙ c.if-any.false) (two c.before.before.before) c.args.p
    (subst (λ (q : Port). q.direction < 256) e (search rules)) (subst (λ (q : Port). q.special < 256) e (search rules))
