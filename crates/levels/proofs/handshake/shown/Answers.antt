use borrow.Author.Rules.{rules}
use mathlib.Core.Path.{◌≡◌, sym, ◌∙◌}
use lib.ListN.{length}
use Rattle.basics.proofs.Lists.{length-mapped}
use Rattle.levels.proofs.Plain.{lined-own}
use Rattle.levels.proofs.handshake.shown.Goals as goal
use Rattle.levels.proofs.handshake.shown.Goals.{Start}

two : (c : Start) → length c.args.d.patterns ≡ 2
two c = search (rules, length-mapped)

pub returns : goal.returns
returns c =
    lined-own c.args.d (sym c.any.ensures ∙ c.if-any.false) (two c.before.before) c.args.x (search rules)
