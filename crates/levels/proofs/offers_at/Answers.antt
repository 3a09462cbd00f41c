-- past the two ports nothing is held to be offered
use borrow.Author.Rules.{rules}
use borrow.Author.Tests.{ltb-false}
use Prim.Native.Nat.{ℕ, ◌≤◌}
use mathlib.Core.Path.{◌≡◌, refl, sym, ◌∙◌}
use mathlib.Core.Bool.{Bool, true, false, cond, and-false}
use lib.Dec.{ltb}
use lib.ListN.{length}
use Rattle.std.specs.Prelude.{Some, None}
use Rattle.basics.proofs.Lists.{length-mapped}
use Rattle.rules.specs.declared.Device.{Device}
use Rattle.rules.specs.Record.{blank, vacant}
use Rattle.rules.specs.Handshakes.{available_of, offers_at}
use Rattle.levels.proofs.Plain.{past}
use Rattle.levels.proofs.offers_at.Goals as goal
use Rattle.levels.proofs.offers_at.Goals.{Start}

two : (c : Start) → length c.args.d.patterns ≡ 2
two c = search (rules, length-mapped)

two-held : (c : Start) → length c.args.d.transfers ≡ 2
two-held c = search (rules, length-mapped)

nothing : (d : Device) (p : ℕ) → length d.patterns ≡ 2 → length d.transfers ≡ 2 → 2 ≤ p → false ≡ offers_at d p
unfolding offers_at available_of
nothing d p h g l = simp (past blank d.patterns h p l, past vacant d.transfers g p l, and-false)

none-past : (b : Bool) (p : ℕ) → None ≡ cond b (Some p) None → b ≡ false
none-past true p h = absurd (cc)
none-past false p h = refl

pub returns-in-None : goal.returns-in-None
returns-in-None c =
    let a = c.args in
    let h = none-past (ltb a.p 2) a.p (sym c.in-None.is ∙ c.of.ensures) in nothing a.d a.p (two c.before.before) (two-held c.before.before) (ltb-false a.p 2 h)
