-- the record has the parts of a Z8036
use Prim.Native.Nat.{◌<◌}
use mathlib.Core.Path.{sym, ◌∙◌}
use Rattle.rules.specs.declared.Counter.{Counter}
use Rattle.rules.specs.declared.Device.{Device}
use Rattle.rules.specs.Record.{Shaped, counter_at}
use Rattle.basics.proofs.Places.{each3}
use Rattle.theorems.specs.Moving.{Small, alones_after, by_division, besides}
use Rattle.theorems.proofs.Formula.{ran-besides, formula}
use Rattle.basics.proofs.Lists.{length-mapped as of_map}
use borrow.Author.Rules.{rules}
use Rattle.clocks.proofs.parts.Goals as goal

abbrev Words : Counter → Type 0
Words c = (c.count < 65536) × (c.constant < 65536)

-- the counters are words, each by its own call
small : (d : Device) → Words (counter_at d 0) → Words (counter_at d 1) → Words (counter_at d 2) → Small d
small d x y z =
    record {
      counts = each3 (λ i. (counter_at d i).count < 65536) x.0 y.0 z.0;
      constants = each3 (λ i. (counter_at d i).constant < 65536) x.1 y.1 z.1;
    }

pub returns-then-all_apart : goal.returns-then-all_apart
unfolding by_division alones_after
returns-then-all_apart c =
    let few = small c.args.d c.sixteen_bits.ensures c.sixteen_bits-2.ensures c.sixteen_bits-3.ensures in
    let shaped : Shaped c.args.d = record { vectors = search rules; ports = search (rules, of_map); patterns = search (rules, of_map); transfers = search (rules, of_map); counters = search (rules, of_map); sources = search (rules, of_map) } in
    simp (c.with.ensures, c.side-b.ensures, c.part-two.ensures, c.side-a.ensures, c.part-three.ensures, c.part-one.ensures, c.timer_clocks-k.ensures)
    (sym (formula c.args.d c.args.n shaped few c.requires.0 c.requires.1 (sym c.all_apart.ensures ∙ c.if-all_apart.true)))

pub returns : goal.returns
unfolding besides
returns c =
    let few = small c.args.d c.sixteen_bits.ensures c.sixteen_bits-2.ensures c.sixteen_bits-3.ensures in
    let shaped : Shaped c.args.d = record { vectors = search rules; ports = search (rules, of_map); patterns = search (rules, of_map); transfers = search (rules, of_map); counters = search (rules, of_map); sources = search (rules, of_map) } in
    simp (c.with-2.ensures, c.placed-two.ensures, c.linked-pair.ensures, c.side-a.ensures, c.part-three.ensures, c.part-one.ensures, c.timer_clocks-k.ensures)
    (sym (ran-besides c.args.d c.args.n shaped few c.requires.0 c.requires.1))
