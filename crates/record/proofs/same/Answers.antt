use borrow.Author.Rules.{rules}
use mathlib.Core.Path.{◌∙◌}
use Rattle.std.proofs.Math.Bool.{and_assoc}
use Rattle.basics.proofs.Lists.{length-mapped}
use Rattle.rules.specs.Record.{Shaped}
use Rattle.rules.specs.Sound.{same_lines, same_of}
use Rattle.record.proofs.Parts.{source_eq, counter_eq, port_eq, pattern_eq, transfer_eq, vectors-eq, ports-eq, patterns-eq, transfers-eq, counters-eq, sources-eq}
use Rattle.record.proofs.same.Goals as goal
use Rattle.record.proofs.same.Goals.{Start}

one : (c : Start) → Shaped c.args.d
one c =
    record {
      vectors = search (rules, length-mapped);
      ports = search (rules, length-mapped);
      patterns = search (rules, length-mapped);
      transfers = search (rules, length-mapped);
      counters = search (rules, length-mapped);
      sources = search (rules, length-mapped);
    }

other : (c : Start) → Shaped c.args.e
other c =
    record {
      vectors = search (rules, length-mapped);
      ports = search (rules, length-mapped);
      patterns = search (rules, length-mapped);
      transfers = search (rules, length-mapped);
      counters = search (rules, length-mapped);
      sources = search (rules, length-mapped);
    }

pub returns : goal.returns
unfolding same_of same_lines source_eq counter_eq port_eq pattern_eq transfer_eq
returns c =
    let d = c.args.d in
    let e = c.args.e in
    let s = one c.before.before.before in
    let t = other c.before.before.before in
    c.eq.ensures
    ∙ simp (vectors-eq d e s t, ports-eq d e s t, patterns-eq d e s t, transfers-eq d e s t, counters-eq d e s t, sources-eq d e s t, and_assoc)
