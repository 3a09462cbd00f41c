use Rattle.std.proofs.Common.{◌≡◌, length, sym, ◌∙◌, rules}
use Rattle.basics.proofs.Lists.{length-mapped}
use Rattle.ctc_laws.proofs.Parts.{device-parts}
use Rattle.ctc_laws.proofs.Apart.{ran-apart}
use Rattle.ctc_event.proofs.effects.run.Goals as goal
use Rattle.ctc_event.proofs.effects.run.Goals.{Start}

shape : (c : Start) → length c.args.d.channels ≡ 4
shape c = search (rules, length-mapped)

pub clocks-s0-requires : goal.clocks-s0-requires
clocks-s0-requires c = (device-parts _ c.requires).zeroth

pub clocks-s1-requires : goal.clocks-s1-requires
clocks-s1-requires c = (device-parts _ c.requires).first

pub clocks-s2-requires : goal.clocks-s2-requires
clocks-s2-requires c =
    (device-parts _ c.requires).second

pub clocks-s3-requires : goal.clocks-s3-requires
clocks-s3-requires c =
    (device-parts _ c.requires).third

pub returns : goal.returns
returns c =
    (simp (
      c.clocks-s0.ensures,
      c.clocks-s1.ensures,
      c.clocks-s2.ensures,
      c.clocks-s3.ensures,
    )) ∙ sym (ran-apart c.args.n c.args.d (shape (c.before.before.before.before.before.before.before.before.before.before.before.before)))
