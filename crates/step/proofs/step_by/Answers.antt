use mathlib.Core.Path.{ap, ap₂, ◌∙◌}
use Rattle.rules.specs.Counters.{link_of}
use Rattle.basics.proofs.Lists.{length-mapped}
use Rattle.step.proofs.Apart.{turned_with, put-together}
use borrow.Author.Rules.{rules}
use Rattle.step.proofs.step_by.Goals as goal

pub returns : goal.returns
returns c =
    put-together
    _
    _
    _
    (search (rules, length-mapped))
    (search (rules, length-mapped))
    (search (rules, length-mapped))
    c.args.s0.looked
    c.args.s1.looked
    (c.counter_turn-one.ensures ∙ ap (turned_with 0 _) c.inputs.ensures)
    (c.link-k.ensures ∙ ap₂ (link_of _) c.ct1_output.ensures c.output-output.ensures)
    (c.counter_turn-two.ensures ∙ ap (turned_with 1 _) c.inputs-2.ensures)
    (c.counter_turn-three.ensures ∙ ap (turned_with 2 _) c.inputs-3.ensures)
    c.caught_ports-e.ensures
    c.look-s.ensures
    c.pattern_turn-a.ensures
    c.pattern_turn-b.ensures
