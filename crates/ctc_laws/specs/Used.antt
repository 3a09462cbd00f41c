-- docs/CTC.md, "Events and their answers": "Numbers that a kind does not use are ignored.": which numbers each kind uses.
-- Assumes nothing.
use Rattle.std.specs.Prelude.{◌||◌, if◌then◌else◌}
use Rattle.rules.specs.declared.Event.{Event}
use Rattle.rules.specs.Events.{is_x, is_w, is_k, unknown}
use Rattle.theorems.specs.Used.{of}

-- the event with 0 for the numbers that its kind does not use: "X, W channel byte, R channel, P a b c, T n, K, E v", and "b and c, are ignored"
unfoldable pub used_ctc : Event → Event
used_ctc e = of e.kind (if is_x e || is_k e || unknown e then 0 else e.a) (if is_w e then e.b else 0) 0
