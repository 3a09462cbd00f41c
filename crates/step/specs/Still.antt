-- Whether nothing moves in a step that is no timer clock: then it leaves the record as (a) left it.
-- Assumes nothing.
use Rattle.std.specs.Prelude.{ℕ, Bool, false, not, ◌&&◌, ◌==◌}
use Rattle.std.specs.Bool.{beq}
use Rattle.rules.specs.declared.Device.{Device}
use Rattle.rules.specs.declared.Pattern.{Pattern}
use Rattle.rules.specs.declared.Link.{Link}
use Rattle.rules.specs.Record.{port_at, pattern_at, counter_at}
use Rattle.rules.specs.Registers.{port_enabled, counter_enabled, lc}
use Rattle.rules.specs.Counters.{output_of, unlinked, link_of, reach_of}
use Rattle.rules.specs.PortData.{seen_at}
use Rattle.rules.specs.Patterns.{match_of, event_by}
use Rattle.rules.specs.Step.{lines_at, catchers}
use Rattle.counters.specs.Rests.{rests_by}

-- whether two records have the same catchers, those of the three ports
abbrev pub same_catchers : Device → Device → Bool
same_catchers e d = (port_at e 0).catcher == (port_at d 0).catcher && (port_at e 1).catcher == (port_at d 1).catcher && (port_at e 2).catcher == (port_at d 2).catcher

-- whether the catchers have caught what there is to catch
unfoldable pub has_caught : Device → Bool
has_caught d = same_catchers (catchers d) d

-- the match of a pattern is that of the last step, and no event comes to its port's source
unfoldable pub stands_by : Pattern → Bool → Bool
stands_by q matches = beq matches q.pmf && not (event_by q q.pmf matches)

-- so for port p, with what it saw before the step and what it sees
unfoldable pub stands_at : ℕ → ℕ → Device → Bool
stands_at p before d = stands_by (pattern_at d p) (match_of (port_enabled d p) (pattern_at d p) before (seen_at d p))

-- the turn of counter i with this link leaves the counter as it is: "edges compare before the step with after (a)"
unfoldable pub rests_at : Link → ℕ → Device → Device → Bool
rests_at link i d0 d1 = rests_by (counter_enabled d1 i) (reach_of (counter_at d1 i) link false (lines_at d0 i) (lines_at d1 i)) (counter_at d1 i)

-- CT2's link where CT1 is as (a) left it
abbrev pub link_after : Device → Device → Link
link_after d0 d1 = link_of (lc d1) (output_of d0.version (counter_at d0 0)) (output_of d1.version (counter_at d1 0))

-- the turns of all three leave their counters as they are
unfoldable pub counters_rest : Device → Device → Bool
counters_rest d0 d1 = rests_at unlinked 0 d0 d1 && rests_at (link_after d0 d1) 1 d0 d1 && rests_at unlinked 2 d0 d1

-- "(b) CT1; (c) CT2; (d) CT3; (e) catchers; (f) patterns": nothing happens in any of them
unfoldable pub still : Device → Device → Bool
still d0 d1 = counters_rest d0 d1 && has_caught d1 && (stands_at 0 (seen_at d0 0) d1 && stands_at 1 (seen_at d0 1) d1)
