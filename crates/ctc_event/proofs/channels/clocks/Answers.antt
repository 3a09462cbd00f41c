-- the clocks by division
use Rattle.std.proofs.Common.{◌≡◌, ℕ, ◌<◌, true, false, sym, ◌∙◌, rules}
use Rattle.basics.specs.Iterate.{iterate}
use Rattle.ctc_rules.specs.declared.Channel.{Channel}
use Rattle.ctc_rules.specs.Channels.{timer_runs}
use Rattle.ctc_laws.specs.Divided.{tick_channel, unticked, timer_counts, timer_after, clocks_after}
use Rattle.ctc_laws.proofs.Parts.{sound-below}
use Rattle.ctc_laws.proofs.Divided.{clocks-by-division}
use Rattle.ctc_event.proofs.channels.clocks.Goals as goal
use Rattle.ctc_event.proofs.channels.clocks.Goals.{Start}

module _ (c : Channel) (n : ℕ) where
  goes : timer_runs c ≡ true → clocks_after c n ≡ timer_after c n (timer_counts c n)
  unfolding clocks_after
  goes e = simp e

  stands : timer_runs c ≡ false → clocks_after c n ≡ unticked c
  unfolding clocks_after
  stands e = simp e

bytes : (c : Start) → (c.args.c.count < 256) × (c.args.c.constant < 256)
bytes c = (search rules, search rules)

divided : (c : Start) → iterate c.args.n tick_channel (unticked c.args.c) ≡ clocks_after c.args.c c.args.n
divided c = clocks-by-division _ (sound-below _ c.requires) (bytes c).0 (bytes c).1 c.args.n

pub returns-then-timer_runs : goal.returns-then-timer_runs
returns-then-timer_runs c =
    c.timer.ensures ∙ sym (goes _ _ (sym c.timer_runs.ensures ∙ c.if-timer_runs.true)) ∙ sym (divided (c.before.before.before))

pub returns : goal.returns
returns c = sym (stands _ _ (sym c.timer_runs.ensures ∙ c.if-timer_runs.false)) ∙ sym (divided c.before.before)
