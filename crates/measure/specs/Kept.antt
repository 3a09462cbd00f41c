-- What holds of the measure of any trace, from its start on (proofs/Kept.antt), for the record that stands beside it.
-- Assumes nothing.
use Rattle.std.specs.Prelude.{◌≡◌, ℕ, ◌+◌, ◌-◌, ◌*◌, ◌≤◌, Bool, true, Option, Some, None, IsSome, IfSome}
use Rattle.rules.specs.declared.Device.{Device}
use Rattle.rules.specs.Record.{source_at}
use Rattle.measure.specs.declared.Wait.{Wait}
use Rattle.measure.specs.declared.Measure.{Measure}
use Rattle.measure.specs.Wait.{none, dropped}
use Rattle.measure.specs.Measure.{wait_at, most_clocks}

-- how long the wait that runs has lasted, where the trace has `now` clocks
abbrev pub lasted_since : Option ℕ → ℕ → ℕ
lasted_since (Some from) now = now - from
lasted_since None now = 0

abbrev pub lasted : ℕ → Wait → ℕ
lasted now w = lasted_since w.since now

-- one source, with its IP, after that many events and `now` clocks
pub record Fair (events now : ℕ) (ip : Bool) (w : Wait) : Type 0 where
  -- a wait runs only while IP stands, from a clock of the trace
  pub stands : IsSome w.since → ip ≡ true
  pub since : IfSome w.since (λ from. from ≤ now)
  -- waits never overlap
  pub apart : w.sum + lasted now w ≤ now
  pub order : w.least ≤ w.greatest
  pub low : w.acknowledged * w.least ≤ w.sum
  pub high : w.sum ≤ w.acknowledged * w.greatest
  -- each K counts once
  pub few : w.acknowledged ≤ events
  -- "a source with none shows four zeros"
  pub zeros : w.acknowledged ≡ 0 → dropped w ≡ none

pub record Kept (events : ℕ) (m : Measure) (d : Device) : Type 0 where
  pub clocks : m.clocks ≤ most_clocks
  pub waits : (k : ℕ) → Fair events m.clocks (source_at d k).ip (wait_at m k)
