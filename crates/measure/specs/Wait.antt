-- W-201, "How long an interrupt waits": one source.
-- Assumes nothing.
use Rattle.std.specs.Prelude.{ℕ, ◌+◌, ◌-◌, ◌%◌, ◌^◌, Bool, not, ◌&&◌, ◌||◌, Option, Some, None, nat_lt, if◌then◌else◌, ◌==◌}
use Rattle.measure.specs.declared.Wait.{Wait}

-- a source with none: no wait, "four zeros"
abbrev pub none : Wait
none = record { since = None; acknowledged = 0; least = 0; greatest = 0; sum = 0 }

-- a wait that starts where the trace has `now` clocks; one that ran is dropped
abbrev pub begun : ℕ → Wait → Wait
begun now w =
    record {
      since = Some now;
      acknowledged = w.acknowledged;
      least = w.least;
      greatest = w.greatest;
      sum = w.sum;
    }

-- no wait runs; one that ran is dropped
abbrev pub dropped : Wait → Wait
dropped w =
    record {
      since = None;
      acknowledged = w.acknowledged;
      least = w.least;
      greatest = w.greatest;
      sum = w.sum;
    }

-- "A wait runs from the step that turned IP from 0 to 1, or set it anew from the hidden error"; "nor is an IP cleared first"
-- counted: a step or clock at whose end the trace has `now` clocks, with IP before it and after it, and whether it cleared IP in between
unfoldable pub moved : Bool → Bool → Bool → ℕ → Wait → Wait
moved was cleared is now w =
    if is && (not was || cleared) then begun now w else
    if is then w else
    dropped w

-- "Sums are 64 bits."
abbrev pub sum64 : ℕ → ℕ → ℕ
sum64 a b = (a + b) % 2 ^ 64

-- the least and the greatest with one more, of n clocks
unfoldable pub least_with : ℕ → Wait → ℕ
least_with n w = if w.acknowledged == 0 then n else if nat_lt n w.least then n else w.least

unfoldable pub greatest_with : ℕ → Wait → ℕ
greatest_with n w = if nat_lt w.greatest n then n else w.greatest

-- "how many requests were acknowledged, and the least, greatest and summed wait in PCLK clocks": with one more, of n clocks
abbrev pub added : ℕ → Wait → Wait
added n w =
    record {
      since = None;
      acknowledged = sum64 w.acknowledged 1;
      least = least_with n w;
      greatest = greatest_with n w;
      sum = sum64 w.sum n;
    }

-- "to the first K after it that set that source's IUS; a later K for the same IP isn't counted"
abbrev pub counted_since : Option ℕ → ℕ → Wait → Wait
counted_since (Some from) now w = added (now - from) w
counted_since None now w = w

unfoldable pub counted : ℕ → Wait → Wait
counted now w = counted_since w.since now w
