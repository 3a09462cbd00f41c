-- One source over the clocks of a T, and the clock at which its IP rises.
-- Assumes nothing.
use Rattle.std.specs.Prelude.{◌≡◌, ℕ, zero, suc, ◌+◌, ◌-◌, ◌<◌, ◌≤◌, Bool, true, false}
use Rattle.rules.specs.declared.Device.{Device}
use Rattle.rules.specs.Record.{source_at}
use Rattle.rules.specs.Step.{ran_of}
use Rattle.measure.specs.declared.Wait.{Wait}
use Rattle.measure.specs.declared.rises.Search.{Search}
use Rattle.measure.specs.Wait.{moved}

-- IP of source k, n clocks after the record d
abbrev pub ip_after : ℕ → Device → ℕ → Bool
ip_after k d n = (source_at (ran_of n d).device k).ip

-- what n clocks, one by one, do to its wait, where the trace has `now` clocks before them
unfoldable pub waited : ℕ → Device → ℕ → Wait → ℕ → Wait
waited k d now w zero = w
waited k d now w (suc n) = moved (ip_after k d n) false (ip_after k d (suc n)) (now + suc n) (waited k d now w n)

-- it rises at clock r of n
pub record Rises (k : ℕ) (d : Device) (n r : ℕ) : Type 0 where
  pub some : 0 < r
  pub within : r ≤ n
  pub before : ip_after k d (r - 1) ≡ false
  pub after : ip_after k d r ≡ true

-- the search: not yet after the clocks that are passed, but after those that are left, and all these are among n
pub record Between (k : ℕ) (d : Device) (n : ℕ) (s : Search) : Type 0 where
  pub here : s.device ≡ (ran_of s.passed d).device
  pub some : 0 < s.left
  pub within : s.passed + s.left ≤ n
  pub before : ip_after k d s.passed ≡ false
  pub after : ip_after k d (s.passed + s.left) ≡ true
