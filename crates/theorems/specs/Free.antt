-- Paper 01, "Counters", its last paragraph: a free-running counter over T n, by division; and paper 02, W-202: its lost terminals,
-- W-205: its pulse.
-- Assumes nothing.
use Rattle.std.specs.Prelude.{ℕ, ◌+◌, ◌-◌, ◌/◌, ◌%◌, ◌≡◌, Bool, true, false, not, ◌&&◌, ◌||◌, cond, eqb, ltb, leb, if◌then◌else◌, ◌==◌}
use Rattle.rules.specs.declared.Device.{Device}
use Rattle.rules.specs.declared.Source.{Source}
use Rattle.basics.specs.Byte.{bit, num}
use Rattle.rules.specs.Record.{counter_at}
use Rattle.rules.specs.Registers.{counter_enabled, lc}
use Rattle.rules.specs.Counters.{continuous, count_input, gate_input, square}
use Rattle.rules.specs.Step.{lines_at}

-- "A counter is free-running when it is enabled, CIP = 1, GCB = 1, its enabled gate line is 1, count input is off, and it is
-- continuous and not square; counter 2 also needs LC 00." (The gate is D3 of the counter's lines; counter 2 stands at 1.)
pub record Free (d : Device) (i : ℕ) : Type 0 where
  pub enabled : counter_enabled d i ≡ true
  pub cip : (counter_at d i).cip ≡ true
  pub gcb : (counter_at d i).gcb ≡ true
  pub gate : (not (gate_input (counter_at d i)) || bit (lines_at d i) 3) ≡ true
  pub clocked : count_input (counter_at d i) ≡ false
  pub continues : continuous (counter_at d i) ≡ true
  pub not_square : square (counter_at d i) ≡ false
  pub unlinked : i ≡ 1 → lc d ≡ 0

-- "Over T n there are k = (n + phase) / 2 timer clocks, rounded down."
abbrev pub timer_clocks : Device → ℕ → ℕ
timer_clocks d n = (n + num d.phase) / 2

-- "0 read as 65,536", over the modulus
unfoldable pub full_of : ℕ → ℕ → ℕ
full_of modulus n = cond (eqb n 0) modulus n

-- "Let c be its count and t its constant, 0 read as 65,536 in both. If k < c: no terminal, and count c - k.
-- Else: 1 + (k - c) / t terminals, rounded down": for c and t already so read
unfoldable pub terminals_after : ℕ → ℕ → ℕ → ℕ
terminals_after c t k = cond (ltb k c) 0 (1 + (k - c) / t)

-- "and count t less the remainder of (k - c) by t."
unfoldable pub count_after : ℕ → ℕ → ℕ → ℕ
count_after c t k = cond (ltb k c) (c - k) (t - (k - c) % t)

-- ---- "lost terminals for counters 1 to 3" (paper 02, W-202): the terminals less the free places of the counter's source, not under 0
-- (docs/DECISIONS.md, V10). One place is free with IP 0, and one with neither ERR nor the hidden error.
unfoldable pub free_places : Source → ℕ
free_places s = num (not s.ip) + num (not (s.err || s.hidden))

-- how many of n terminals the source loses
unfoldable pub lost_after : Source → ℕ → ℕ
lost_after s n = n - free_places s

-- ---- the pulse, "high from a terminal count until the counter's next count clock .. that isn't itself terminal" (paper 02, W-205): in
-- version 2, after k timer clocks, it is kept if there was none, else 1 exactly if the last was terminal (docs/DECISIONS.md, V10). Clock k is
-- terminal where k is c, or c and some times t.
unfoldable pub pulse_after : ℕ → ℕ → Bool → ℕ → Bool
pulse_after c t pulse k = if k == 0 then pulse else leb c k && (k - c) % t == 0
