-- The counters' outputs that stand for the bits of a port, where no port has a handshake.
-- Assumes nothing.
use Rattle.std.specs.Prelude.{ℕ, if◌then◌else◌, ◌==◌}
use Rattle.rules.specs.declared.Device.{Device}
use Rattle.rules.specs.Record.{counter_at}
use Rattle.rules.specs.PortData.{standing}

-- "CT1 output .. PB4 ..; CT2 PB0 ..; CT3 PC0": the byte x of port p with them
unfoldable pub with_outputs : Device → ℕ → ℕ → ℕ
with_outputs d p x =
    if p == 0 then x else
    if p == 1 then standing d.version (counter_at d 0) 4 (standing d.version (counter_at d 1) 0 x) else
    standing d.version (counter_at d 2) 0 x
