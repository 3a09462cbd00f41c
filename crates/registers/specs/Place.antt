-- The place that a register's kind names, and how many such places there are: three vectors, ports and counters, two patterns.
-- Assumes nothing.
use Rattle.std.specs.Prelude.{ℕ}
use Rattle.rules.specs.declared.Kind.{Kind}
use Rattle.rules.specs.declared.Kind.TheVariants.{Master, Config, Vector, Polarity, Direction, Special, PortCommand, CounterCommand, Data}
use Rattle.rules.specs.declared.Kind.TheVariants.{Current, Constant, CounterMode, CurrentVector, PortMode, Handshake, PatternPolarity, Transition, Mask, Absent}

-- the place that a kind names
abbrev pub place : Kind → ℕ
place Master = 0
place Config = 0
place (Vector v) = v
place (Polarity p) = p
place (Direction p) = p
place (Special p) = p
place (PortCommand p) = p
place (CounterCommand i) = i
place (Data p) = p
place (Current i high) = i
place (Constant i high) = i
place (CounterMode i) = i
place CurrentVector = 0
place (PortMode p) = p
place (Handshake p) = p
place (PatternPolarity p) = p
place (Transition p) = p
place (Mask p) = p
place Absent = 0

-- how many places it may be of
abbrev pub places : Kind → ℕ
places Master = 1
places Config = 1
places (Vector v) = 3
places (Polarity p) = 3
places (Direction p) = 3
places (Special p) = 3
places (PortCommand p) = 2
places (CounterCommand i) = 3
places (Data p) = 3
places (Current i high) = 3
places (Constant i high) = 3
places (CounterMode i) = 3
places CurrentVector = 1
places (PortMode p) = 2
places (Handshake p) = 2
places (PatternPolarity p) = 2
places (Transition p) = 2
places (Mask p) = 2
places Absent = 1
