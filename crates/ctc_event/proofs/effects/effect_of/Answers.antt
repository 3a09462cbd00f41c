use Rattle.ctc_laws.proofs.Accepted.{sound, written-channel, read-channel, a_byte, some-levels}
use Rattle.ctc_event.proofs.effects.effect_of.Goals as goal

pub overflow_cast-e-in-1 : goal.overflow_cast-e-in-1
overflow_cast-e-in-1 c = record { fits = a_byte _ _ c.requires c.in-1.is }

pub invariant_of-write : goal.invariant_of-write
invariant_of-write c = written-channel _ _ c.requires c.in-1.is

pub bounds-d-e : goal.bounds-d-e
bounds-d-e c = read-channel _ _ c.requires c.in-2.is

pub overflow_cast-e-in-3 : goal.overflow_cast-e-in-3
overflow_cast-e-in-3 c = record { fits = some-levels _ _ c.requires c.in-3.is }

pub clocks-requires : goal.clocks-requires
clocks-requires c = sound _ _ c.requires
