use native.Mathlib.Omega.{arith}
use Rattle.rules.specs.Events.{effect_of}
use Rattle.event.proofs.Accepted.{a_byte, pin-levels}
use Rattle.event.proofs.Resets.{reset-written}
use Rattle.event.proofs.effects.effect_of.Goals as goal

pub overflow_cast-e : goal.overflow_cast-e
overflow_cast-e c = record { fits = a_byte _ c.requires c.in-1.is }

pub overflow_cast-e-in-3 : goal.overflow_cast-e-in-3
overflow_cast-e-in-3 c = record { fits = (pin-levels _ c.requires c.in-3.is).0 }

pub overflow_cast-e-in-3-2 : goal.overflow_cast-e-in-3-2
overflow_cast-e-in-3-2 c = record { fits = (pin-levels _ c.requires c.in-3.is).1 }

pub overflow_cast-e-in-3-3 : goal.overflow_cast-e-in-3-3
overflow_cast-e-in-3-3 c = omega (arith, (pin-levels _ c.requires c.in-3.is).2)

pub returns-in-0 : goal.returns-in-0
unfolding effect_of
returns-in-0 c = simp (c.in-0.is, c.write_effect.ensures, reset-written)
