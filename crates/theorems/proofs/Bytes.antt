-- Paper 02, W-203: bytes move "in the R, W or P that lets them, never in T"; W-206: nor does one go to the pins in T. And R leaves the
-- record as it is, but for the data of an input port with handshake and the low count bytes.
-- Assumes nothing.
use Prim.Native.Nat.{ℕ, ◌<◌}
use mathlib.Core.Path.{◌≡◌, refl, ap, ◌∙◌}
use mathlib.Core.Bool.{true, false, not, ◌&&◌, So}
use lib.Dec.{eqb}
use borrow.Author.Tests.{eqb-true}
use Rattle.rules.specs.declared.Device.{Device}
use Rattle.rules.specs.declared.Port.{Port}
use Rattle.rules.specs.declared.Event.{Event}
use Rattle.rules.specs.declared.Effect.{Effect}
use Rattle.rules.specs.declared.Answer.{Answer}
use Rattle.rules.specs.declared.Outcome.{Outcome}
use Rattle.basics.specs.Signs.{within}
use Rattle.basics.specs.Byte.{bit}
use Rattle.rules.specs.Record.{port_at}
use Rattle.rules.specs.With.{with_phase}
use Rattle.rules.specs.Registers.{reset}
use Rattle.rules.specs.Step.{ran_of}
use Rattle.rules.specs.Access.{reads_byte, after_read}
use Rattle.rules.specs.Interrupts.{relined}
use Rattle.rules.specs.Events.{is_r, read_effect, effect_of, relit, outcome_of, event_of}
use Rattle.basics.proofs.Tests.{by-test}
use Rattle.theorems.proofs.Refusals.{ways, accepted-sound}
use Rattle.theorems.proofs.Stored.{sound-relined}
use Rattle.theorems.proofs.Frame.{frame_step}
use Rattle.theorems.proofs.Reports.{ran-keeps}

-- T moves no byte
pub bytes-stay : (n : ℕ) (d : Device) → (ran_of n d).device.transfers ≡ d.transfers
bytes-stay n d = ran-keeps (λ (e : Device). e.transfers) (λ e v. refl) (λ e. (frame_step true e (with_phase e false)).transfers) n d

-- and changes no output register
pub outputs-stay : (n : ℕ) (d : Device) (p : ℕ) → p < 3 → (port_at (ran_of n d).device p).output ≡ (port_at d p).output
outputs-stay n d p l =
    ran-keeps (λ (e : Device). (port_at e p).output) (λ e v. refl)
    (λ e. ap (λ (q : Port). q.output) ((frame_step true e (with_phase e false)).ports p l)) n d

-- ---- a read: "reading that low byte returns it, then RCC = 0", at 11H, 13H, 15H
module _ (d : Device) (e : Event) (low : (within 0x10 0x15 e.a && bit e.a 0) ≡ false) (byte : reads_byte d e.a ≡ false) where
  effect-leaves : (read_effect d e.a).device ≡ d
  unfolding read_effect after_read
  effect-leaves = by-test (λ (r : Effect). r.device ≡ d) (reset d && not (eqb e.a 0)) _ _ (λ _. refl) (λ _. simp (low, byte))

  -- any other R leaves the record as it is
  pub read-leaves : So (is_r e) → (event_of d e).device ≡ d
  unfolding outcome_of effect_of relit
  read-leaves r =
      ways d e (λ (o : Outcome Device Answer). o.device ≡ d) (λ _. refl)
      (λ z. simp (eqb-true e.kind 2 r) (ap relined effect-leaves ∙ sound-relined d (accepted-sound d e z))) (λ _. refl)
