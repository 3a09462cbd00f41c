-- the catchers by the outside levels
use Rattle.rules.specs.Record.{port_at}
use Prim.Native.Nat.{ℕ}
use mathlib.Core.Path.{◌≡◌, sym, ap, ap₂, ◌∙◌}
use mathlib.Core.Bool.{Bool}
use lib.Bits.{bit_xor}
use Rattle.rules.specs.declared.Device.{Device}
use Rattle.rules.specs.declared.Port.{Port}
use Rattle.rules.specs.Registers.{port_enabled}
use Rattle.rules.specs.With.{with_catcher}
use Rattle.rules.specs.PortData.{effective_at, value_at, pins_at, path_at, caught_of}
use Rattle.rules.specs.Step.{caught_at}
use Rattle.levels.proofs.Catching.{caught-outside}
use Rattle.step.proofs.caught_at.Goals as goal

caught-here : (d : Device) (p i x : ℕ) (e : Bool) (r : Port) → i ≡ p → e ≡ port_enabled d i → r ≡ effective_at d i → x ≡ caught_of e r (bit_xor r.outside r.polarity)
    → with_catcher (port_at d i) x ≡ caught_at d p
unfolding caught_at path_at pins_at
caught-here d p i x e r s f g h =
    ap (with_catcher (port_at d i))
    (h
    ∙ ap₂ (λ (b : Bool) (q : Port). caught_of b q (bit_xor q.outside q.polarity)) f g
    ∙ sym (caught-outside (port_enabled d i) (effective_at d i) (value_at d i)))
    ∙ ap (λ (n : ℕ). caught_at d n) s

pub returns : goal.returns
returns c = caught-here c.args.d c.args.p _ _ _ _ c.index-p.ensures.same c.port_on.ensures c.effective_at-r.ensures c.caught.ensures
