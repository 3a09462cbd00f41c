-- A record whose catchers stay as they are has caught.
-- Assumes nothing.
use Prim.Native.Nat.{ℕ}
use mathlib.Core.Path.{◌≡◌, sym, ap, ◌∙◌}
use mathlib.Core.Bool.{true}
use mathlib.Core.List.{[], ◌∷◌}
use lib.ListN.{length}
use borrow.Author.Tests.{eqb-true}
use Rattle.rules.specs.declared.Device.{Device}
use Rattle.rules.specs.With.{with_catcher, with_ports}
use Rattle.rules.specs.Record.{bare, port_at}
use Rattle.rules.specs.Step.{caught_at, catchers}
use Rattle.step.specs.Still.{has_caught}
use Rattle.basics.proofs.Lists.{three}
use Rattle.basics.proofs.Tests.{triple}

kept : (d : Device) (p : ℕ) → (caught_at d p).catcher ≡ (port_at d p).catcher → caught_at d p ≡ port_at d p
unfolding caught_at
kept d p h = ap (with_catcher (port_at d p)) h

pub caught-up : (d : Device) → length d.ports ≡ 3 → has_caught d ≡ true → catchers d ≡ d
unfolding catchers has_caught
caught-up d n t =
    let all = triple _ _ _ t in
    let a = kept d 0 (eqb-true _ _ all.0) in
    let b = kept d 1 (eqb-true _ _ all.1) in
    let c = kept d 2 (eqb-true _ _ all.2) in
    let same : caught_at d 0 ∷ caught_at d 1 ∷ caught_at d 2 ∷ [] ≡ port_at d 0 ∷ port_at d 1 ∷ port_at d 2 ∷ [] = λ i. a i ∷ b i ∷ c i ∷ [] in
    ap (with_ports d) (same ∙ sym (three (bare 0) d.ports n))
