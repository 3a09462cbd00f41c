-- Every event has its turn: X is one that a port does not stand, P a step; T, K and E leave the port as it is, and so does a refusal.
-- Assumes nothing.
use Prim.Native.Nat.{ℕ, ◌<◌}
use mathlib.Core.Path.{◌≡◌, refl}
use mathlib.Core.Bool.{true, false, So}
use borrow.Author.Tests.{eqb-true}
use Rattle.rules.specs.declared.Device.{Device}
use Rattle.rules.specs.declared.Event.{Event}
use Rattle.rules.specs.Interrupts.{acknowledged}
use Rattle.rules.specs.Events.{is_x, is_w, is_r, is_p, is_t, is_k, outside_set, pins_effect}
use Rattle.rules.specs.Events.{clocks_effect, acknowledge_effect, iei_effect, effect_of}
use Rattle.basics.proofs.Tests.{never}
use Rattle.theorems.proofs.Shapes.{outside-shaped}
use Rattle.account.specs.Account.{is_accepted, ends_account}
use Rattle.account.proofs.Kept.{kept_same, alike_same, ran-alike, ran-transfer}
use Rattle.account.proofs.Turns.{either, Standing, Turn, steps, neither, refused, rests-by, around-by}
use Rattle.account.proofs.Writing.{write-turn}
use Rattle.account.proofs.Reading.{read-turn}

module _ (p : ℕ) (l : p < 2) (d : Device) (h : Standing p d) (e : Event) (stays : ends_account p d e ≡ false) (taken : is_accepted d e ≡ true) where
  reset-turn : So (is_x e) → Turn p d e
  unfolding ends_account
  reset-turn x = never stays (simp (taken, x))

  pins-turn : So (is_p e) → Turn p d e
  unfolding effect_of pins_effect outside_set
  pins-turn q =
      let n = eqb-true e.kind 3 q in
      let d1 = outside_set d e.a e.b e.c in
      steps d1 (kept_same p d d1 refl refl refl) (around-by p d e taken l d1 (outside-shaped d h.shaped e.a e.b e.c) (simp n))
      (neither p d e (simp n) (simp n))

  clocks-turn : So (is_t e) → Turn p d e
  unfolding effect_of clocks_effect
  clocks-turn q =
      let n = eqb-true e.kind 4 q in
      rests-by p d e taken (clocks_effect d e.a) (simp n) (ran-alike e.a d) (ran-transfer e.a d p) (neither p d e (simp n) (simp n))

  acknowledge-turn : So (is_k e) → Turn p d e
  unfolding effect_of acknowledge_effect acknowledged
  acknowledge-turn q =
      let n = eqb-true e.kind 5 q in
      rests-by p d e taken (acknowledge_effect d) (simp n) (alike_same d _ refl refl refl) refl (neither p d e (simp n) (simp n))

  accepted-turn : Turn p d e
  unfolding effect_of iei_effect
  accepted-turn =
      either (is_x e) reset-turn
      (λ x.
      either (is_w e) (λ w. write-turn p l d h e taken w stays)
      (λ w.
      either (is_r e) (read-turn p l d h e taken)
      (λ r.
      either (is_p e) pins-turn
      (λ q.
      either (is_t e) clocks-turn
      (λ t.
      either (is_k e) acknowledge-turn
      (λ a.
      rests-by p d e taken (iei_effect d e.a) (simp (x, w, r, q, t, a)) (alike_same d _ refl refl refl) refl (neither p d e w r)))))))

pub turn : (p : ℕ) → p < 2 → (d : Device) → Standing p d → (e : Event) → ends_account p d e ≡ false → Turn p d e
turn p l d h e stays = either (is_accepted d e) (accepted-turn p l d h e stays) (refused p d e)
