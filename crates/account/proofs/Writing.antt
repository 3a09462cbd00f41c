-- W, to a port with handshake: the data of an output port stores a byte; any other write that the port stands is a step that keeps it.
-- Assumes nothing.
use Rattle.std.specs.Prelude.{◌==◌}
use Prim.Native.Nat.{ℕ, ◌+◌, ◌<◌}
use mathlib.Core.Path.{◌≡◌, sym, ap, subst, ◌∙◌}
use mathlib.Core.Bool.{true, false, not, ◌&&◌, So, and-false, and-true, or-false}
use mathlib.Core.List.{[], ◌∷◌}
use native.Mathlib.Omega.{arith}
use borrow.Author.Tests.{eqb-true, eq-eqb, ltb-false}
use Rattle.rules.specs.declared.Device.{Device}
use Rattle.rules.specs.declared.Event.{Event}
use Rattle.rules.specs.declared.Kind.{Kind}
use Rattle.rules.specs.declared.Pattern.{Pattern}
use Rattle.rules.specs.Record.{pattern_at}
use Rattle.rules.specs.Registers.{kind_of}
use Rattle.rules.specs.Handshakes.{outputs, ore_at}
use Rattle.rules.specs.Moves.{moves_of, stored_at}
use Rattle.rules.specs.Step.{step_of}
use Rattle.rules.specs.Access.{writes_byte, data_written, written_of}
use Rattle.rules.specs.Sound.{sound_of}
use Rattle.rules.specs.Events.{is_w, unknown, no_register, too_large, no_room, effect, write_effect}
use Rattle.rules.specs.Events.{effect_of}
use Rattle.basics.proofs.Tests.{so-both, left, right, each, not_so}
use Rattle.theorems.proofs.Refusals.{code-0, code-10}
use Rattle.theorems.proofs.Shapes.{written-shaped}
use Rattle.account.specs.Account.{after, is_accepted, data_written_by, ends_account}
use Rattle.account.proofs.Kept.{Around}
use Rattle.account.proofs.Written.{agree, written-kept}
use Rattle.account.proofs.Turns.{either, Standing, Turn, steps, stores, awake}
use Rattle.account.proofs.Turns.{code, unread, around-by, data-kind, data-within, data-port}

module _ (p : ℕ) (l : p < 2) (d : Device) (h : Standing p d) (e : Event) (taken : is_accepted d e ≡ true) (w : So (is_w e)) where
  abbrev q : Pattern
  q = pattern_at d p

  abbrev kind : Kind
  kind = kind_of e.a

  is_one : e.kind ≡ 1
  is_one = eqb-true e.kind 1 w

  write-is : effect_of d e ≡ effect (step_of false d (moves_of d (written_of d kind e.b))).device 0
  unfolding effect_of write_effect
  write-is = simp (is_one, awake p l d h)

  around : Around p d (written_of d kind e.b) (after d e)
  around = around-by p d e taken l _ (written-shaped d h.shaped kind e.b) write-is

  -- to the data of an output port: the byte is stored
  module _ (t : So (e.a == 0x0D + p && outputs q)) where
    data-place : e.a ≡ 0x0D + p
    data-place = eqb-true e.a (0x0D + p) (left (e.a == 0x0D + p) (outputs q) t)

    output-port : So (outputs q)
    output-port = right (e.a == 0x0D + p) (outputs q) t

    stored : written_of d kind e.b ≡ stored_at d p e.b
    unfolding written_of data_written
    stored = ap (λ (c : Kind). written_of d c e.b) (ap kind_of data-place ∙ data-kind p l) ∙ (simp (output-port, h.enabled))

    unlarge : So (not (too_large e))
    unlarge = each (sound_of d ∷ not (unknown e) ∷ not (no_register e) ∷ not (too_large e) ∷ _ ∷ []) ((code-0 d e).0 (code p d e taken)) 3

    small : e.b < 256
    unfolding too_large
    small = let most = ltb-false 255 e.b (simp (is_one, or-false) at (not_so (too_large e) unlarge)) in omega (arith, most)

    full : ore_at d p ≡ false → So (no_room d e)
    unfolding no_room writes_byte
    full z = simp (w, data-within p e.a l data-place, data-port p e.a data-place, output-port, z)

    room : So (ore_at d p)
    room =
        either (ore_at d p) (λ r. r)
        (λ z. absurd (omega (arith, code p d e taken, (code-10 d e).1 (so-both (so-both h.sound unlarge) (full z)))))

    writes : data_written_by p d e ≡ e.b ∷ []
    unfolding data_written_by
    writes = simp (w, eq-eqb e.a (0x0D + p) data-place, taken)

    stored-turn : Turn p d e
    stored-turn = stores output-port room small (subst (λ (f : Device). Around p d f (after d e)) stored around) writes

  -- to anything else, but what a port does not stand: it is kept
  other-turn : ends_account p d e ≡ false → (e.a == 0x0D + p && outputs q) ≡ false → Turn p d e
  unfolding ends_account data_written_by
  other-turn stays z =
      let undropped = simp (taken, is_one) at stays in
      steps (written_of d kind e.b)
      (written-kept p l d h.enabled kind e.b (sym (agree p l _ _ _ e.a) ∙ (simp (undropped, z)))) around
      (record {
        written = λ o. let not-here = simp (o, and-true) at z in simp (not-here, and-false);
        read = λ _. unread p d e (simp is_one);
      })

  pub write-turn : ends_account p d e ≡ false → Turn p d e
  write-turn stays = either (e.a == 0x0D + p && outputs q) stored-turn (other-turn stays)
