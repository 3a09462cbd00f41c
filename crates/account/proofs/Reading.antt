-- R, of a port with handshake: the data of an input port gives its front byte; any other read leaves the port as it is.
-- Assumes nothing.
use Rattle.std.specs.Prelude.{◌==◌}
use Prim.Native.Nat.{ℕ, ◌+◌, ◌-◌, ◌<◌}
use mathlib.Core.Path.{◌≡◌, refl, sym, ap, subst, ◌∙◌}
use mathlib.Core.Bool.{true, false, ◌&&◌, So, and-false, and-true}
use mathlib.Core.List.{[], ◌∷◌}
use native.Mathlib.Omega.{arith}
use lib.Dec.{leb}
use borrow.Author.Tests.{eqb-true, eq-eqb, ne_eqb, leb-true, lt-leb}
use Rattle.rules.specs.declared.Device.{Device}
use Rattle.rules.specs.declared.Event.{Event}
use Rattle.rules.specs.declared.Pattern.{Pattern}
use Rattle.basics.specs.Signs.{within}
use Rattle.basics.specs.Byte.{bit}
use Rattle.rules.specs.Record.{pattern_at, transfer_at}
use Rattle.rules.specs.Registers.{kind_of}
use Rattle.rules.specs.Handshakes.{inputs, irf_at}
use Rattle.rules.specs.PortData.{data_at}
use Rattle.rules.specs.Interrupts.{relined}
use Rattle.rules.specs.Moves.{given_at}
use Rattle.rules.specs.Access.{read_of, reads_byte, after_read}
use Rattle.rules.specs.Events.{is_r, no_byte, effect, read_effect}
use Rattle.rules.specs.Events.{effect_of}
use Rattle.basics.proofs.Tests.{so-both, left, right, never, by-test}
use Rattle.theorems.proofs.Refusals.{code-11}
use Rattle.account.specs.Account.{is_accepted, read_by}
use Rattle.account.proofs.Kept.{Alike, alike_same, alike_refl, given-alike, given-other}
use Rattle.account.proofs.Turns.{either, Standing, Turn, gives, awake, code, after-by}
use Rattle.account.proofs.Turns.{value-by, unwritten, rests-by, data-kind, data-within, data-port}

module _ (p : ℕ) (l : p < 2) (d : Device) (h : Standing p d) (e : Event) (taken : is_accepted d e ≡ true) (r : So (is_r e)) where
  abbrev q : Pattern
  q = pattern_at d p

  is-two : e.kind ≡ 2
  is-two = eqb-true e.kind 2 r

  read_is : effect_of d e ≡ effect (after_read d e.a) (read_of d (kind_of e.a))
  unfolding effect_of read_effect
  read_is = simp (is-two, awake p l d h)

  -- of the data of an input port: the front byte
  module _ (t : So (e.a == 0x0D + p && inputs q)) where
    read-place : e.a ≡ 0x0D + p
    read-place = eqb-true e.a (0x0D + p) (left (e.a == 0x0D + p) (inputs q) t)

    input-port : So (inputs q)
    input-port = right (e.a == 0x0D + p) (inputs q) t

    given : after_read d e.a ≡ given_at d p
    unfolding after_read reads_byte
    given =
        let no-count = lt-leb 0x10 e.a (omega (arith, l, read-place)) in
        simp (no-count, data-within p e.a l read-place, data-port p e.a read-place, input-port)

    none : irf_at d p ≡ false → So (no_byte d e)
    unfolding no_byte reads_byte
    none z = simp (r, data-within p e.a l read-place, data-port p e.a read-place, input-port, z)

    some : So (irf_at d p)
    some = either (irf_at d p) (λ i. i) (λ z. absurd (omega (arith, code p d e taken, (code-11 d e).1 (so-both h.sound (none z)))))

    front : read_of d (kind_of e.a) ≡ (transfer_at d p).front
    unfolding read_of data_at
    front = ap (read_of d) (ap kind_of read-place ∙ data-kind p l) ∙ (simp (ne_eqb p 2 (λ c. omega (arith, l, c)), input-port))

    reads : read_by p d e ≡ (transfer_at d p).front ∷ []
    unfolding read_by
    reads = simp (r, eq-eqb e.a (0x0D + p) read-place, taken, value-by p d e taken _ read_is, front)

    given-turn : Turn p d e
    given-turn = gives input-port some (after-by p d e taken _ read_is ∙ ap relined given) reads

  -- of anything else
  module _ (z : (e.a == 0x0D + p && inputs q) ≡ false) where
    reads_other : So (reads_byte d e.a) → p ≡ e.a - 0x0D → ⊥
    unfolding reads_byte
    reads_other b same =
        let data-read = within 0x0D 0x0E e.a in
        let of-input = inputs (pattern_at d (e.a - 0x0D)) in
        let low = leb-true 0x0D e.a (left (leb 0x0D e.a) (leb e.a 0x0E) (left data-read of-input b)) in
        never z
        (so-both (eq-eqb e.a (0x0D + p) (omega (arith, low, same)))
        (subst (λ (j : ℕ). So (inputs (pattern_at d j))) (sym same) (right data-read of-input b)))

    read_alike : Alike d (after_read d e.a)
    unfolding after_read
    read_alike =
        by-test (Alike d) (within 0x10 0x15 e.a && bit e.a 0) _ _ (λ _. alike_same d _ refl refl refl)
        (λ _. by-test (Alike d) (reads_byte d e.a) _ d (λ _. given-alike d (e.a - 0x0D)) (λ _. alike_refl d))

    abbrev Held : Device → Type 0
    Held f = transfer_at f p ≡ transfer_at d p

    read_held : Held (after_read d e.a)
    unfolding after_read
    read_held =
        by-test Held (within 0x10 0x15 e.a && bit e.a 0) _ _ (λ _. refl)
        (λ _. by-test Held (reads_byte d e.a) _ d (λ b. given-other d p (e.a - 0x0D) (reads_other b)) (λ _. refl))

    unread-turn : Turn p d e
    unfolding read_by
    unread-turn =
        rests-by p d e taken _ read_is read_alike read_held
        (record {
          written = λ _. unwritten p d e (simp is-two);
          read = λ i. let not-here = simp (i, and-true) at z in simp (not-here, and-false);
        })

  pub read-turn : Turn p d e
  read-turn = either (e.a == 0x0D + p && inputs q) given-turn unread-turn
