-- Lines that are read where they stand: one line more of both files.
-- Assumes nothing.
use Rattle.std.specs.Prelude.{◌==◌, Some, None}
use Prim.Native.Nat.{ℕ, ◌+◌, ◌≤◌, ◌<◌}
use mathlib.Core.Bool.{Bool, true, false, not, ◌&&◌, cond, and-false}
use mathlib.Core.List.{List}
use mathlib.Core.Path.{◌≡◌, refl, ap, ◌∙◌}
use native.Mathlib.Omega.{arith}
use borrow.Author.Tests.{lt-ltb, le-ltb, eq-eqb, ne_eqb, ltb-true, ltb-false}
use lib.Dec.{ltb}
use lib.ListN.{length, take, drop, length-drop}
use Rattle.basics.proofs.Tests.{triple}
use Rattle.chip.specs.declared.Chip.{Chip}
use Rattle.rules.specs.declared.Answer.{Answer}
use Rattle.rules.specs.declared.Outcome.{Outcome}
use Rattle.chip.specs.Chips.{event_chip}
use Rattle.lines.specs.Lines.{event_in, line_of}
use Rattle.lines.specs.Pieces.{feed_at}
use Rattle.bench_lines.specs.Agreed.{agreed_to}
use Rattle.agreement.specs.declared.parting.Abreast.{Abreast}
use Rattle.agreement.specs.Turns.{onward_of}

module _ (a : Abreast) (read measured : List ℕ) where
  -- the bytes from the event on, what it does, and where the board's line ends if it agrees
  abbrev pub rest : List ℕ
  rest = drop a.event read

  abbrev pub told : Outcome Chip Answer
  told = event_chip a.device (event_in (line_of (take (feed_at rest) rest)))

  abbrev pub after : ℕ
  after = agreed_to told.answer measured a.board

  abbrev gone : Abreast
  gone = record { device = told.device; event = a.event + feed_at rest + 1; board = after; agreed = a.agreed + 1 }

  pub went : {b : Abreast} → b ≡ gone → feed_at rest < length rest → ltb a.agreed 18446744073709551615 ≡ true → (after ≡ a.board → ⊥) → Some b ≡ onward_of a read measured
  unfolding onward_of
  went e h g n = ap Some e ∙ simp (lt-ltb (feed_at rest) (length rest) h, g, ne_eqb after a.board n)

  pub stays : after ≡ a.board → None ≡ onward_of a read measured
  unfolding onward_of
  stays e = simp (eq-eqb after a.board e, and-false)

  no_line : length rest ≤ feed_at rest → None ≡ onward_of a read measured
  unfolding onward_of
  no_line h = simp (le-ltb (feed_at rest) (length rest) h)

  no_more : ltb a.agreed 18446744073709551615 ≡ false → None ≡ onward_of a read measured
  unfolding onward_of
  no_more g = simp (g, and-false)

  pub not-gone : (e : ℕ) → e ≡ a.event + feed_at rest → (ltb e (length read) && ltb a.agreed 18446744073709551615) ≡ false → None ≡ onward_of a read measured
  not-gone e p t = by_end (ltb e (length read)) refl t
    where
      by_end : (f : Bool) → ltb e (length read) ≡ f → (f && ltb a.agreed 18446744073709551615) ≡ false → None ≡ onward_of a read measured
      by_end true q g = no_more g
      by_end false q g = no_line (omega (arith, p, ltb-false e (length read) q, length-drop a.event read))

  -- it agrees once more
  pub once : {b : Abreast} → Some b ≡ onward_of a read measured → (b.agreed ≡ a.agreed + 1) × (a.agreed < 18446744073709551615)
  unfolding onward_of
  once {b} s = by-test (ltb (feed_at rest) (length rest) && ltb a.agreed 18446744073709551615 && not (after == a.board)) refl s
    where
      by-test : (t : Bool) → (ltb (feed_at rest) (length rest) && ltb a.agreed 18446744073709551615 && not (after == a.board)) ≡ t
          → Some b ≡ cond t (Some gone) None → (b.agreed ≡ a.agreed + 1) × (a.agreed < 18446744073709551615)
      by-test true e g =
          (cc, ltb-true a.agreed 18446744073709551615 (triple (ltb (feed_at rest) (length rest)) (ltb a.agreed 18446744073709551615) (not (after == a.board)) e).1)
      by-test false e g = absurd cc
