-- What an accepted event's record and numbers are: none of 9, 2 and 5 is given.
-- Assumes nothing.
use Prim.Native.Nat.{ℕ, ◌<◌}
use mathlib.Core.Path.{◌≡◌, refl, sym, ap}
use mathlib.Core.Bool.{Bool, true, false, not, ◌&&◌, ◌||◌, cond, false≢true}
use native.Mathlib.Omega.{arith}
use lib.Dec.{ltb}
use borrow.Author.Tests.{eq-eqb, ltb-false}
use Rattle.rules.specs.declared.Event.{Event}
use Rattle.rules.specs.Events.{is_w, is_r, is_p, is_e, unknown}
use Rattle.ctc_rules.specs.declared.Ctc.{Ctc}
use Rattle.ctc_rules.specs.Sound.{sound_ctc}
use Rattle.ctc_rules.specs.Events.{no_channel, too_large_ctc, code_ctc}

-- the tests up to 5, of which none passed
none_passed : (s u n t : Bool) (rest : ℕ) → cond (not s) 9 (cond u 1 (cond n 2 (cond t 5 rest))) ≡ 0 → (s ≡ true) × (n ≡ false) × (t ≡ false)
none_passed true false false false rest h = (refl, refl, refl)
none_passed true false false true rest h = absurd (omega (arith, h))
none_passed true false true t rest h = absurd (omega (arith, h))
none_passed true true n t rest h = absurd (omega (arith, h))
none_passed false u n t rest h = absurd (omega (arith, h))

-- neither of two, and not the second where the first holds
first_of : (a b : Bool) → (a || b) ≡ false → a ≡ false
first_of false b h = refl
first_of true b h = h

second-of : (a b : Bool) → (a || b) ≡ false → b ≡ false
second-of false b h = h
second-of true b h = absurd (false≢true (sym h))

but-not : (a b : Bool) → a ≡ true → (a && b) ≡ false → b ≡ false
but-not true b p h = h
but-not false b p h = absurd (false≢true p)

or-second : (a b : Bool) → b ≡ true → (a || b) ≡ true
or-second true b h = refl
or-second false b h = h

module _ (d : Ctc) (e : Event) (h : code_ctc d e ≡ 0) where
  passed : (sound_ctc d ≡ true) × (no_channel e ≡ false) × (too_large_ctc e ≡ false)
  unfolding code_ctc
  passed = none_passed (sound_ctc d) (unknown e) (no_channel e) (too_large_ctc e) _ h

  pub sound : sound_ctc d ≡ true
  sound = passed.0

  channel-by : (is_w e || is_r e) ≡ true → e.a < 4
  unfolding no_channel
  channel-by k = omega (arith, ltb-false 3 e.a (but-not (is_w e || is_r e) (ltb 3 e.a) k passed.1))

  -- "W channel byte" and "R channel"
  pub written-channel : e.kind ≡ 1 → e.a < 4
  written-channel k = channel-by (ap (λ (v : Bool). v || is_r e) (eq-eqb e.kind 1 k))

  pub read-channel : e.kind ≡ 2 → e.a < 4
  read-channel k = channel-by (or-second (is_w e) (is_r e) (eq-eqb e.kind 2 k))

  abbrev for_w : Bool
  for_w = is_w e && ltb 255 e.b

  abbrev for_p : Bool
  for_p = is_p e && ltb 255 e.a

  neither : (for_w || for_p) ≡ false
  unfolding too_large_ctc
  neither = first_of (for_w || for_p) (is_e e && ltb 1 e.a) passed.2

  pub a_byte : e.kind ≡ 1 → e.b < 256
  a_byte k = omega (arith, ltb-false 255 e.b (but-not (is_w e) (ltb 255 e.b) (eq-eqb e.kind 1 k) (first_of for_w for_p neither)))

  -- "P a b c"
  pub some-levels : e.kind ≡ 3 → e.a < 256
  some-levels k = omega (arith, ltb-false 255 e.a (but-not (is_p e) (ltb 255 e.a) (eq-eqb e.kind 3 k) (second-of for_w for_p neither)))
