-- What an accepted event's numbers are: "5: a byte, a or b above 255, c above 15, v above 1" is not given.
-- Assumes nothing.
use Prim.Native.Nat.{ℕ, ◌<◌}
use mathlib.Core.Path.{◌≡◌, refl, sym}
use mathlib.Core.Bool.{Bool, true, false, not, ◌&&◌, ◌||◌, cond, false≢true}
use native.Mathlib.Omega.{arith}
use lib.Dec.{ltb}
use borrow.Author.Tests.{eq-eqb, ltb-false}
use Rattle.rules.specs.declared.Device.{Device}
use Rattle.rules.specs.declared.Event.{Event}
use Rattle.rules.specs.Sound.{sound_of}
use Rattle.rules.specs.Events.{is_w, is_p, is_e, unknown, no_register, too_large, code_of}
use Rattle.refusals.specs.Known.{known_code}

-- the tests up to 5, of which none passed
none_passed : (u n t : Bool) (rest : ℕ) → cond u 1 (cond n 2 (cond t 5 rest)) ≡ 0 → t ≡ false
none_passed false false false rest h = refl
none_passed false false true rest h = absurd (omega (arith, h))
none_passed false true t rest h = absurd (omega (arith, h))
none_passed true n t rest h = absurd (omega (arith, h))

sound-first : (s : Bool) (rest : ℕ) → cond (not s) 9 rest ≡ 0 → rest ≡ 0
sound-first true rest h = h
sound-first false rest h = absurd (omega (arith, h))

-- neither of two, and not the second where the first holds
first_of : (a b : Bool) → (a || b) ≡ false → a ≡ false
first_of false b h = refl
first_of true b h = h

second-of : (a b : Bool) → (a || b) ≡ false → b ≡ false
second-of false b h = h
second-of true b h = absurd (false≢true (sym h))

but-not : (a b : Bool) → a ≡ true → (a && b) ≡ false → b ≡ false
but-not true b p h = h
but-not false b p h = absurd (false≢true p)

pub known_small : (d : Device) (e : Event) → known_code d e ≡ 0 → too_large e ≡ false
unfolding known_code
known_small d e h = none_passed (unknown e) (no_register e) (too_large e) _ h

pub accepted-small : (d : Device) (e : Event) → code_of d e ≡ 0 → too_large e ≡ false
unfolding code_of known_code
accepted-small d e h = known_small d e (sound-first (sound_of d) _ h)

module _ (e : Event) (not-large : too_large e ≡ false) where
  abbrev for_w : Bool
  for_w = is_w e && ltb 255 e.b

  abbrev for_p : Bool
  for_p = is_p e && (ltb 255 e.a || ltb 255 e.b || ltb 15 e.c)

  neither : (for_w || for_p) ≡ false
  unfolding too_large
  neither = first_of (for_w || for_p) (is_e e && ltb 1 e.a) not-large

  -- "W address byte"
  pub a_byte : e.kind ≡ 1 → e.b < 256
  a_byte k = omega (arith, ltb-false 255 e.b (but-not (is_w e) (ltb 255 e.b) (eq-eqb e.kind 1 k) (first_of for_w for_p neither)))

  -- "P a b c"
  pub pin-levels : e.kind ≡ 3 → (e.a < 256) × (e.b < 256) × (e.c < 16)
  pin-levels k =
      let q = but-not (is_p e) (ltb 255 e.a || ltb 255 e.b || ltb 15 e.c) (eq-eqb e.kind 3 k) (second-of for_w for_p neither) in
      let r = first_of (ltb 255 e.a || ltb 255 e.b) (ltb 15 e.c) q in
      let a = ltb-false 255 e.a (first_of (ltb 255 e.a) (ltb 255 e.b) r) in
      let b = ltb-false 255 e.b (second-of (ltb 255 e.a) (ltb 255 e.b) r) in
      let c = ltb-false 15 e.c (second-of (ltb 255 e.a || ltb 255 e.b) (ltb 15 e.c) q) in
      (omega (arith, a), omega (arith, b), omega (arith, c))
