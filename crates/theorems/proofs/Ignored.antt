-- Paper 01, "Events and their answers": "numbers a kind doesn't use are ignored". In any record; P uses all three.
-- Assumes nothing.
use Prim.Native.Nat.{ℕ, zero, suc, ◌<◌}
use mathlib.Core.Path.{◌≡◌, refl, sym, ap, ◌∙◌}
use mathlib.Core.Bool.{Bool, true, false, So, and-false, or-true}
use native.Mathlib.Omega.{arith}
use borrow.Author.Tests.{eqb-true, lt-ltb, ne_eqb}
use Rattle.rules.specs.declared.Device.{Device}
use Rattle.rules.specs.declared.Event.{Event}
use Rattle.rules.specs.Sound.{sound_of}
use Rattle.rules.specs.Events.{is_t, unknown, no_register, too_large, held, no_byte, no_room, code_of, effect_of, event_of}
use Rattle.theorems.specs.Used.{of, used_of}
use Rattle.theorems.specs.Ticks.{tick}

module _ (d : Device) (a b c : ℕ) where
  pub ignored-x : event_of d (of 0 a b c) ≡ event_of d (of 0 0 0 0)
  unfolding event_of code_of unknown no_register too_large held no_byte no_room effect_of
  ignored-x = simp and-false

  pub ignored-w : event_of d (of 1 a b c) ≡ event_of d (of 1 a b 0)
  unfolding event_of code_of unknown no_register too_large held no_byte no_room effect_of
  ignored-w = refl

  pub ignored-r : event_of d (of 2 a b c) ≡ event_of d (of 2 a 0 0)
  unfolding event_of code_of unknown no_register too_large held no_byte no_room effect_of
  ignored-r = simp and-false

  pub ignored-t : event_of d (of 4 a b c) ≡ event_of d (of 4 a 0 0)
  unfolding event_of code_of unknown no_register too_large held no_byte no_room effect_of
  ignored-t = simp and-false

  pub ignored-k : event_of d (of 5 a b c) ≡ event_of d (of 5 0 0 0)
  unfolding event_of code_of unknown no_register too_large held no_byte no_room effect_of
  ignored-k = simp and-false

  pub ignored-e : event_of d (of 6 a b c) ≡ event_of d (of 6 a 0 0)
  unfolding event_of code_of unknown no_register too_large held no_byte no_room effect_of
  ignored-e = simp and-false

  -- a kind above 6 uses none
  unknown-by : (v : Bool) (kind : ℕ) → sound_of d ≡ v → 6 < kind → event_of d (of kind a b c) ≡ event_of d (of kind 0 0 0)
  unfolding event_of code_of unknown
  unknown-by true kind s h = simp (s, lt-ltb 6 kind h)
  unknown-by false kind s h = simp s

  pub ignored-unknown : (kind : ℕ) → 6 < kind → event_of d (of kind a b c) ≡ event_of d (of kind 0 0 0)
  ignored-unknown kind h = unknown-by _ kind refl h

-- every event is answered as the one with 0 for the numbers that its kind does not use
used-unknown : (k a b c : ℕ) → 6 < k → used_of (of k a b c) ≡ of k 0 0 0
unfolding used_of unknown
used-unknown k a b c h = simp (lt-ltb 6 k h, or-true, ne_eqb k 1 (λ e. omega arith), ne_eqb k 3 (λ e. omega arith))

by_kind : (d : Device) (k a b c : ℕ) → event_of d (of k a b c) ≡ event_of d (used_of (of k a b c))
unfolding used_of unknown
by_kind d zero a b c = ignored-x d a b c
by_kind d (suc zero) a b c = ignored-w d a b c
by_kind d (suc (suc zero)) a b c = ignored-r d a b c
by_kind d (suc (suc (suc zero))) a b c = refl
by_kind d (suc (suc (suc (suc zero)))) a b c = ignored-t d a b c
by_kind d (suc (suc (suc (suc (suc zero))))) a b c = ignored-k d a b c
by_kind d (suc (suc (suc (suc (suc (suc zero)))))) a b c = ignored-e d a b c
by_kind d (suc (suc (suc (suc (suc (suc (suc n))))))) a b c =
    let k = suc (suc (suc (suc (suc (suc (suc n)))))) in
    let h : 6 < k = omega arith in
    ignored-unknown d a b c k h ∙ ap (event_of d) (sym (used-unknown k a b c h))

pub ignored : (d : Device) (e : Event) → event_of d e ≡ event_of d (used_of e)
ignored d e = by_kind d e.kind e.a e.b e.c

-- a T is T n with the other numbers 0
pub as-tick : (d : Device) (e : Event) → So (is_t e) → event_of d e ≡ event_of d (tick e.a)
as-tick d e t = ap (λ (k : ℕ). event_of d (of k e.a e.b e.c)) (eqb-true e.kind 4 t) ∙ ignored-t d e.a e.b e.c
