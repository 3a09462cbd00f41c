-- "Numbers that a kind does not use are ignored." In any record.
-- Assumes nothing.
use Prim.Native.Nat.{ℕ, zero, suc, ◌<◌}
use mathlib.Core.Path.{◌≡◌, refl, sym, ap, ◌∙◌}
use mathlib.Core.Bool.{Bool, true, false, or-true}
use native.Mathlib.Omega.{arith}
use borrow.Author.Tests.{lt-ltb, ne_eqb}
use Rattle.rules.specs.declared.Event.{Event}
use Rattle.rules.specs.Events.{unknown}
use Rattle.theorems.specs.Used.{of}
use Rattle.ctc_rules.specs.declared.Ctc.{Ctc}
use Rattle.ctc_rules.specs.Sound.{sound_ctc}
use Rattle.ctc_rules.specs.Events.{no_channel, too_large_ctc, code_ctc, effect_ctc, event_ctc}
use Rattle.ctc_laws.specs.Used.{used_ctc}

-- a kind above 6 uses none
unknown-by : (v : Bool) (d : Ctc) (k a b c : ℕ) → sound_ctc d ≡ v → 6 < k → event_ctc d (of k a b c) ≡ event_ctc d (of k 0 0 0)
unfolding event_ctc code_ctc unknown
unknown-by true d k a b c s h = simp (s, lt-ltb 6 k h)
unknown-by false d k a b c s h = simp s

used-unknown : (k a b c : ℕ) → 6 < k → used_ctc (of k a b c) ≡ of k 0 0 0
unfolding used_ctc unknown
used-unknown k a b c h = simp (lt-ltb 6 k h, or-true, ne_eqb k 1 (λ e. omega arith))

by_kind : (d : Ctc) (k a b c : ℕ) → event_ctc d (of k a b c) ≡ event_ctc d (used_ctc (of k a b c))
unfolding event_ctc code_ctc unknown no_channel too_large_ctc effect_ctc used_ctc
by_kind d zero a b c = refl
by_kind d (suc zero) a b c = refl
by_kind d (suc (suc zero)) a b c = refl
by_kind d (suc (suc (suc zero))) a b c = refl
by_kind d (suc (suc (suc (suc zero)))) a b c = refl
by_kind d (suc (suc (suc (suc (suc zero))))) a b c = refl
by_kind d (suc (suc (suc (suc (suc (suc zero)))))) a b c = refl
by_kind d (suc (suc (suc (suc (suc (suc (suc k))))))) a b c =
    let n : ℕ = suc (suc (suc (suc (suc (suc (suc k)))))) in
    unknown-by _ d n a b c refl (omega arith) ∙ ap (event_ctc d) (sym (used-unknown n a b c (omega arith)))

-- every event is answered as the one with 0 for the numbers that its kind does not use
pub ignored : (d : Ctc) (e : Event) → event_ctc d e ≡ event_ctc d (used_ctc e)
ignored d e = by_kind d e.kind e.a e.b e.c
