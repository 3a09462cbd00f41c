-- One source over the clocks of a T: its IP stands all the time, or never, or from the clock at which it rises.
-- Assumes nothing.
use Rattle.std.proofs.Common.{◌≡◌, ℕ, zero, suc, ◌+◌, ◌-◌, ◌<◌, ◌≤◌, Bool, true, false, sym, refl, ap, ◌∙◌, subst, true≢false, add-zero, add-suc, arith}
use Rattle.rules.specs.declared.Device.{Device}
use Rattle.rules.specs.declared.Ran.{Ran}
use Rattle.rules.specs.Record.{source_at}
use Rattle.rules.specs.Step.{iterate, ran_of}
use Rattle.theorems.proofs.Reports.{ran-none}
use Rattle.measure.specs.declared.Wait.{Wait}
use Rattle.measure.specs.Wait.{begun, dropped, moved}
use Rattle.measure.specs.Rise.{ip_after, waited, Rises}
use Rattle.measure.proofs.Stays.{stays-clock}

module _ (k : ℕ) (d : Device) where
  pub at_first : ip_after k d 0 ≡ (source_at d k).ip
  at_first = ap (λ (s : Ran). (source_at s.device k).ip) (ran-none d)

  -- once IP stands it stands to the end, so where it is 0 in the end it was 0 before
  stays-one : (n : ℕ) → ip_after k d n ≡ true → ip_after k d (suc n) ≡ true
  unfolding ran_of iterate
  stays-one n h = stays-clock k (ran_of n d) h

  stays-more : (n m : ℕ) → ip_after k d n ≡ true → ip_after k d (n + m) ≡ true
  stays-more n zero h = rw (add-zero n) h
  stays-more n (suc m) h = rw (add-suc n m) (stays-one (n + m) (stays-more n m h))

  pub stays : (n m : ℕ) → n ≤ m → ip_after k d n ≡ true → ip_after k d m ≡ true
  stays n m l h = subst (λ (i : ℕ). ip_after k d i ≡ true) (omega arith) (stays-more n (m - n) h)

  low_by : (v : Bool) (n m : ℕ) → n ≤ m → ip_after k d n ≡ v → ip_after k d m ≡ false → v ≡ false
  low_by true n m l e h = absurd (true≢false (sym (stays n m l e) ∙ h))
  low_by false n m l e h = refl

  low : (n m : ℕ) → n ≤ m → ip_after k d m ≡ false → ip_after k d n ≡ false
  low n m l h = low_by _ n m l refl h

  module _ (now : ℕ) (w : Wait) where
    abbrev after : ℕ → Wait
    after n = waited k d now w n

    -- a clock before which IP stands, one after which it does not, and one at which it rises
    stood : (n : ℕ) → ip_after k d n ≡ true → after (suc n) ≡ after n
    unfolding waited moved
    stood n h = simp (h, stays-one n h)

    lay : (n : ℕ) → ip_after k d (suc n) ≡ false → after (suc n) ≡ dropped (after n)
    unfolding waited moved
    lay n h = simp h

    rose : (n : ℕ) → ip_after k d n ≡ false → ip_after k d (suc n) ≡ true → after (suc n) ≡ begun (now + suc n) (after n)
    unfolding waited moved
    rose n l h = simp (l, h)

    -- all the time
    pub over-standing : (n : ℕ) → ip_after k d 0 ≡ true → after n ≡ w
    unfolding waited
    over-standing zero h = refl
    over-standing (suc n) h = stood n (stays 0 n (omega arith) h) ∙ over-standing n h

    -- never: what ran is dropped
    lies : (n : ℕ) → ip_after k d (suc n) ≡ false → after (suc n) ≡ dropped w
    unfolding waited
    lies zero h = lay 0 h
    lies (suc n) h = lay (suc n) h ∙ ap dropped (lies n (low (suc n) (suc (suc n)) (omega arith) h))

    pub over_none : (n : ℕ) → 0 < n → ip_after k d n ≡ false → after n ≡ dropped w
    over_none zero p h = absurd (omega arith)
    over_none (suc n) p h = lies n h

    -- from clock r + 1: what ran before it is dropped either way
    begins : (r : ℕ) → ip_after k d r ≡ false → begun (now + suc r) (after r) ≡ begun (now + suc r) w
    unfolding waited
    begins zero l = refl
    begins (suc r) l = ap (begun (now + suc (suc r))) (lies r l)

    from : (r m : ℕ) → ip_after k d r ≡ false → ip_after k d (suc r) ≡ true → after (suc r + m) ≡ begun (now + suc r) w
    from r zero l h = ap after (add-zero (suc r)) ∙ rose r l h ∙ begins r l
    from r (suc m) l h = ap after (add-suc (suc r) m) ∙ stood (suc r + m) (stays-more (suc r) m h) ∙ from r m l h

    pub over-rise : (n r : ℕ) → Rises k d n r → after n ≡ begun (now + r) w
    over-rise n zero h = absurd (omega (arith, h.some))
    over-rise n (suc r) h =
        ap after (omega (arith, h.within)) ∙ from r (n - suc r) (subst (λ (i : ℕ). ip_after k d i ≡ false) (omega arith) h.before) h.after
