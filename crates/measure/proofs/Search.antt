-- The search for the clock at which an IP rises: where it starts, its two halves, and where it ends.
-- Assumes nothing.
use Rattle.std.proofs.Common.{◌≡◌, ℕ, ◌+◌, ◌-◌, ◌<◌, ◌≤◌, true, false, sym, ap, ◌∙◌, subst, arith}
use Rattle.rules.specs.declared.Device.{Device}
use Rattle.rules.specs.declared.Ran.{Ran}
use Rattle.rules.specs.Record.{source_at}
use Rattle.rules.specs.Step.{ran_of}
use Rattle.theorems.proofs.Reports.{ran-none}
use Rattle.measure.specs.declared.rises.Search.{Search}
use Rattle.measure.specs.Rise.{ip_after, Rises, Between}
use Rattle.measure.proofs.Ticked.{cut-device}

none-device : (d : Device) → (ran_of 0 d).device ≡ d
none-device d = ap (λ (s : Ran). s.device) (ran-none d)

module _ (k : ℕ) (d : Device) (n : ℕ) where
  pub starts : 0 < n → ip_after k d 0 ≡ false → ip_after k d n ≡ true → Between k d n (record { device = d; passed = 0; left = n })
  starts p l h =
      record {
        here = sym (none-device d);
        some = p;
        within = omega arith;
        before = l;
        after = subst (λ (i : ℕ). ip_after k d i ≡ true) (omega arith) h;
      }

  module _ (s : Search) (half : ℕ) (b : Between k d n s) where
    -- the record half way
    there : (ran_of half s.device).device ≡ (ran_of (s.passed + half) d).device
    there = ap (λ (e : Device). (ran_of half e).device) b.here ∙ sym (cut-device d s.passed half)

    pub in-first : 0 < half → half ≤ s.left → ip_after k s.device half ≡ true
        → Between k d n (record { device = s.device; passed = s.passed; left = half })
    in-first p l h =
        record {
          here = b.here;
          some = p;
          within = omega (arith, b.within);
          before = b.before;
          after = ap (λ (e : Device). (source_at e k).ip) (sym there) ∙ h;
        }

    pub in-second : half < s.left → ip_after k s.device half ≡ false
        → Between k d n (record { device = (ran_of half s.device).device; passed = s.passed + half; left = s.left - half })
    in-second l h =
        record {
          here = there;
          some = omega arith;
          within = omega (arith, b.within);
          before = ap (λ (e : Device). (source_at e k).ip) (sym there) ∙ h;
          after = subst (λ (i : ℕ). ip_after k d i ≡ true) (omega arith) b.after;
        }

  pub ends : (s : Search) → Between k d n s → s.left ≤ 1 → Rises k d n (s.passed + s.left)
  ends s b l =
      record {
        some = omega (arith, b.some);
        within = b.within;
        before = subst (λ (i : ℕ). ip_after k d i ≡ false) (omega (arith, b.some)) b.before;
        after = b.after;
      }
