-- The two ways through a call of any device, refused and not, from what its state was opened to.
-- Assumes nothing.
use Prim.Native.Nat.{ℕ}
use mathlib.Core.Path.{◌≡◌, refl, sym, ap, ◌∙◌}
use mathlib.Core.Bool.{Bool, true, false}
use mathlib.Core.List.{List}
use borrow.Author.Tests.{eqb-true, eqb-false}
use lib.Dec.{eqb}
use lib.ListN.{length}
use Rattle.std.specs.Prelude.{Ok, Err, if◌then◌else◌}
use Rattle.basics.specs.Buffer.{laid_of}
use Rattle.rules.specs.declared.Lines.{Lines}
use Rattle.rules.specs.declared.Outcome.{Outcome}
use Rattle.image.specs.declared.Restored.{Restored}
use Rattle.host.specs.Bytes.{line_bytes, lines_len}
use Rattle.host.specs.Calls.{called, refusal_of, opened_by, hosted, hosted_lines}
use Rattle.host.proofs.Calls.{stays, goes}

pub lines_long : (l : Lines) → length (line_bytes l) ≡ lines_len
unfolding line_bytes
lines_long l = refl

-- what is known where a state was not opened, and where it was
module _ {D : Type 0} (r : Restored D) (n m : ℕ) where
  abbrev refusal : ℕ
  refusal = refusal_of r.code n m

  closed : (k : ℕ) → Err k ≡ opened_by r n m → (k ≡ refusal) × (refusal ≡ 0 → ⊥)
  unfolding opened_by
  closed k e = by-test (eqb refusal 0) refl e
    where
      by-test : (t : Bool) → eqb refusal 0 ≡ t → Err k ≡ (if t then Ok r.device else Err refusal) → (k ≡ refusal) × (refusal ≡ 0 → ⊥)
      by-test true p q = absurd (cc)
      by-test false p q = (cc, eqb-false refusal 0 p)

  open_to : (d : D) → Ok d ≡ opened_by r n m → (d ≡ r.device) × (refusal ≡ 0)
  unfolding opened_by
  open_to d e = by-test (eqb refusal 0) refl e
    where
      by-test : (t : Bool) → eqb refusal 0 ≡ t → Ok d ≡ (if t then Ok r.device else Err refusal) → (d ≡ r.device) × (refusal ≡ 0)
      by-test true p q = (cc, eqb-true refusal 0 p)
      by-test false p q = absurd (cc)

module _ {D : Type 0} (restored : List ℕ → Restored D) (s b : List ℕ) where
  module _ {A : Type 0} (saved : D → List ℕ → List ℕ) (code : A → ℕ) (bytes : A → List ℕ) (m : ℕ) (long : (a : A) → length (bytes a) ≡ m) (f : D → Outcome D A) where
    pub refused : (k : ℕ) → Err k ≡ opened_by (restored s) (length b) m → called k s b ≡ hosted restored saved code bytes s f b
    unfolding hosted
    refused k e =
        let p = closed (restored s) (length b) m k e in
        stays (λ r. r.code) (λ r. f r.device) (λ o. code o.answer) (λ o. saved o.device s) (λ o. bytes o.answer)
        m (λ o. long o.answer) s b (restored s) (restored s) k refl p.0 (λ z. p.1 (sym p.0 ∙ z))

    pub done : (d : D) → Ok d ≡ opened_by (restored s) (length b) m
        → called (code (f d).answer) (saved (f d).device s) (laid_of b 0 (bytes (f d).answer)) ≡ hosted restored saved code bytes s f b
    unfolding hosted
    done d e =
        let p = open_to (restored s) (length b) m d e in
        goes (λ r. r.code) (λ r. f r.device) (λ o. code o.answer) (λ o. saved o.device s) (λ o. bytes o.answer)
        m (λ o. long o.answer) s b (restored s) (restored s) (f d) (refusal (restored s) (length b) m) _ _ _ refl refl p.1 (ap f p.0) refl refl refl

  module _ (lines : D → Lines) where
    pub lines-refused : (k : ℕ) → Err k ≡ opened_by (restored s) (length b) lines_len → called k s b ≡ hosted_lines restored lines s b
    unfolding hosted_lines
    lines-refused k e =
        let p = closed (restored s) (length b) lines_len k e in
        stays (λ r. r.code) (λ r. lines r.device) (λ o. 0) (λ o. s) line_bytes lines_len lines_long s b (restored s) (restored s) k refl p.0 (λ z. p.1 (sym p.0 ∙ z))

    pub lines-done : (d : D) → Ok d ≡ opened_by (restored s) (length b) lines_len → called 0 s (laid_of b 0 (line_bytes (lines d))) ≡ hosted_lines restored lines s b
    unfolding hosted_lines
    lines-done d e =
        let p = open_to (restored s) (length b) lines_len d e in
        goes (λ r. r.code) (λ r. lines r.device) (λ o. 0) (λ o. s) line_bytes lines_len lines_long s b
        (restored s) (restored s) (lines d) (refusal (restored s) (length b) lines_len) _ _ _ refl refl p.1 (ap lines p.0) refl refl refl
