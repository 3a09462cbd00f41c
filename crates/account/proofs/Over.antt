-- Events one after the other: an account that every event keeps, a list keeps; and what follows from two lists that are one.
-- Assumes nothing.
use Prim.Native.Nat.{ℕ, zero, suc, ◌+◌, ◌≤◌, ◌<◌}
use mathlib.Core.Path.{◌≡◌, refl, sym, ap, ap₂, ◌∙◌}
use mathlib.Core.Bool.{true, false, not}
use mathlib.Core.List.{List, [], ◌∷◌, ◌++◌, append-nil, append_assoc}
use native.Mathlib.Omega.{arith}
use lib.ListN.{get_or}
use Rattle.rules.specs.declared.Device.{Device}
use Rattle.rules.specs.declared.Event.{Event}
use Rattle.basics.specs.Runs.{record_through}
use Rattle.basics.proofs.Tests.{left, right, not_so}
use Rattle.theorems.specs.Traces.{record_after}
use Rattle.account.specs.Account.{after, held_of, over, ends_account, account_stands, Throughout, times}

-- what holds of the records from which the port goes on standing
module _ (p : ℕ) (Holds : Device → Type 0) (next : (d : Device) (e : Event) → ends_account p d e ≡ false → Holds d → Holds (after d e)) where
  module _ (comes goes : Device → Event → List ℕ)
      (one : (d : Device) (e : Event) → ends_account p d e ≡ false → Holds d → held_of d p ++ comes d e ≡ goes d e ++ held_of (after d e) p) where
    pub account : (d : Device) (l : List Event) → account_stands p d l ≡ true → Holds d
        → held_of d p ++ over comes d l ≡ over goes d l ++ held_of (record_after d l) p
    unfolding over account_stands record_through
    account d [] t h = append-nil (held_of d p)
    account d (e ∷ l) t h =
        let z = not_so (ends_account p d e) (left (not (ends_account p d e)) (account_stands p (after d e) l) t) in
        let rest = account (after d e) l (right (not (ends_account p d e)) (account_stands p (after d e) l) t) (next d e z h) in
        sym (append_assoc (held_of d p) (comes d e) (over comes (after d e) l))
        ∙ ap (λ (m : List ℕ). m ++ over comes (after d e) l) (one d e z h)
        ∙ append_assoc (goes d e) (held_of (after d e) p) (over comes (after d e) l) ∙ ap (λ (m : List ℕ). goes d e ++ m) rest
        ∙ sym (append_assoc (goes d e) (over goes (after d e) l) (held_of (record_after (after d e) l) p))

  -- two ways to look that see the same at every event
  module _ (Given : Device → Type 0) (these those : Device → Event → List ℕ)
      (one : (d : Device) (e : Event) → Holds d → Given d → these d e ≡ those d e) where
    pub over-same : (d : Device) (l : List Event) → account_stands p d l ≡ true → Holds d → Throughout Given d l → over these d l ≡ over those d l
    unfolding over account_stands
    over-same d [] t h g = refl
    over-same d (e ∷ l) t h g =
        let z = not_so (ends_account p d e) (left (not (ends_account p d e)) (account_stands p (after d e) l) t) in
        ap₂ ◌++◌ (one d e h g.0) (over-same (after d e) l (right (not (ends_account p d e)) (account_stands p (after d e) l) t) (next d e z h) g.1)

-- ---- how often
times-append : (b : ℕ) (l m : List ℕ) → times b (l ++ m) ≡ times b l + times b m
unfolding times
times-append b [] m = omega arith
times-append b (x ∷ l) m = let rest = times-append b l m in omega (arith, rest)

pub no_more : (b : ℕ) (l m n : List ℕ) → l ≡ m ++ n → times b m ≤ times b l
no_more b l m n e = let sum = ap (times b) e ∙ times-append b m n in omega (arith, sum)

-- ---- all of them bytes
abbrev pub AllBytes : List ℕ → Type 0
AllBytes l = (k : ℕ) → get_or l k 0 < 256

pub bytes-joined : (l m : List ℕ) → AllBytes l → AllBytes m → AllBytes (l ++ m)
bytes-joined [] m g h k = h k
bytes-joined (x ∷ l) m g h zero = g 0
bytes-joined (x ∷ l) m g h (suc k) = bytes-joined l m (λ j. g (suc j)) h k

pub bytes-behind : (l m : List ℕ) → AllBytes (l ++ m) → AllBytes m
bytes-behind [] m h = h
bytes-behind (x ∷ l) m h = bytes-behind l m (λ j. h (suc j))
