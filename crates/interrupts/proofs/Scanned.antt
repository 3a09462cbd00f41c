-- The highest of the five sources that passes a test, and the highest requester.
-- Assumes nothing.
use Prim.Native.Nat.{ℕ, zero, suc, ◌+◌, ◌*◌, ◌≤◌, ◌<◌}
use mathlib.Core.Path.{◌≡◌, refl, sym, ap, subst, ◌∙◌}
use mathlib.Core.Bool.{Bool, true, false, not, ◌&&◌, ◌||◌, beq, cond}
use mathlib.Core.List.{List}
use native.Mathlib.Omega.{arith}
use lib.Dec.{eqb, ltb, leb, eqb→eq, leb→le}
use lib.ListN.{length, get_or}
use Rattle.std.specs.Prelude.{Option, Some, None}
use Rattle.std.specs.Option.{is_some}
use Rattle.std.specs.List.{position_or_len, list_any}
use Rattle.std.proofs.lemmas.Bool.Decides.{nat_tests}
use Rattle.rules.specs.declared.Device.{Device}
use Rattle.rules.specs.declared.Source.{Source}
use Rattle.rules.specs.Record.{quiet, source_at}
use Rattle.rules.specs.Registers.{mie}
use Rattle.rules.specs.Interrupts.{first_of, first, served, pending, requests, requester}
use Rattle.basics.proofs.Lists.{five}
use Rattle.basics.proofs.Truth.{rows, all2, all5, all8, same}
use Rattle.interrupts.specs.Order.{of_five}

-- ---- the place that `position` finds
in-order : (a b c d e : Bool)
    → (let n = cond (not a) (1 + cond (not b) (1 + cond (not c) (1 + cond (not d) (1 + cond (not e) 1 0) 0) 0) 0) 0 in
    cond (ltb n 5) (Some n) None)
    ≡ of_five (first_of a b c d e)
unfolding first_of
in-order true b c d e = refl
in-order false true c d e = refl
in-order false false true d e = refl
in-order false false false true e = refl
in-order false false false false true = refl
in-order false false false false false = refl

pub position-is : {A : Type 0} (test : A → Bool) (x : A) (l : List A) → length l ≡ 5
    → cond (ltb (position_or_len test l) (length l)) (Some (position_or_len test l)) None ≡ of_five (first (λ k. test (get_or l k x)))
unfolding first
position-is test x l h =
    ap (λ (m : List _). cond (ltb (position_or_len test m) (length m)) (Some (position_or_len test m)) None) (five x l h)
    ∙ in-order (test (get_or l 0 x)) (test (get_or l 1 x)) (test (get_or l 2 x)) (test (get_or l 3 x)) (test (get_or l 4 x))

first-le : (a b c d e : Bool) → first_of a b c d e ≤ 5
unfolding first_of
first-le a b c d e = leb→le _ _ (all5 (λ a b c d e. leb (cond a 0 (cond b 1 (cond c 2 (cond d 3 (cond e 4 5))))) 5) tt a b c d e)

-- a place of five, taken for a number below 5
pub as_place : (n k : ℕ) → n ≤ 5 → Some k ≡ of_five n → cond (ltb k 5) (Some k) None ≡ of_five n
as_place n k h p = grind (arith, nat_tests)

pub first-place : (f : ℕ → Bool) (k : ℕ) → Some k ≡ of_five (first f) → cond (ltb k 5) (Some k) None ≡ of_five (first f)
unfolding first
first-place f k = as_place _ k (first-le (f 0) (f 1) (f 2) (f 3) (f 4))

-- ---- the highest requester
abbrev picked : ℕ → Bool → Bool → Bool → Bool → Bool → Bool
picked k a b c d e = cond (eqb k 0) a (cond (eqb k 1) b (cond (eqb k 2) c (cond (eqb k 3) d e)))

picked-is : (f : ℕ → Bool) (k : ℕ) → k < 5 → f k ≡ picked k (f 0) (f 1) (f 2) (f 3) (f 4)
picked-is f zero h = refl
picked-is f (suc zero) h = refl
picked-is f (suc (suc zero)) h = refl
picked-is f (suc (suc (suc zero))) h = refl
picked-is f (suc (suc (suc (suc zero)))) h = refl
picked-is f (suc (suc (suc (suc (suc k))))) h = absurd (omega arith)

-- served and waiting, of each of the five: the first that is either, unless it is served
abbrev stopped : ℕ → Bool → Bool → Bool → Bool → Bool → ℕ
stopped n a b c d e = cond (eqb n 5) 5 (cond (picked n a b c d e) 5 n)

unfoldable down : Bool → Bool → Bool → Bool → Bool → Bool → Bool → Bool → Bool → Bool → ℕ
down a p b q c r d s e t = stopped (first_of (a || p) (b || q) (c || r) (d || s) (e || t)) a b c d e

unfoldable asked : Bool → Bool → Bool → Bool → Bool → Bool → Bool → Bool → Bool → Bool → ℕ
asked a p b q c r d s e t =
    first_of (p && not a) (q && not (b || a)) (r && not (c || (b || a))) (s && not (d || (c || (b || a)))) (t && not (e || (d || (c || (b || a)))))

scanned : (a p b q c r d s e t : Bool) → down a p b q c r d s e t ≡ asked a p b q c r d s e t
unfolding asked down first_of
scanned a p b q c r d s e t =
    eqb→eq _ _
    (all8 (λ b q c r d s e t. eqb (down a p b q c r d s e t) (asked a p b q c r d s e t))
    (all2
    (λ a p. rows (λ b. rows (λ q. rows (λ c. rows (λ r. rows (λ d. rows (λ s. rows (λ e. rows (λ t. eqb (down a p b q c r d s e t) (asked a p b q c r d s e t))))))))))
    tt a p)
    b q c r d s e t)

abbrev pub stops : Device → ℕ → Bool
stops d k = (source_at d k).ius || (source_at d k).ie && (source_at d k).ip

abbrev is_served : Device → ℕ → Bool
is_served d k = (source_at d k).ius

is-requester : (d : Device) → (mie d && d.iei) ≡ true
    → requester d ≡ stopped (first (stops d)) (is_served d 0) (is_served d 1) (is_served d 2) (is_served d 3) (is_served d 4)
unfolding requester first requests pending served asked down
is-requester d on =
    simp (on)
    (sym
    (scanned (source_at d 0).ius ((source_at d 0).ie && (source_at d 0).ip) (source_at d 1).ius ((source_at d 1).ie && (source_at d 1).ip)
    (source_at d 2).ius ((source_at d 2).ie && (source_at d 2).ip) (source_at d 3).ius ((source_at d 3).ie && (source_at d 3).ip)
    (source_at d 4).ius ((source_at d 4).ie && (source_at d 4).ip)))

some-of : (b : Bool) (n k : ℕ) → Some k ≡ cond b None (Some n) → (b ≡ false) × (k ≡ n)
some-of true n k p = absurd (cc)
some-of false n k p = (refl, cc)

none-of : (b : Bool) (n : ℕ) → None ≡ cond b None (Some n) → b ≡ true
none-of true n p = refl
none-of false n p = absurd (cc)

ended : (b : Bool) (n : ℕ) → eqb n 5 ≡ false → cond b None (Some n) ≡ of_five (cond b 5 n)
ended true n h = refl
ended false n h = simp h

module _ (d : Device) (on : (mie d && d.iei) ≡ true) where
  pub requester-none : None ≡ of_five (first (stops d)) → None ≡ of_five (requester d)
  requester-none p =
      let h = none-of (eqb (first (stops d)) 5) _ p in
      let r = is-requester d on in ap of_five (sym (simp (h) at r))

  pub requester-at : (k : ℕ) → Some k ≡ of_five (first (stops d)) → k < 5 → cond (source_at d k).ius None (Some k) ≡ of_five (requester d)
  requester-at k p h =
      let n = first (stops d) in
      let q = some-of (eqb n 5) n k p in
      let s = picked-is (is_served d) n (omega (arith, h, q.1)) in
      let r = is-requester d on ∙ simp (q.0, ← s) in
      subst (λ (k : ℕ). cond (source_at d k).ius None (Some k) ≡ of_five (requester d)) (sym q.1) (ended (is_served d n) n q.0 ∙ ap of_five (sym r))

pub requester-off : (d : Device) → (mie d && d.iei) ≡ false → None ≡ of_five (requester d)
unfolding requester first requests first_of
requester-off d off = simp (off)

-- ---- whether one is served
pub any-served : (d : Device) → length d.sources ≡ 5 → list_any (λ (s : Source). s.ius) d.sources ≡ served d 4
unfolding served
any-served d h =
    ap (list_any (λ (s : Source). s.ius)) (five quiet d.sources h)
    ∙ same _ _
    (all5 (λ a b c d e. beq (a || (b || (c || (d || (e || false))))) (e || (d || (c || (b || a))))) tt
    (is_served d 0) (is_served d 1) (is_served d 2) (is_served d 3) (is_served d 4))

-- ---- the first of three, at the even places
abbrev pub third : Bool → Bool → Bool → Option ℕ
third a b c =
    let n = cond (not a) (1 + cond (not b) (1 + cond (not c) 1 0) 0) 0 in
    cond (ltb n 3) (Some n) None

pub even-none : (a b c : Bool) → None ≡ third a b c → None ≡ of_five (first_of a false b false c)
unfolding first_of
even-none true b c p = absurd (cc)
even-none false true c p = absurd (cc)
even-none false false true p = absurd (cc)
even-none false false false p = refl

twice : (i n : ℕ) → i ≡ n → n < 3 → cond (ltb (2 * i) 5) (Some (2 * i)) None ≡ Some (2 * n)
twice i n e h = grind (arith, nat_tests)

pub even-at : (a b c : Bool) (i : ℕ) → Some i ≡ third a b c → cond (ltb (2 * i) 5) (Some (2 * i)) None ≡ of_five (first_of a false b false c)
unfolding first_of
even-at true b c i p = twice i 0 (cc) (omega arith)
even-at false true c i p = twice i 1 (cc) (omega arith)
even-at false false true i p = twice i 2 (cc) (omega arith)
even-at false false false i p = absurd (cc)

-- ---- whether one requests
named : (a b c d e : Bool) → is_some (of_five (first_of a b c d e)) ≡ ltb (first_of a b c d e) 5
unfolding first_of
named a b c d e =
    same _ _
    (all5 (λ a b c d e. let n = cond a 0 (cond b 1 (cond c 2 (cond d 3 (cond e 4 5)))) in beq (is_some (of_five n)) (ltb n 5)) tt a b c d e)

pub some-requests : (d : Device) → is_some (of_five (requester d)) ≡ ltb (requester d) 5
unfolding requester first
some-requests d = named (requests d 0) (requests d 1) (requests d 2) (requests d 3) (requests d 4)
