-- The bytes that are made of single bits: what their bits are, and that a byte whose unused bits are 0 is made of its bits.
-- Assumes nothing.
use Prim.Native.Nat.{ℕ, ◌+◌, ◌<◌}
use mathlib.Core.Path.{◌≡◌, refl, subst}
use mathlib.Core.Bool.{Bool, true, false, not, ◌&&◌, ◌||◌, beq, cond}
use native.Mathlib.Nat.{div-add-mod'}
use lib.Arith.{digits_div, digits_mod}
use lib.Dec.{T, eqb, ltb, eqb→eq}
use Rattle.basics.specs.Byte.{bit, byte_in}
use Rattle.bodies.specs.Taken.{word_of, counter_clear}
use Rattle.basics.proofs.Tests.{both, triple}
use Rattle.basics.proofs.Truth.{rows, all2, all3, all7, all8, same}
use Rattle.basics.proofs.Laws.{all, below}

-- clauses that hold together hold one by one
pub sextet : (a b c d e f : Bool) → (a && b && c && d && e && f) ≡ true → (a ≡ true) × (b ≡ true) × (c ≡ true) × (d ≡ true) × (e ≡ true) × (f ≡ true)
sextet a b c d e f h =
    let u = both (a && b && c && d && e) f h in
    let t = both (a && b && c && d) e u.0 in
    let s = both (a && b && c) d t.0 in
    let r = triple a b c s.0 in (r.0, r.1, r.2, s.1, t.1, u.1)

-- "IUS, IE, IP, ERR in D7-D4", and of a port D3 ORE, D2 IRF, "D1 PMF, D0 IOE"
abbrev pub port_byte : Bool → Bool → Bool → Bool → Bool → Bool → Bool → Bool → ℕ
port_byte u e p r o f m i = cond u 128 0 + cond e 64 0 + cond p 32 0 + cond r 16 0 + (cond o 8 0 + cond f 4 0 + cond m 2 0 + cond i 1 0)

-- of a counter "D3 RCC, D2 GCB, .. D0 CIP"
abbrev pub counter_byte : Bool → Bool → Bool → Bool → Bool → Bool → Bool → ℕ
counter_byte u e p r f g c = cond u 128 0 + cond e 64 0 + cond p 32 0 + cond r 16 0 + (cond f 8 0 + cond g 4 0 + cond c 1 0)

-- of hidden errors, and of a transfer's flags, D0 and D1
abbrev pub flag_byte : Bool → Bool → ℕ
flag_byte a b = cond a 1 0 + cond b 2 0

-- of a counter's flags D2 too
abbrev pub pulse_byte : Bool → Bool → Bool → ℕ
pulse_byte a b c = cond a 1 0 + cond b 2 0 + cond c 4 0

module _ (u e p r o f m i : Bool) where
  at-port : (k : ℕ) (x : Bool → Bool → Bool → Bool → Bool → Bool → Bool → Bool → Bool)
      → T (rows (λ u. rows (λ e. rows (λ p. rows (λ r. rows (λ o. rows (λ f. rows (λ m. rows (λ i. beq (bit (port_byte u e p r o f m i) k) (x u e p r o f m i))))))))))
      → bit (port_byte u e p r o f m i) k ≡ x u e p r o f m i
  at-port k x t = same _ _ (all8 (λ u e p r o f m i. beq (bit (port_byte u e p r o f m i) k) (x u e p r o f m i)) t u e p r o f m i)

  pub port-ius : bit (port_byte u e p r o f m i) 7 ≡ u
  port-ius = at-port 7 (λ u e p r o f m i. u) tt

  pub port-ie : bit (port_byte u e p r o f m i) 6 ≡ e
  port-ie = at-port 6 (λ u e p r o f m i. e) tt

  pub port-ip : bit (port_byte u e p r o f m i) 5 ≡ p
  port-ip = at-port 5 (λ u e p r o f m i. p) tt

  pub port-err : bit (port_byte u e p r o f m i) 4 ≡ r
  port-err = at-port 4 (λ u e p r o f m i. r) tt

  pub port-ore : bit (port_byte u e p r o f m i) 3 ≡ o
  port-ore = at-port 3 (λ u e p r o f m i. o) tt

  pub port-irf : bit (port_byte u e p r o f m i) 2 ≡ f
  port-irf = at-port 2 (λ u e p r o f m i. f) tt

  pub port-pmf : bit (port_byte u e p r o f m i) 1 ≡ m
  port-pmf = at-port 1 (λ u e p r o f m i. m) tt

  pub port-ioe : bit (port_byte u e p r o f m i) 0 ≡ i
  port-ioe = at-port 0 (λ u e p r o f m i. i) tt

module _ (u e p r f g c : Bool) where
  at-counter : (k : ℕ) (x : Bool → Bool → Bool → Bool → Bool → Bool → Bool → Bool)
      → T (rows (λ u. rows (λ e. rows (λ p. rows (λ r. rows (λ f. rows (λ g. rows (λ c. beq (bit (counter_byte u e p r f g c) k) (x u e p r f g c)))))))))
      → bit (counter_byte u e p r f g c) k ≡ x u e p r f g c
  at-counter k x t = same _ _ (all7 (λ u e p r f g c. beq (bit (counter_byte u e p r f g c) k) (x u e p r f g c)) t u e p r f g c)

  pub counter-ius : bit (counter_byte u e p r f g c) 7 ≡ u
  counter-ius = at-counter 7 (λ u e p r f g c. u) tt

  pub counter-ie : bit (counter_byte u e p r f g c) 6 ≡ e
  counter-ie = at-counter 6 (λ u e p r f g c. e) tt

  pub counter-ip : bit (counter_byte u e p r f g c) 5 ≡ p
  counter-ip = at-counter 5 (λ u e p r f g c. p) tt

  pub counter-err : bit (counter_byte u e p r f g c) 4 ≡ r
  counter-err = at-counter 4 (λ u e p r f g c. r) tt

  pub counter-rcc : bit (counter_byte u e p r f g c) 3 ≡ f
  counter-rcc = at-counter 3 (λ u e p r f g c. f) tt

  pub counter-gcb : bit (counter_byte u e p r f g c) 2 ≡ g
  counter-gcb = at-counter 2 (λ u e p r f g c. g) tt

  pub counter-cip : bit (counter_byte u e p r f g c) 0 ≡ c
  counter-cip = at-counter 0 (λ u e p r f g c. c) tt

  pub counter-clear : counter_clear (counter_byte u e p r f g c) ≡ true
  counter-clear = same _ _ (all7 (λ u e p r f g c. beq (counter_clear (counter_byte u e p r f g c)) true) tt u e p r f g c)

pub flag-0 : (a b : Bool) → bit (flag_byte a b) 0 ≡ a
flag-0 a b = same _ _ (all2 (λ a b. beq (bit (flag_byte a b) 0) a) tt a b)

pub flag-1 : (a b : Bool) → bit (flag_byte a b) 1 ≡ b
flag-1 a b = same _ _ (all2 (λ a b. beq (bit (flag_byte a b) 1) b) tt a b)

pub flag-clear : (a b : Bool) → ltb (flag_byte a b) 4 ≡ true
flag-clear a b = same _ _ (all2 (λ a b. beq (ltb (flag_byte a b) 4) true) tt a b)

pub pulse-0 : (a b c : Bool) → bit (pulse_byte a b c) 0 ≡ a
pulse-0 a b c = same _ _ (all3 (λ a b c. beq (bit (pulse_byte a b c) 0) a) tt a b c)

pub pulse-1 : (a b c : Bool) → bit (pulse_byte a b c) 1 ≡ b
pulse-1 a b c = same _ _ (all3 (λ a b c. beq (bit (pulse_byte a b c) 1) b) tt a b c)

pub pulse-2 : (a b c : Bool) → bit (pulse_byte a b c) 2 ≡ c
pulse-2 a b c = same _ _ (all3 (λ a b c. beq (bit (pulse_byte a b c) 2) c) tt a b c)

pub pulse-clear : (a b c : Bool) → ltb (pulse_byte a b c) 8 ≡ true
pulse-clear a b c = same _ _ (all3 (λ a b c. beq (ltb (pulse_byte a b c) 8) true) tt a b c)

pub line-0 : (a : Bool) → bit (cond a 1 0) 0 ≡ a
line-0 true = refl
line-0 false = refl

pub line_clear : (a : Bool) → ltb (cond a 1 0) 2 ≡ true
line_clear true = refl
line_clear false = refl

-- ---- back: a test on bytes that passes wherever a byte is clear
module _ (clear : ℕ → Bool) (made : ℕ → ℕ) where
  pub made_of : T (all (λ x. not (clear x) || eqb (made x) x) 256) → (x : ℕ) → x < 256 → clear x ≡ true → made x ≡ x
  made_of t x h c = eqb→eq _ _ (subst (λ (b : Bool). T (not b || eqb (made x) x)) c (below (λ x. not (clear x) || eqb (made x) x) 256 t x h))

-- every bit of a port's byte is used
pub port-made : (x : ℕ) → x < 256 → port_byte (bit x 7) (bit x 6) (bit x 5) (bit x 4) (bit x 3) (bit x 2) (bit x 1) (bit x 0) ≡ x
port-made x h = made_of (λ x. true) (λ x. port_byte (bit x 7) (bit x 6) (bit x 5) (bit x 4) (bit x 3) (bit x 2) (bit x 1) (bit x 0)) tt x h refl

pub counter-made : (x : ℕ) → x < 256 → counter_clear x ≡ true → counter_byte (bit x 7) (bit x 6) (bit x 5) (bit x 4) (bit x 3) (bit x 2) (bit x 0) ≡ x
counter-made = made_of counter_clear (λ x. counter_byte (bit x 7) (bit x 6) (bit x 5) (bit x 4) (bit x 3) (bit x 2) (bit x 0)) tt

pub flag-made : (x : ℕ) → x < 256 → ltb x 4 ≡ true → flag_byte (bit x 0) (bit x 1) ≡ x
flag-made = made_of (λ x. ltb x 4) (λ x. flag_byte (bit x 0) (bit x 1)) tt

pub pulse-made : (x : ℕ) → x < 256 → ltb x 8 ≡ true → pulse_byte (bit x 0) (bit x 1) (bit x 2) ≡ x
pulse-made = made_of (λ x. ltb x 8) (λ x. pulse_byte (bit x 0) (bit x 1) (bit x 2)) tt

pub line_made : (x : ℕ) → x < 256 → ltb x 2 ≡ true → cond (bit x 0) 1 0 ≡ x
line_made = made_of (λ x. ltb x 2) (λ x. cond (bit x 0) 1 0) tt

-- ---- the bytes of a word, high first
pub word_read : (n : ℕ) → word_of (byte_in true n) (byte_in false n) ≡ n
unfolding byte_in
word_read n = div-add-mod' n 256

pub high-made : (h l : ℕ) → l < 256 → byte_in true (word_of h l) ≡ h
unfolding byte_in
high-made h l b = digits_div h b

pub low-made : (h l : ℕ) → l < 256 → byte_in false (word_of h l) ≡ l
unfolding byte_in
low-made h l b = digits_mod h b
