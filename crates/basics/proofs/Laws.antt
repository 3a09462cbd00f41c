-- The laws of a byte's bits.
-- Assumes nothing.
use Prim.Native.Nat.{ℕ, zero, suc, ◌+◌, ◌*◌, ◌/◌, ◌%◌, ◌^◌, ◌<◌}
use mathlib.Core.Path.{◌≡◌, refl, sym, ap, subst, ◌∙◌}
use mathlib.Core.Bool.{Bool, true, false, not, ◌&&◌, ◌||◌, beq}
use mathlib.Core.Logic.{⊎_elim}
use native.Mathlib.Nat.{mod-lt, eq-or-lt_of_le, le_of_suc-le-suc}
use native.Mathlib.Omega.{arith}
use lib.Dec.{T, eqb, ltb, lit<, eqb→eq, ltb→lt}
use lib.Bits.{bit_and, bit_or, bit_xor, and_lt, xor_lt, and_shr, or_shr, xor_shr, and_mod, or_mod, xor_mod}
use Rattle.basics.proofs.Places.{each2}
use Rattle.basics.proofs.Truth.{and_left, and_right, rows, all2, all8, same}
use Rattle.basics.specs.Byte.{bit, num, byte_of, differs, every, any}

-- an operation that goes digit by digit, at bit k
module _ (op : ℕ → ℕ → ℕ) (on : Bool → Bool → Bool)
    (shr : (a b k : ℕ) → op a b / 2 ^ k ≡ op (a / 2 ^ k) (b / 2 ^ k))
    (low : (a b : ℕ) → op a b % 2 ≡ op (a % 2) (b % 2))
    (digit : (m n : ℕ) → m < 2 → n < 2 → eqb (op m n) 1 ≡ on (eqb m 1) (eqb n 1)) where
  bit-op : (a b k : ℕ) → bit (op a b) k ≡ on (bit a k) (bit b k)
  bit-op a b k =
      ap (λ (n : ℕ). eqb (n % 2) 1) (shr a b k) ∙ ap (λ (n : ℕ). eqb n 1) (low (a / 2 ^ k) (b / 2 ^ k))
      ∙ digit (a / 2 ^ k % 2) (b / 2 ^ k % 2) (mod-lt (a / 2 ^ k) (lit< tt)) (mod-lt (b / 2 ^ k) (lit< tt))

pub bit-and : (a b k : ℕ) → bit (bit_and a b) k ≡ (bit a k && bit b k)
bit-and =
    bit-op bit_and ◌&&◌ and_shr (λ a b. and_mod a b 1)
    (λ m n h g.
    each2 (λ (m : ℕ). eqb (bit_and m n) 1 ≡ (eqb m 1 && eqb n 1))
    (each2 (λ (n : ℕ). eqb (bit_and 0 n) 1 ≡ (eqb 0 1 && eqb n 1)) refl refl n g)
    (each2 (λ (n : ℕ). eqb (bit_and 1 n) 1 ≡ (eqb 1 1 && eqb n 1)) refl refl n g) m h)

pub bit-or : (a b k : ℕ) → bit (bit_or a b) k ≡ (bit a k || bit b k)
bit-or =
    bit-op bit_or ◌||◌ or_shr (λ a b. or_mod a b 1)
    (λ m n h g.
    each2 (λ (m : ℕ). eqb (bit_or m n) 1 ≡ (eqb m 1 || eqb n 1))
    (each2 (λ (n : ℕ). eqb (bit_or 0 n) 1 ≡ (eqb 0 1 || eqb n 1)) refl refl n g)
    (each2 (λ (n : ℕ). eqb (bit_or 1 n) 1 ≡ (eqb 1 1 || eqb n 1)) refl refl n g) m h)

pub bit-xor : (a b k : ℕ) → bit (bit_xor a b) k ≡ differs (bit a k) (bit b k)
bit-xor =
    bit-op bit_xor differs xor_shr (λ a b. xor_mod a b 1)
    (λ m n h g.
    each2 (λ (m : ℕ). eqb (bit_xor m n) 1 ≡ differs (eqb m 1) (eqb n 1))
    (each2 (λ (n : ℕ). eqb (bit_xor 0 n) 1 ≡ differs (eqb 0 1) (eqb n 1)) refl refl n g)
    (each2 (λ (n : ℕ). eqb (bit_xor 1 n) 1 ≡ differs (eqb 1 1) (eqb n 1)) refl refl n g) m h)

-- the number of bit k is the digit
num-bit : (x k : ℕ) → num (bit x k) ≡ x / 2 ^ k % 2
num-bit x k = each2 (λ (d : ℕ). num (eqb d 1) ≡ d) refl refl (x / 2 ^ k % 2) (mod-lt (x / 2 ^ k) (lit< tt))

-- a test that passes at every number below n, which antt computes
abbrev pub all : (ℕ → Bool) → ℕ → Bool
all f zero = true
all f (suc n) = f n && all f n

pub below : (f : ℕ → Bool) (n : ℕ) → T (all f n) → (k : ℕ) → k < n → T (f k)
below f zero t k h = absurd (omega arith)
below f (suc n) t k h =
    ⊎_elim (λ (e : k ≡ n). subst (λ (m : ℕ). T (f m)) (sym e) (and_left (f n) (all f n) t))
    (λ g. below f n (and_right (f n) (all f n) t) k g) (eq-or-lt_of_le (le_of_suc-le-suc h))

-- a byte is the byte of its bits
pub byte-bits : (x : ℕ) → x < 256 → byte_of (bit x) ≡ x
unfolding byte_of
byte-bits x h = eqb→eq _ _ (below (λ x. eqb (byte_of (bit x)) x) 256 tt x h)

-- the byte of eight bits goes by the bits below 8
pub byte-of : (f g : ℕ → Bool) → ((k : ℕ) → k < 8 → f k ≡ g k) → byte_of f ≡ byte_of g
unfolding byte_of
byte-of f g h =
    simp (h 0 (lit< tt), h 1 (lit< tt), h 2 (lit< tt), h 3 (lit< tt), h 4 (lit< tt), h 5 (lit< tt), h 6 (lit< tt), h 7 (lit< tt))

is_true : (b : Bool) → T b → b ≡ true
is_true true t = refl
is_true false t = absurd t

-- every bit of 255 is 1
pub ones : (k : ℕ) → k < 8 → bit 255 k ≡ true
ones k h = is_true _ (below (λ k. bit 255 k) 8 tt k h)

-- a byte goes by its bits
pub by_bits : (x : ℕ) (f : ℕ → Bool) → x < 256 → ((k : ℕ) → k < 8 → bit x k ≡ f k) → x ≡ byte_of f
by_bits x f h g = sym (byte-bits x h) ∙ byte-of (bit x) f g

-- ---- the bits of the byte of eight bits
abbrev byte8 : Bool → Bool → Bool → Bool → Bool → Bool → Bool → Bool → ℕ
byte8 a b c d e f g h = num a + 2 * num b + 4 * num c + 8 * num d + 16 * num e + 32 * num f + 64 * num g + 128 * num h

pub byte-lt : (f : ℕ → Bool) → byte_of f < 256
unfolding byte_of
byte-lt f =
    ltb→lt _ _ (all8 (λ a b c d e f g h. ltb (byte8 a b c d e f g h) 256) tt (f 0) (f 1) (f 2) (f 3) (f 4) (f 5) (f 6) (f 7))

module _ (f : ℕ → Bool) where
  at-bit : (k : ℕ) (x : Bool → Bool → Bool → Bool → Bool → Bool → Bool → Bool → Bool)
      → T (rows (λ a. rows (λ b. rows (λ c. rows (λ d. rows (λ e. rows (λ f. rows (λ g. rows (λ h. beq (bit (byte8 a b c d e f g h) k) (x a b c d e f g h))))))))))
      → bit (byte_of f) k ≡ x (f 0) (f 1) (f 2) (f 3) (f 4) (f 5) (f 6) (f 7)
  unfolding byte_of
  at-bit k x t =
      same _ _ (all8 (λ a b c d e f g h. beq (bit (byte8 a b c d e f g h) k) (x a b c d e f g h)) t (f 0) (f 1) (f 2) (f 3) (f 4) (f 5) (f 6) (f 7))

  pub bit_byte_lem : (k : ℕ) → k < 8 → bit (byte_of f) k ≡ f k
  bit_byte_lem zero l = at-bit 0 (λ a b c d e f g h. a) tt
  bit_byte_lem (suc zero) l = at-bit 1 (λ a b c d e f g h. b) tt
  bit_byte_lem (suc (suc zero)) l = at-bit 2 (λ a b c d e f g h. c) tt
  bit_byte_lem (suc (suc (suc zero))) l = at-bit 3 (λ a b c d e f g h. d) tt
  bit_byte_lem (suc (suc (suc (suc zero)))) l = at-bit 4 (λ a b c d e f g h. e) tt
  bit_byte_lem (suc (suc (suc (suc (suc zero))))) l = at-bit 5 (λ a b c d e f g h. f) tt
  bit_byte_lem (suc (suc (suc (suc (suc (suc zero)))))) l = at-bit 6 (λ a b c d e f g h. g) tt
  bit_byte_lem (suc (suc (suc (suc (suc (suc (suc zero))))))) l = at-bit 7 (λ a b c d e f g h. h) tt
  bit_byte_lem (suc (suc (suc (suc (suc (suc (suc (suc k)))))))) l = absurd (omega arith)

-- ---- a byte that is not 0 has a bit; one whose bits are what fails is 0 where nothing fails
pub nonzero : (f : ℕ → Bool) → not (eqb (byte_of f) 0) ≡ any f
unfolding byte_of any
nonzero f =
    same _ _
    (all8 (λ a b c d e f g h. beq (not (eqb (byte8 a b c d e f g h) 0)) (a || b || c || d || e || f || g || h)) tt (f 0) (f 1) (f 2) (f 3) (f 4) (f 5) (f 6) (f 7))

pub is_zero : (f : ℕ → Bool) → eqb (byte_of (λ k. not (f k))) 0 ≡ every f
unfolding byte_of every
is_zero f =
    same _ _
    (all8 (λ a b c d e f g h. beq (eqb (byte8 (not a) (not b) (not c) (not d) (not e) (not f) (not g) (not h)) 0) (a && b && c && d && e && f && g && h)) tt
    (f 0) (f 1) (f 2) (f 3) (f 4) (f 5) (f 6) (f 7))

missed : (a b : Bool) → (a && differs b true) ≡ not (not a || b)
missed a b = same _ _ (all2 (λ a b. beq (a && differs b true) (not (not a || b))) tt a b)

-- no bit of x outside y: at every bit, if x then y
pub inside : (x y : ℕ) (f : ℕ → Bool) → x < 256 → y < 256 → ((k : ℕ) → k < 8 → (not (bit x k) || bit y k) ≡ f k)
    → eqb (bit_and x (bit_xor y 255)) 0 ≡ every f
inside x y f hx hy g =
    ap (λ (n : ℕ). eqb n 0)
    (by_bits _ (λ k. not (f k)) (and_lt 8 _ _ hx (xor_lt 8 _ _ hy (lit< tt)))
    (λ k h. simp (bit-and, bit-xor, ones k h) (missed (bit x k) (bit y k) ∙ ap not (g k h))))
    ∙ is_zero f
