-- The masks of the code, bit by bit: at each bit one truth table.
-- Assumes nothing.
use Prim.Native.Nat.{ℕ, ◌+◌, ◌-◌, ◌/◌, ◌%◌, ◌<◌}
use mathlib.Core.Path.{◌≡◌, refl}
use mathlib.Core.Bool.{Bool, true, false, not, ◌&&◌, ◌||◌, beq, cond}
use lib.Dec.{eqb, ltb, lit<, eqb→eq}
use lib.Bits.{bit_and, bit_or, bit_xor, and_lt, or_lt, xor_lt}
use Rattle.basics.specs.Byte.{bit, differs, byte_of, every}
use Rattle.rules.specs.declared.Counter.{Counter}
use Rattle.rules.specs.declared.Port.{Port}
use Rattle.rules.specs.Counters.{output_enabled, output_of}
use Rattle.rules.specs.PortData.{pin_bit, path_bit, catches, caught_bit, seen_bit, standing, output_bit, cleared_bit, put_of}
use Rattle.rules.specs.Patterns.{on_bit, hit_bit}
use Rattle.basics.proofs.Truth.{all2, all3, all4, all5, all6, same}
use Rattle.basics.proofs.Laws.{bit-and, bit-or, bit-xor, ones, by_bits, below, bit_byte_lem, byte-lt, inside}

-- the bits that have a catcher, from the port's enable, direction and special
pub places-bits : (e : Bool) (i s : ℕ) → i < 256 → s < 256
    → bit_and (bit_and (byte_of (λ k. e)) i) s ≡ byte_of (λ k. catches e (bit i k) (bit s k))
unfolding catches
places-bits e i s hi hs =
    by_bits _ _ (search (and_lt 8, byte-lt) depth 9)
    (λ k h. simp (bit-and, bit_byte_lem (λ k. e) k h) (same _ _ (all3 (λ e i s. beq (e && i && s) (catches e i s)) tt e (bit i k) (bit s k))))

-- a port's pins, from its enable, direction, special, polarity, value and outside levels
abbrev level : ℕ → ℕ → ℕ
level p v = bit_xor v p

abbrev driven : Bool → ℕ → ℕ → ℕ → ℕ → ℕ
driven e i s p v = bit_and (bit_and (byte_of (λ k. e)) (bit_xor i 255)) (bit_xor (bit_and s (level p v)) 255)

pub pins-bits : (e : Bool) (i s p v o : ℕ) → i < 256 → s < 256 → p < 256 → v < 256 → o < 256
    → bit_or (bit_and (level p v) (driven e i s p v)) (bit_and o (bit_xor (driven e i s p v) 255))
    ≡ byte_of (λ k. pin_bit e (bit i k) (bit s k) (bit p k) (bit v k) (bit o k))
unfolding pin_bit
pins-bits e i s p v o hi hs hp hv ho =
    by_bits _ _ (search (or_lt 8, and_lt 8, xor_lt 8, byte-lt, lit<, tt) depth 9)
    (λ k h.
    simp (bit-or, bit-and, bit-xor, ones k h, bit_byte_lem (λ k. e) k h)
    (same _ _
    (all6
    (λ e i s p v o.
    let d = e && differs i true && differs (s && differs v p) true in
    beq ((differs v p && d) || (o && differs d true)) (pin_bit e i s p v o))
    tt e (bit i k) (bit s k) (bit p k) (bit v k) (bit o k))))

pub path-bits : (i x p v : ℕ) → i < 256 → x < 256 → p < 256 → v < 256
    → bit_or (bit_and (bit_xor x p) i) (bit_and v (bit_xor i 255)) ≡ byte_of (λ k. path_bit (bit i k) (bit x k) (bit p k) (bit v k))
unfolding path_bit
path-bits i x p v hi hx hp hv =
    by_bits _ _ (search (or_lt 8, and_lt 8, xor_lt 8, lit<, tt) depth 9)
    (λ k h.
    simp (bit-or, bit-and, bit-xor, ones k h)
    (same _ _
    (all4 (λ i x p v. beq ((differs x p && i) || (v && differs i true)) (path_bit i x p v)) tt (bit i k) (bit x k) (bit p k) (bit v k))))

pub level-bits : (x p : ℕ) → x < 256 → p < 256 → bit_xor x p ≡ byte_of (λ k. differs (bit x k) (bit p k))
level-bits x p hx hp = by_bits _ _ (xor_lt 8 _ _ hx hp) (λ k h. bit-xor x p k)

-- the catchers at the places f
pub caught-bits : (f : ℕ → Bool) (c x : ℕ) → c < 256 → x < 256
    → bit_and (byte_of f) (bit_or c x) ≡ byte_of (λ k. caught_bit (f k) (bit c k) (bit x k))
unfolding caught_bit
caught-bits f c x hc hx =
    by_bits _ _ (search (or_lt 8, and_lt 8, byte-lt) depth 9)
    (λ k h. simp (bit-or, bit-and, bit_byte_lem f k h))

pub seen-bits : (f : ℕ → Bool) (c x : ℕ) → c < 256 → x < 256
    → bit_or (bit_and c (byte_of f)) (bit_and x (bit_xor (byte_of f) 255)) ≡ byte_of (λ k. seen_bit (f k) (bit c k) (bit x k))
unfolding seen_bit
seen-bits f c x hc hx =
    by_bits _ _ (search (or_lt 8, and_lt 8, xor_lt 8, byte-lt, lit<, tt) depth 9)
    (λ k h.
    simp (bit-or, bit-and, bit-xor, ones k h, bit_byte_lem f k h)
    (same _ _ (all3 (λ m c x. beq ((c && m) || (x && differs m true)) (seen_bit m c x)) tt (f k) (bit c k) (bit x k))))

-- the byte x with c's output at Dk, where it is enabled; v is the version
pub stand-bits : (v : ℕ) (c : Counter) (k x : ℕ) → x < 256 → output_enabled c ≡ true
    → bit_or (bit_and x (bit_xor (byte_of (λ j. eqb j k)) 255)) (bit_and (byte_of (λ j. output_of v c)) (byte_of (λ j. eqb j k))) ≡ standing v c k x
unfolding standing
stand-bits v c k x hx e =
    by_bits _ _ (search (or_lt 8, and_lt 8, xor_lt 8, byte-lt, lit<, tt) depth 9)
    (λ j h.
    simp (bit-or, bit-and, bit-xor, ones j h, bit_byte_lem (λ j. eqb j k) j h, bit_byte_lem (λ j. output_of v c) j h, e)
    (same _ _ (all3 (λ m b x. beq ((x && differs m true) || (b && m)) (cond (m && true) b x)) tt (eqb j k) (output_of v c) (bit x j))))

pub kept-bits : (v : ℕ) (c : Counter) (k x : ℕ) → x < 256 → output_enabled c ≡ false → x ≡ standing v c k x
unfolding standing
kept-bits v c k x hx e =
    by_bits _ _ hx
    (λ j h. simp (e) (same _ _ (all3 (λ m b x. beq x (cond (m && false) b x)) tt (eqb j k) (output_of v c) (bit x j))))

-- D7-D4 protect D3-D0
pub opened-bits : (b : ℕ) → b < 256 → bit_and (bit_xor (b / 16) 255) 15 ≡ byte_of (λ k. ltb k 4 && not (bit b (k + 4)))
unfolding byte_of
opened-bits b h =
    eqb→eq _ _ (below (λ b. eqb (bit_and (bit_xor (b / 16) 255) 15) (byte_of (λ k. ltb k 4 && not (bit b (k + 4))))) 256 tt b h)

-- what a write of b, with the direction i in effect, leaves of the output register and the catchers, at the places f
abbrev through : (ℕ → Bool) → ℕ → ℕ
through f i = bit_and (byte_of f) (bit_xor i 255)

output-bits : (f : ℕ → Bool) (i b o : ℕ) → i < 256 → b < 256 → o < 256
    → bit_or (bit_and b (through f i)) (bit_and o (bit_xor (through f i) 255)) ≡ byte_of (λ k. output_bit (f k) (bit i k) (bit b k) (bit o k))
unfolding output_bit
output-bits f i b o hi hb ho =
    by_bits _ _ (search (or_lt 8, and_lt 8, xor_lt 8, byte-lt, lit<, tt) depth 9)
    (λ k h.
    simp (bit-or, bit-and, bit-xor, ones k h, bit_byte_lem f k h)
    (same _ _
    (all4
    (λ m i b o.
    let t = m && differs i true in
    beq ((b && t) || (o && differs t true)) (output_bit m i b o))
    tt (f k) (bit i k) (bit b k) (bit o k))))

cleared-bits : (f : ℕ → Bool) (b c : ℕ) → b < 256 → c < 256
    → bit_and c (bit_xor (bit_and (byte_of f) (bit_xor b 255)) 255) ≡ byte_of (λ k. cleared_bit (f k) (bit b k) (bit c k))
unfolding cleared_bit
cleared-bits f b c hb hc =
    by_bits _ _ (search (and_lt 8, xor_lt 8, byte-lt, lit<, tt) depth 9)
    (λ k h.
    simp (bit-and, bit-xor, ones k h, bit_byte_lem f k h)
    (same _ _
    (all3 (λ m b c. beq (c && differs (m && differs b true) true) (cleared_bit m b c)) tt (f k) (bit b k) (bit c k))))

pub put-bits : (f : ℕ → Bool) (q : Port) (i b : ℕ) → i < 256 → q.output < 256 → q.catcher < 256 → b < 256
    → record {
      polarity = q.polarity;
      direction = q.direction;
      special = q.special;
      output = bit_or (bit_and b (through f i)) (bit_and q.output (bit_xor (through f i) 255));
      outside = q.outside;
      catcher = bit_and q.catcher (bit_xor (bit_and (byte_of f) (bit_xor b 255)) 255);
    }
    ≡ put_of q i f b
unfolding put_of
put-bits f q i b hi ho hc hb = simp (output-bits f i b q.output hi hb ho, cleared-bits f b q.catcher hb hc)

-- a pattern's bits that are on, and those whose condition holds
pub on-bits : (m t : ℕ) → m < 256 → t < 256 → bit_or m t ≡ byte_of (λ k. on_bit (bit m k) (bit t k))
unfolding on_bit
on-bits m t hm ht = by_bits _ _ (or_lt 8 _ _ hm ht) (λ k h. bit-or m t k)

abbrev equal : ℕ → ℕ → ℕ
equal p a = bit_xor (bit_xor a p) 255

abbrev edges : ℕ → ℕ → ℕ → ℕ
edges t b a = bit_and (bit_xor b a) t

pub hits-bits : (m t p b a : ℕ) → m < 256 → t < 256 → p < 256 → b < 256 → a < 256
    → bit_or (bit_or (bit_and (bit_and (equal p a) m) (bit_xor t 255)) (bit_and (edges t b a) (bit_xor m 255))) (bit_and (bit_and (edges t b a) m) (equal p a))
    ≡ byte_of (λ k. hit_bit (bit m k) (bit t k) (bit p k) (bit b k) (bit a k))
unfolding hit_bit
hits-bits m t p b a hm ht hp hb ha =
    by_bits _ _ (search (or_lt 8, and_lt 8, xor_lt 8, lit<, tt) depth 9)
    (λ k h.
    simp (bit-or, bit-and, bit-xor, ones k h)
    (same _ _
    (all5
    (λ m t p b a.
    let l = differs (differs a p) true in
    let e = differs b a && t in
    beq ((l && m && differs t true) || (e && differs m true) || (e && m && l)) (hit_bit m t p b a))
    tt (bit m k) (bit t k) (bit p k) (bit b k) (bit a k))))

-- every bit that is on is hit
pub missed-none : (f g : ℕ → Bool) → eqb (bit_and (byte_of f) (bit_xor (byte_of g) 255)) 0 ≡ every (λ k. not (f k) || g k)
missed-none f g = inside _ _ _ (byte-lt f) (byte-lt g) (λ k h. simp (bit_byte_lem f k h, bit_byte_lem g k h))

-- catchers only at the places f, and set there where the path x is 1
pub sound-bits : (f : ℕ → Bool) (c x : ℕ) → c < 256 → x < 256
    → (eqb (bit_and c (bit_xor (byte_of f) 255)) 0 && eqb (bit_and (bit_and (byte_of f) x) (bit_xor c 255)) 0)
    ≡ (every (λ k. not (bit c k) || f k) && every (λ k. not (f k && bit x k) || bit c k))
sound-bits f c x hc hx =
    simp (
      inside c (byte_of f) (λ k. not (bit c k) || f k) hc (byte-lt f) (λ k h. simp (bit_byte_lem f k h)),
      inside (bit_and (byte_of f) x) c (λ k. not (f k && bit x k) || bit c k) (and_lt 8 _ _ (byte-lt f) hx) hc (λ k h. simp (bit-and, bit_byte_lem f k h)),
    )

-- ---- the lines of the ports with handshake, at the places f of Port C: the even bits are inputs, the odd ones show ready or available
even : (k : ℕ) → k < 8 → bit 0x55 k ≡ eqb (k % 2) 0
even k h = same _ _ (below (λ k. beq (bit 0x55 k) (eqb (k % 2) 0)) 8 tt k h)

odd : (k : ℕ) → k < 8 → bit 0xAA k ≡ eqb (k % 2) 1
odd k h = same _ _ (below (λ k. beq (bit 0xAA k) (eqb (k % 2) 1)) 8 tt k h)

pub direction-bits : (f : ℕ → Bool) (i : ℕ) → i < 256
    → bit_or (bit_and i (bit_xor (byte_of f) 255)) (bit_and (byte_of f) 0x55) ≡ byte_of (λ k. cond (f k) (eqb (k % 2) 0) (bit i k))
direction-bits f i hi =
    by_bits _ _ (search (or_lt 8, and_lt 8, xor_lt 8, byte-lt, lit<, tt) depth 9)
    (λ k h.
    simp (bit-or, bit-and, bit-xor, ones k h, bit_byte_lem f k h, even k h)
    (same _ _ (all3 (λ m e i. beq ((i && differs m true) || (m && e)) (cond m e i)) tt (f k) (eqb (k % 2) 0) (bit i k))))

pub special-bits : (f : ℕ → Bool) (s : ℕ) → s < 256
    → bit_and s (bit_xor (bit_and (byte_of f) 0x55) 255) ≡ byte_of (λ k. not (f k && eqb (k % 2) 0) && bit s k)
special-bits f s hs =
    by_bits _ _ (search (and_lt 8, xor_lt 8, byte-lt, lit<, tt) depth 9)
    (λ k h.
    simp (bit-and, bit-xor, ones k h, bit_byte_lem f k h, even k h)
    (same _ _ (all3 (λ m e s. beq (s && differs (m && e) true) (not (m && e) && s)) tt (f k) (eqb (k % 2) 0) (bit s k))))

-- Port A's lines are D3-D2, Port B's D1-D0: what g says of the ports, at their lines
abbrev pub at_lines : (ℕ → Bool) → ℕ → Bool
at_lines g k = ltb k 4 && g (1 - k / 2)

pub at-lines : (g : ℕ → Bool) → byte_of (λ k. ltb k 4 && cond (ltb k 2) (g 1) (g 0)) ≡ byte_of (at_lines g)
unfolding byte_of
at-lines g = refl

pub at-lines-bits : (a b : Bool) → bit_or (bit_and (byte_of (λ k. a)) 12) (bit_and (byte_of (λ k. b)) 3) ≡ byte_of (λ k. ltb k 4 && cond (ltb k 2) b a)
unfolding byte_of
at-lines-bits a b =
    eqb→eq _ _
    (all2 (λ a b. eqb (bit_or (bit_and (byte_of (λ k. a)) 12) (bit_and (byte_of (λ k. b)) 3)) (byte_of (λ k. ltb k 4 && cond (ltb k 2) b a))) tt a b)

pub lined-bits : (f g : ℕ → Bool) (x : ℕ) → x < 256
    → bit_or (bit_and x (bit_xor (bit_and (byte_of (at_lines f)) 0xAA) 255)) (bit_and (byte_of (at_lines g)) (bit_and (byte_of (at_lines f)) 0xAA))
    ≡ byte_of (λ k. cond (at_lines f k && eqb (k % 2) 1) (g (1 - k / 2)) (bit x k))
lined-bits f g x hx =
    by_bits _ _ (search (or_lt 8, and_lt 8, xor_lt 8, byte-lt, lit<, tt) depth 9)
    (λ k h.
    simp (bit-or, bit-and, bit-xor, ones k h, bit_byte_lem (at_lines f) k h, bit_byte_lem (at_lines g) k h, odd k h)
    (same _ _
    (all5
    (λ l m r o x.
    let t = l && m && o in
    beq ((x && differs t true) || (l && r && t)) (cond t r x))
    tt (ltb k 4) (f (1 - k / 2)) (g (1 - k / 2)) (eqb (k % 2) 1) (bit x k))))
