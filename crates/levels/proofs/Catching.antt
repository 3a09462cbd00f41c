-- A bit that catches is an input, so its path value is the outside level XOR polarity, whatever the port puts out.
-- Assumes nothing.
use Prim.Native.Nat.{ℕ, ◌<◌}
use mathlib.Core.Path.{◌≡◌, sym, ap, ◌∙◌}
use mathlib.Core.Bool.{Bool, ◌&&◌, ◌||◌, beq}
use lib.Dec.{lit<}
use lib.Bits.{bit_xor}
use Rattle.basics.specs.Byte.{bit, differs, every}
use Rattle.rules.specs.declared.Port.{Port}
use Rattle.rules.specs.PortData.{path_bit, catches, caught_bit, catches_at, caught_of, pins_of, path_of}
use Rattle.rules.specs.Sound.{only, catcher_only, catcher_set, sound_port}
use Rattle.basics.proofs.Truth.{all3, all6, same}
use Rattle.basics.proofs.Laws.{bit-xor, bit_byte_lem, byte-of}
use Rattle.levels.proofs.Plain.{path-outside}

path-bit : (q : Port) (v k : ℕ) → k < 8 → bit (path_of q q.outside v) k ≡ path_bit (bit q.direction k) (bit q.outside k) (bit q.polarity k) (bit v k)
unfolding path_of
path-bit q v k h = bit_byte_lem _ k h

catching : (e i s p o v : Bool) → (catches e i s && path_bit i o p v) ≡ (catches e i s && differs o p)
unfolding catches path_bit
catching e i s p o v = same _ _ (all6 (λ e i s p o v. beq (catches e i s && path_bit i o p v) (catches e i s && differs o p)) tt e i s p o v)

at-bit : (e : Bool) (q : Port) (v k : ℕ) → k < 8
    → (catches_at e q k && bit (path_of q q.outside v) k) ≡ (catches_at e q k && bit (bit_xor q.outside q.polarity) k)
unfolding catches_at
at-bit e q v k h =
    ap (λ (b : Bool). catches_at e q k && b) (path-bit q v k h)
    ∙ catching e (bit q.direction k) (bit q.special k) (bit q.polarity k) (bit q.outside k) (bit v k)
    ∙ (simp (bit-xor))

-- ---- whether the catchers are sound
every-same : (f g : ℕ → Bool) → ((k : ℕ) → k < 8 → f k ≡ g k) → every f ≡ every g
unfolding every
every-same f g h =
    simp (h 0 (lit< tt), h 1 (lit< tt), h 2 (lit< tt), h 3 (lit< tt), h 4 (lit< tt), h 5 (lit< tt), h 6 (lit< tt), h 7 (lit< tt))

pub sound-outside : (e : Bool) (q : Port) (v : ℕ) → sound_port e q (path_of q (pins_of e q v) v) ≡ sound_port e q (bit_xor q.outside q.polarity)
unfolding sound_port catcher_set
sound-outside e q v =
    ap (sound_port e q) (path-outside e q v)
    ∙ ap (λ (b : Bool). catcher_only e q && b) (every-same _ _ (λ k h. ap (λ (b : Bool). only b (bit q.catcher k)) (at-bit e q v k h)))

-- ---- what the catchers catch
caught-bit : (m c x : Bool) → caught_bit m c x ≡ ((m && c) || (m && x))
unfolding caught_bit
caught-bit m c x = same _ _ (all3 (λ m c x. beq (m && (c || x)) ((m && c) || (m && x))) tt m c x)

pub caught-outside : (e : Bool) (q : Port) (v : ℕ) → caught_of e q (path_of q (pins_of e q v) v) ≡ caught_of e q (bit_xor q.outside q.polarity)
unfolding caught_of
caught-outside e q v =
    ap (caught_of e q) (path-outside e q v)
    ∙ byte-of _ _
    (λ k h.
    caught-bit _ _ _ ∙ ap (λ (b : Bool). (catches_at e q k && bit q.catcher k) || b) (at-bit e q v k h) ∙ sym (caught-bit _ _ _))
