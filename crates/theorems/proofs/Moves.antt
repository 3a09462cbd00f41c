-- Paper 02, W-203 and W-206: bytes that move keep the base of a step: in a W or P by a fall of ACKIN, in a read and in a write of the data.
-- One comes only where there is room for it, and goes only where there is one.
-- Assumes nothing.
use Prim.Native.Nat.{ℕ, ◌<◌}
use mathlib.Core.Path.{◌≡◌}
use mathlib.Core.Bool.{false, not, ◌&&◌, cond, So, or-true}
use mathlib.Core.List.{[], ◌∷◌}
use lib.Dec.{eqb, ltb, lit<}
use borrow.Author.Tests.{ltb-true, eqb-false, eq-eqb}
use Rattle.rules.specs.declared.Device.{Device}
use Rattle.rules.specs.declared.Source.{Source}
use Rattle.rules.specs.declared.Pattern.{Pattern}
use Rattle.rules.specs.declared.Transfer.{Transfer}
use Rattle.basics.specs.Byte.{rises}
use Rattle.rules.specs.With.{with_transfer, with_unfinished}
use Rattle.rules.specs.Record.{Shaped, port_at, pattern_at, transfer_at, source_at, of_port}
use Rattle.rules.specs.Registers.{reset, port_enabled}
use Rattle.rules.specs.Handshakes.{inputs, outputs, handshakes, itb, sb, strobed, depth, irf_of, irf_at, ore_of, ore_at, ackin_at, offers_at}
use Rattle.rules.specs.PortData.{path_at}
use Rattle.rules.specs.Moves.{joined, shifted, asked_if, works_at, can_move, falls, asks_in, taken_at, asks_out, left_at, moves_at, moves_of}
use Rattle.rules.specs.Moves.{served_by, pair_by, given_at, stored_at}
use Rattle.basics.proofs.Tests.{so-both, left, right, each, not_so, never, by-test}
use Rattle.theorems.proofs.Parts.{no-input, TransferSound, Base, handshake-awake}
use Rattle.theorems.proofs.SourceLaws.{asked-source, asked-ip, served-source, pair-asks, pair-ip}
use Rattle.theorems.proofs.TransferLaws.{finished-sound, joined-pair, joined-sound, shifted-sound}
use Rattle.theorems.proofs.Stores.{awake, base-transfer, base-held, base-moved}
use Rattle.theorems.proofs.Shapes.{moves-at-shaped}

module _ (d : Device) (p : ℕ) (l : p < 2) (z : reset d ≡ false) (h : Base d) where
  abbrev q : Pattern
  q = pattern_at d p

  abbrev t : Transfer
  t = transfer_at d p

  abbrev s : Source
  s = source_at d (of_port p)

  abbrev sound : TransferSound (port_enabled d p) (port_at d p).output q s t
  sound = h.transfers p l

  some : So (not (eqb t.bytes 0)) → t.bytes ≡ 0 → ⊥
  some n = eqb-false t.bytes 0 (not_so (eqb t.bytes 0) n)

  -- ---- ACKIN: the byte at the pins comes, or a transfer ends
  taken-base : So (handshakes q && port_enabled d p) → So (inputs q) → So (can_move q t) → Base (taken_at d p)
  unfolding taken_at can_move
  taken-base w i c =
      let now = joined (path_at d p) t (not (strobed q)) t.pair in
      base-held d p now (asked_if (asks_in q t) s) z
      (base-transfer d p now h
      (joined-sound (port_at d p).output t (not (strobed q)) t.pair (λ u. u) sound.pair (path_at d p) w
      (ltb-true t.bytes (depth q) (simp i at c)) (λ o. never (no-input q o) i))
      (awake z))
      (asked-source (asks_in q t) s) (λ _. asked-ip (asks_in q t) s)

  finished-base : Base (with_transfer d p (with_unfinished t false))
  finished-base = base-transfer d p _ h (finished-sound t) (awake z)

  -- ---- a read takes the front byte
  pub given-base : So (irf_at d p) → Base (given_at d p)
  unfolding given_at irf_of shifted
  given-base i =
      let pair = pair_by q t s in
      let asks = not (itb q) && eqb t.bytes 2 in
      base-held d p (shifted t t.unfinished pair) (asked_if asks (served_by q t s)) z
      (base-transfer d p (shifted t t.unfinished pair) h
      (shifted-sound (port_at d p).output t t.unfinished pair sound.unfinished (pair-asks q t s)
      (some (right (inputs q) (not (eqb t.bytes 0)) i)) (λ o. never (no-input q o) (left (inputs q) (not (eqb t.bytes 0)) i)))
      (awake z))
      (λ u. asked-source asks (served_by q t s) (served-source q t s u)) (λ r _. asked-ip asks (served_by q t s) (pair-ip q t s r))

  -- ---- where the port's output register changes too, the arrays have their lengths
  module _ (k : Shaped d) where
    -- the byte put out goes, and the next moves up
    left-base : inputs q ≡ false → So (can_move q t) → Base (left_at d p)
    unfolding left_at can_move
    left-base i c =
        let two = eqb t.bytes 2 in
        base-moved d p l k z h two t.behind (shifted t (not (strobed q)) t.pair) (asked_if (asks_out q t) s)
        (shifted-sound (cond two t.behind (port_at d p).output) t (not (strobed q)) t.pair (λ u. u) sound.pair (some (simp i at c))
        (λ _ e. simp (eq-eqb t.bytes 2 e)) sound)
        (asked-source (asks_out q t) s) (λ _. asked-ip (asks_out q t) s)

    -- a write puts its byte behind, or out
    pub stored-base : (b : ℕ) → So (outputs q) → So (port_enabled d p) → So (ore_at d p) → Base (stored_at d p b)
    unfolding stored_at ore_of
    stored-base b o e r =
        let pair = pair_by q t s in
        let none = eqb t.bytes 0 in
        let asks = not (itb q) && not (sb q) && none in
        base-moved d p l k z h none b (joined b t t.unfinished pair) (asked_if asks (served_by q t s))
        (joined-sound (cond none b (port_at d p).output) t t.unfinished pair sound.unfinished (pair-asks q t s) b
        (so-both {a = handshakes q} (simp (o, or-true)) e) (ltb-true t.bytes (depth q) (right (outputs q) (ltb t.bytes (depth q)) r))
        (λ _. by-test (λ n. n ≡ cond none b t.front) none b (port_at d p).output (λ n. simp n) (λ n. simp n (sound.put o (eqb-false t.bytes 0 n))))
        sound)
        (λ u. asked-source asks (served_by q t s) (served-source q t s u))
        (λ r _. asked-ip asks (served_by q t s) (pair-ip q t s (joined-pair b t t.unfinished pair r)))

-- ---- a handshake at work is that of an enabled port, not under RESET
module _ (d : Device) (p : ℕ) (w : So (works_at d p)) where
  set-up : So (handshakes (pattern_at d p) && port_enabled d p)
  unfolding works_at
  set-up = left (handshakes (pattern_at d p) && port_enabled d p) (port_enabled d 2) w

  works-awake : p < 2 → Base d → reset d ≡ false
  works-awake l h = handshake-awake d p l h (left (handshakes (pattern_at d p)) (port_enabled d p) set-up)

moves-at-base : (p : ℕ) → p < 2 → (d0 d : Device) → Shaped d → Base d → Base (moves_at p d0 d)
unfolding moves_at falls
moves-at-base p l d0 d k h =
    let can = can_move (pattern_at d p) (transfer_at d p) in
    by-test Base (falls d0 d p) _ _
    (λ f.
    let part = each (works_at d0 p ∷ works_at d p ∷ offers_at d0 p ∷ can ∷ rises (ackin_at d p) (ackin_at d0 p) ∷ []) f in
    let z = works-awake d p (part 1) l h in
    by-test Base (inputs (pattern_at d p)) _ _ (λ i. taken-base d p l z h (set-up d p (part 1)) i (part 3)) (λ i. left-base d p l z h k i (part 3)))
    (λ _.
    by-test Base (works_at d p && ackin_at d p) _ _
    (λ a. finished-base d p l (works-awake d p (left (works_at d p) (ackin_at d p) a) l h) h) (λ _. h))

pub moves-base : (d0 d : Device) → Shaped d → Base d → Base (moves_of d0 d)
unfolding moves_of
moves-base d0 d k h = moves-at-base 1 (lit< tt) d0 _ (moves-at-shaped 0 d0 d k) (moves-at-base 0 (lit< tt) d0 d k h)
