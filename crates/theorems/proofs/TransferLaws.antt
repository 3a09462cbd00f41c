-- What keeps sound what a port with handshake holds: a byte that comes, a byte that goes, a transfer that ends, a command, and what drops it.
-- Assumes nothing.
use Prim.Native.Nat.{ℕ, ◌≤◌, ◌<◌}
use mathlib.Core.Path.{◌≡◌, refl, ap}
use mathlib.Core.Bool.{Bool, true, false, not, ◌&&◌, cond, So, false≢true, and-false}
use native.Mathlib.Omega.{arith}
use lib.Dec.{eqb}
use borrow.Author.Tests.{eqb-true, eqb-false}
use Rattle.rules.specs.declared.Source.{Source}
use Rattle.rules.specs.declared.Pattern.{Pattern}
use Rattle.rules.specs.declared.Transfer.{Transfer}
use Rattle.rules.specs.Record.{vacant}
use Rattle.rules.specs.With.{with_unfinished, with_pair}
use Rattle.rules.specs.Handshakes.{outputs, handshakes, itb, sb, strobed, depth}
use Rattle.rules.specs.Moves.{joined, shifted}
use Rattle.rules.specs.Access.{kept_by}
use Rattle.basics.proofs.Tests.{so-both, left, right, so-not, never, by-test}
use Rattle.theorems.proofs.Parts.{TransferSound}

pub vacant-sound : (e : Bool) (o : ℕ) (q : Pattern) (s : Source) → TransferSound e o q s vacant
vacant-sound e o q s =
    record {
      held = λ _. refl;
      room = omega arith;
      front = λ _. refl;
      behind = λ _. refl;
      unfinished = λ p. never refl p;
      pair = λ p. never refl p;
      put = λ _ n. absurd (n refl);
    }

-- it goes by the pattern's mode and handshake, and by IP where a pair is half done
pub settings-kept : {e : Bool} {o : ℕ} {q r : Pattern} {s : Source} {t : Transfer} → r.mode ≡ q.mode → r.handshake ≡ q.handshake
    → TransferSound e o q s t → TransferSound e o r s t
unfolding depth
settings-kept {e} {o} {q} {r} {s} {t} m n h =
    record {
      held = simp m h.held;
      room = simp m h.room;
      front = h.front;
      behind = h.behind;
      unfinished = simp n h.unfinished;
      pair = simp m h.pair;
      put = simp m h.put;
    }

pub source-kept : {e : Bool} {o : ℕ} {q : Pattern} {s u : Source} {t : Transfer} → (So t.pair → So s.ip → So u.ip)
    → TransferSound e o q s t → TransferSound e o q u t
source-kept {e} {o} {q} {s} {u} {t} f h =
    record {
      held = h.held;
      room = h.room;
      front = h.front;
      behind = h.behind;
      unfinished = h.unfinished;
      pair = λ p. so-both (f p (left s.ip (itb q) (h.pair p))) (right s.ip (itb q) (h.pair p));
      put = h.put;
    }

-- and by the output register of an output port that is enabled
idle-port : (e : Bool) (q : Pattern) → (outputs q && e) ≡ false → So (outputs q) → So (not (handshakes q && e))
idle-port true q z w = never (simp w at z) refl
idle-port false q z w = so-not (and-false (handshakes q))

pub output-free : {e : Bool} {o : ℕ} {q : Pattern} {s : Source} {t : Transfer} (n : ℕ) → (outputs q && e) ≡ false
    → TransferSound e o q s t → TransferSound e n q s t
output-free {e} {o} {q} {s} {t} n z h =
    record {
      held = h.held;
      room = h.room;
      front = h.front;
      behind = h.behind;
      unfinished = h.unfinished;
      pair = h.pair;
      put = λ w some. absurd (some (ap (λ (u : Transfer). u.bytes) (h.held (idle-port e q z w))));
    }

-- ---- what drops it, and what ends a transfer or a pair
on-either : (a e : Bool) → So (not (a && true)) → So (not (a && e))
on-either true e h = never refl h
on-either false e h = refl

pub kept-sound : {e : Bool} {o : ℕ} {q : Pattern} {s : Source} {t : Transfer} (v : Bool) → TransferSound e o q s t → TransferSound v o q s (kept_by v t)
unfolding kept_by
kept-sound {e} {o} {q} {s} {t} true h =
    record {
      held = λ n. h.held (on-either (handshakes q) e n);
      room = h.room;
      front = h.front;
      behind = h.behind;
      unfinished = h.unfinished;
      pair = h.pair;
      put = h.put;
    }
kept-sound {e} {o} {q} {s} {t} false h = vacant-sound false o q s

pub finished-sound : {e : Bool} {o : ℕ} {q : Pattern} {s : Source} (t : Transfer) → TransferSound e o q s t → TransferSound e o q s (with_unfinished t false)
finished-sound t h =
    record {
      held = λ n. ap (λ (u : Transfer). with_unfinished u false) (h.held n);
      room = h.room;
      front = h.front;
      behind = h.behind;
      unfinished = λ p. never refl p;
      pair = h.pair;
      put = h.put;
    }

pub pair-sound : {e : Bool} {o : ℕ} {q : Pattern} {s : Source} (t : Transfer) (v : Bool) → TransferSound e o q s t
    → TransferSound e o q s (with_pair t (t.pair && v))
pair-sound t v h =
    record {
      held = λ n. ap (λ (u : Transfer). with_pair u (u.pair && v)) (h.held n);
      room = h.room;
      front = h.front;
      behind = h.behind;
      unfinished = h.unfinished;
      pair = λ p. h.pair (left t.pair v p);
      put = h.put;
    }

-- ---- a byte comes, or goes, in a port with pattern q, output register o and source s, which leaves the register o'
pub two_deep : (q : Pattern) → depth q ≤ 2
unfolding depth
two_deep q = by-test (λ n. n ≤ 2) (sb q) 1 2 (λ _. omega arith) (λ _. omega arith)

used : (a : Bool) → So a → So (not a) → ⊥
used true p n = false≢true n
used false p n = false≢true p

pub joined-pair : (b : ℕ) (t : Transfer) (unfinished pair : Bool) → So (joined b t unfinished pair).pair → So pair
unfolding joined
joined-pair b t unfinished pair = by-test (λ (u : Transfer). So u.pair → So pair) (eqb t.bytes 0) _ _ (λ _ p. p) (λ _ p. p)

module _ {e : Bool} {o : ℕ} (o' : ℕ) {q : Pattern} {s : Source} (t : Transfer) (unfinished pair : Bool)
    (open-transfer : So unfinished → So (not (strobed q))) (open-pair : So pair → So (s.ip && itb q)) where
  -- where there is room, to the front or behind
  pub joined-sound : (b : ℕ) → So (handshakes q && e) → t.bytes < depth q → (So (outputs q) → o' ≡ cond (eqb t.bytes 0) b t.front)
      → TransferSound e o q s t → TransferSound e o' q s (joined b t unfinished pair)
  unfolding joined
  joined-sound b w l p h =
      let two = two_deep q in
      by-test (TransferSound e o' q s) (eqb t.bytes 0) _ _
      (λ z.
      record {
        held = λ n. absurd (used (handshakes q && e) w n);
        room = omega (arith, l);
        front = λ p. absurd (omega arith);
        behind = λ _. refl;
        unfinished = open-transfer;
        pair = open-pair;
        put = λ x _. simp z at (p x);
      })
      (λ z.
      let some = eqb-false t.bytes 0 z in
      record {
        held = λ n. absurd (used (handshakes q && e) w n);
        room = omega (arith, l, some);
        front = λ p. absurd (omega arith);
        behind = λ p. absurd (omega arith);
        unfinished = open-transfer;
        pair = open-pair;
        put = λ x _. simp z at (p x);
      })

  -- where there is one, from the front
  pub shifted-sound : (t.bytes ≡ 0 → ⊥) → (So (outputs q) → t.bytes ≡ 2 → o' ≡ t.behind)
      → TransferSound e o q s t → TransferSound e o' q s (shifted t unfinished pair)
  unfolding shifted
  shifted-sound some p h =
      let two = two_deep q in
      record {
        held = λ n. absurd (some (ap (λ (u : Transfer). u.bytes) (h.held n)));
        room = by-test (λ n. n ≤ depth q) (eqb t.bytes 2) 1 0 (λ z. omega (arith, h.room, eqb-true t.bytes 2 z)) (λ _. omega arith);
        front =
            by-test (λ n. n ≡ 0 → t.behind ≡ 0) (eqb t.bytes 2) 1 0 (λ _ p. absurd (omega arith))
            (λ z _. h.behind (omega (arith, h.room, two, eqb-false t.bytes 2 z)));
        behind = λ _. refl;
        unfinished = open-transfer;
        pair = open-pair;
        put =
            λ x. by-test (λ n. (n ≡ 0 → ⊥) → o' ≡ t.behind) (eqb t.bytes 2) 1 0 (λ z _. p x (eqb-true t.bytes 2 z)) (λ _ n. absurd (n refl));
      }
