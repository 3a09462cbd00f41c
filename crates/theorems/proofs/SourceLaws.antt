-- What keeps a source sound: an event, a command, an acknowledge, a byte that comes or goes.
-- Assumes nothing.
use Prim.Native.Nat.{ℕ}
use mathlib.Core.Path.{refl}
use mathlib.Core.Bool.{Bool, true, false, not, ◌&&◌, ◌||◌, So, cond, false≢true, or-true}
use lib.Dec.{eqb}
use Rattle.rules.specs.declared.Source.{Source}
use Rattle.rules.specs.declared.Pattern.{Pattern}
use Rattle.rules.specs.declared.Transfer.{Transfer}
use Rattle.rules.specs.Registers.{ip_cleared, commanded}
use Rattle.rules.specs.With.{with_ius, with_ie, with_ip, with_hidden}
use Rattle.rules.specs.Handshakes.{itb}
use Rattle.rules.specs.Moves.{asked_if, served_by, pair_by}
use Rattle.rules.specs.Access.{clears_ip}
use Rattle.basics.proofs.Tests.{so-both, left, right, not_so, never, by-test}
use Rattle.theorems.proofs.Parts.{SourceSound}

pub ius-sound : (s : Source) (v : Bool) → SourceSound s → SourceSound (with_ius s v)
ius-sound s v h = record { err = h.err; hidden = h.hidden }

ie-sound : (s : Source) (v : Bool) → SourceSound s → SourceSound (with_ie s v)
ie-sound s v h = record { err = h.err; hidden = h.hidden }

-- IP set, ERR and the hidden error as they are
pub ip-sound : (s : Source) → SourceSound s → SourceSound (with_ip s true)
ip-sound s h = record { err = λ _. refl; hidden = λ p. right s.ip (not s.err) (h.hidden p) }

cleared-sound : (s : Source) → SourceSound (ip_cleared s)
unfolding ip_cleared
cleared-sound s = record { err = λ p. p; hidden = λ p. absurd (false≢true p) }

-- the hidden error set, where IP is and ERR is not
pub hidden-sound : (s : Source) → So (s.ip && not s.err) → SourceSound (with_hidden s true)
hidden-sound s h = record { err = λ _. left s.ip (not s.err) h; hidden = λ _. h }

module _ (s : Source) (n : ℕ) (h : SourceSound s) where
  -- the command m, or what else the command does
  or_else : (m : ℕ) (x y : Source) → SourceSound x → SourceSound y → SourceSound (cond (eqb n m) x y)
  or_else m x y p q = by-test SourceSound (eqb n m) x y (λ _. p) (λ _. q)

  pub commanded-source : SourceSound (commanded s n)
  unfolding commanded
  commanded-source =
      or_else 1 _ _ (ius-sound (ip_cleared s) false (cleared-sound s))
      (or_else 2 _ _ (ius-sound s true h)
      (or_else 3 _ _ (ius-sound s false h)
      (or_else 4 _ _ (ip-sound s h)
      (or_else 5 _ _ (cleared-sound s)
      (or_else 6 _ _ (ie-sound s true h)
      (or_else 7 _ _ (ie-sound s false h)
      h))))))

-- a command that does not clear IP leaves it where it is
neither : (a b : Bool) {A : Type 0} → So (not (a || b)) → So (a || b) → A
neither a b n p = never (not_so (a || b) n) p

pub commanded-ip : (s : Source) (n : ℕ) → So (not (clears_ip n)) → So s.ip → So (commanded s n).ip
unfolding commanded
commanded-ip s n k i =
    let kept : (m : ℕ) (x y : Source) → So x.ip → So y.ip → So (cond (eqb n m) x y).ip =
    λ m x y p q. by-test (λ (r : Source). So r.ip) (eqb n m) x y (λ _. p) (λ _. q) in
    by-test (λ (r : Source). So r.ip) (eqb n 1) _ _ (λ t. neither (eqb n 1) (eqb n 5) k (simp t))
    (λ _.
    kept 2 _ _ i
    (kept 3 _ _ i
    (kept 4 _ _ refl
    (by-test (λ (r : Source). So r.ip) (eqb n 5) _ _ (λ t. neither (eqb n 1) (eqb n 5) k (simp (t, or-true)))
    (λ _. kept 6 _ _ i (kept 7 _ _ i i))))))

-- ---- a byte that moves asks, or does not; a read or a write of the data clears IP, or a pair is half done
module _ (asks : Bool) (s : Source) where
  pub asked-source : SourceSound s → SourceSound (asked_if asks s)
  unfolding asked_if
  asked-source h = by-test SourceSound asks _ _ (λ _. ip-sound s h) (λ _. h)

  pub asked-ip : So s.ip → So (asked_if asks s).ip
  unfolding asked_if
  asked-ip i = by-test (λ (r : Source). So r.ip) asks _ _ (λ _. refl) (λ _. i)

module _ (q : Pattern) (t : Transfer) (s : Source) where
  pub served-source : SourceSound s → SourceSound (served_by q t s)
  unfolding served_by
  served-source h = by-test SourceSound (itb q && not t.pair) _ _ (λ _. h) (λ _. cleared-sound s)

  -- a pair half done has IP and ITB
  pub pair-asks : So (pair_by q t s) → So (s.ip && itb q)
  unfolding pair_by
  pair-asks p =
      let i = left (itb q && s.ip) (not t.pair) p in
      so-both (right (itb q) s.ip i) (left (itb q) s.ip i)

  -- and leaves IP where it is
  pub pair-ip : So (pair_by q t s) → So (served_by q t s).ip
  unfolding pair_by served_by
  pair-ip p =
      let i = left (itb q && s.ip) (not t.pair) p in
      simp (left (itb q) s.ip i, not_so t.pair (right (itb q && s.ip) (not t.pair) p)) (right (itb q) s.ip i)
