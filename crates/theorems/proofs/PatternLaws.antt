-- A match is one of an enabled port in mode AND, OR or priority with a bit on: so PMF after its turn in a step is sound, whatever stood there.
-- Assumes nothing.
use Prim.Native.Nat.{ℕ}
use mathlib.Core.Path.{◌≡◌, refl}
use mathlib.Core.Bool.{Bool, true, false, not, ◌&&◌, ◌||◌, So, false≢true}
use Rattle.rules.specs.declared.Pattern.{Pattern}
use Rattle.basics.specs.Byte.{bit, every, any}
use Rattle.rules.specs.Patterns.{on_bit, hit_bit, on_at, hit_at, and_match, or_match, is_and, is_or, is_priority, match_of}
use Rattle.rules.specs.With.{with_pmf}
use Rattle.rules.specs.Sound.{pmf_only}
use Rattle.basics.proofs.Tests.{left}
use Rattle.theorems.proofs.Parts.{only_if}

either : (a b c e : Bool) → (So a → So c) → (So b → So e) → So (a || b) → So (c || e)
either true b true e f g h = refl
either true b false e f g h = absurd (false≢true (f refl))
either false b true e f g h = refl
either false b false e f g h = g h

any-also : (f g : ℕ → Bool) → ((k : ℕ) → So (f k) → So (g k)) → So (any f) → So (any g)
unfolding any
any-also f g s =
    either _ _ _ _
    (either _ _ _ _
    (either _ _ _ _
    (either _ _ _ _ (either _ _ _ _ (either _ _ _ _ (either _ _ _ _ (s 0) (s 1)) (s 2)) (s 3)) (s 4)) (s 5)) (s 6)) (s 7)

-- a hit is at a bit that is on
hit-on : (m t p b a : Bool) → So (hit_bit m t p b a) → So (on_bit m t)
unfolding hit_bit on_bit
hit-on true t p b a h = refl
hit-on false true p b a h = refl
hit-on false false p b a h = h

or-on : (q : Pattern) (b a : ℕ) → So (or_match q b a) → So (any (on_at q))
unfolding or_match hit_at on_at
or-on q b a =
    any-also (hit_at q b a) (on_at q) (λ k. hit-on (bit q.mask k) (bit q.transition k) (bit q.polarity k) (bit b k) (bit a k))

and-on : (q : Pattern) (b a : ℕ) → So (and_match q b a) → So (any (on_at q))
unfolding and_match
and-on q b a h = left (any (on_at q)) (every (λ k. not (on_at q k) || hit_at q b a k)) h

matched : (e a x o r y on : Bool) → (So x → So on) → (So y → So on) → So (e && ((a && x) || ((o || r) && y))) → So (e && (a || o || r) && on)
matched false a x o r y on f g h = h
matched true true true o r y on f g h = f refl
matched true true false true r y on f g h = g h
matched true true false false true y on f g h = g h
matched true true false false false y on f g h = absurd (false≢true h)
matched true false x true r y on f g h = g h
matched true false x false true y on f g h = g h
matched true false x false false y on f g h = absurd (false≢true h)

pub pmf-sound : (e : Bool) (q : Pattern) (b a : ℕ) → So (pmf_only e (with_pmf q (match_of e q b a)))
unfolding pmf_only match_of on_at
pmf-sound e q b a =
    only_if (match_of e q b a) (e && (is_and q || is_or q || is_priority q) && any (on_at q))
    (matched e (is_and q) (and_match q b a) (is_or q) (is_priority q) (or_match q b a) (any (on_at q)) (and-on q b a) (or-on q b a))

pub match-off : (e : Bool) (q : Pattern) (b a : ℕ) → e ≡ false → match_of e q b a ≡ false
unfolding match_of
match-off e q b a p = simp p
