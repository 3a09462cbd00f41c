-- One event: what a port held and what came are what went and what it holds. And the port stays set up and enabled.
-- Assumes nothing.
use Prim.Native.Nat.{ℕ, ◌<◌}
use mathlib.Core.Path.{◌≡◌, sym, ap, ap₂, subst, ◌∙◌}
use mathlib.Core.Bool.{Bool, true, false, not, ◌&&◌, So, and-false, or-true}
use mathlib.Core.List.{List, [], ◌∷◌, ◌++◌, append-nil}
use native.Mathlib.Omega.{arith}
use lib.Dec.{eqb, ltb}
use borrow.Author.Tests.{eqb-false, ltb-true}
use Rattle.rules.specs.declared.Device.{Device}
use Rattle.rules.specs.declared.Event.{Event}
use Rattle.rules.specs.declared.Pattern.{Pattern}
use Rattle.rules.specs.Record.{Shaped, pattern_at, transfer_at}
use Rattle.rules.specs.Handshakes.{inputs, outputs, handshakes, depth, irf_of, irf_at, ore_of, ore_at, ackin_at}
use Rattle.rules.specs.Moves.{falls, stored_at, given_at}
use Rattle.rules.specs.Sound.{sound_of}
use Rattle.basics.proofs.Tests.{right, not_so, never}
use Rattle.theorems.proofs.Parts.{no-input}
use Rattle.theorems.proofs.TransferLaws.{two_deep}
use Rattle.account.specs.Account.{line_at, acknowledges, after, data_written_by, acknowledged_by, strobed_by, read_by, held_of, HoldsBytes}
use Rattle.account.proofs.Held.{inside}
use Rattle.account.proofs.Kept.{SetUp, Alike, alike-trans, alike-set-up, moves-alike, stored-alike, relined-given, relined_held, Around}
use Rattle.account.proofs.Lines.{no-rise, ackin-alike, unacknowledged}
use Rattle.account.proofs.Moved.{two-held, stored-held, given-held, still-held}
use Rattle.account.proofs.Stepped.{set-up-now, step-out, step_in}
use Rattle.account.proofs.Turns.{Turn, rests, steps, stores, gives}

module _ (p : ℕ) (l : p < 2) (d : Device) (e : Event) (shaken : handshakes (pattern_at d p) ≡ true) where
  -- ---- where the levels stay, nothing is acknowledged or strobed in
  module _ (a : Alike d (after d e)) where
    no-fall : (offered : Bool) → (offered && acknowledges d (after d e) p) ≡ false
    no-fall offered =
        ap (λ (b : Bool). offered && b) (unacknowledged p l d (after d e) shaken (simp (a.modes p) shaken) a) ∙ and-false offered

    none-acknowledged : acknowledged_by p d e ≡ []
    unfolding acknowledged_by
    none-acknowledged = simp (no-fall (not (line_at d p)))

    none-strobed : strobed_by p d e ≡ []
    unfolding strobed_by
    none-strobed = simp (no-fall (line_at d p))

  -- ---- a byte is stored in an output port: no ACKIN falls in that step
  module _ (b : ℕ) (k : Shaped d) (a : Around p d (stored_at d p b) (after d e)) where
    until : Alike d a.meets
    until = alike-trans (stored-alike d p b) a.before

    stored_on : Alike d (after d e)
    stored_on = alike-trans until (alike-trans (moves-alike p d a.meets) a.later)

    steady : falls d a.meets p ≡ false
    unfolding falls
    steady = simp (ackin-alike p until, no-rise (ackin_at d p), and-false)

    stored-now : (transfer_at d p).bytes < 2 → held_of (after d e) p ≡ held_of d p ++ b ∷ []
    unfolding held_of
    stored-now room =
        ap inside a.left ∙ still-held a.meets a.shaped p l d steady ∙ ap inside a.found ∙ stored-held d k p l b room

    step-stored : (transfer_at d p).bytes < 2 → held_of d p ++ b ∷ [] ≡ acknowledged_by p d e ++ held_of (after d e) p
    step-stored room = sym (stored-now room) ∙ ap (λ (m : List ℕ). m ++ held_of (after d e) p) (sym (none-acknowledged stored_on))

-- ---- the four turns
module _ (p : ℕ) (l : p < 2) (d : Device) (k : Shaped d) (s : sound_of d ≡ true) (e : Event) where
  abbrev q : Pattern
  q = pattern_at d p

  abbrev n : ℕ
  n = (transfer_at d p).bytes

  module _ (o : So (outputs q)) (h : HoldsBytes p d) where
    shaken-out : handshakes q ≡ true
    shaken-out = simp (o, or-true)

    room_out : So (ore_at d p) → n < 2
    unfolding ore_of
    room_out r = omega (arith, ltb-true n (depth q) (right (outputs q) (ltb n (depth q)) r), two_deep q)

    pub out-turn : Turn p d e → held_of d p ++ data_written_by p d e ≡ acknowledged_by p d e ++ held_of (after d e) p
    out-turn (rests a t quiet) =
        ap (λ (m : List ℕ). held_of d p ++ m) (quiet.written o) ∙ append-nil (held_of d p)
        ∙ ap₂ ◌++◌ (sym (none-acknowledged p l d e shaken-out a)) (unfold held_of in (ap inside (sym t)))
    out-turn (steps d1 kept a quiet) =
        ap (λ (m : List ℕ). held_of d p ++ m) (quiet.written o) ∙ append-nil (held_of d p)
        ∙ step-out p l d d1 e shaken-out kept a k s o h
    out-turn (stores _ room small a w) =
        ap (λ (m : List ℕ). held_of d p ++ m) w ∙ step-stored p l d e shaken-out e.b k a (room_out room)
    out-turn (gives i some given w) = never (no-input q o) i

  module _ (i : So (inputs q)) where
    shaken-in : handshakes q ≡ true
    shaken-in = simp i

    some_in : So (irf_at d p) → n ≡ 0 → ⊥
    unfolding irf_of
    some_in r = eqb-false n 0 (not_so (eqb n 0) (right (inputs q) (not (eqb n 0)) r))

    pub in-turn : Turn p d e → held_of d p ++ strobed_by p d e ≡ read_by p d e ++ held_of (after d e) p
    in-turn (rests a t quiet) =
        ap (λ (m : List ℕ). held_of d p ++ m) (none-strobed p l d e shaken-in a) ∙ append-nil (held_of d p)
        ∙ ap₂ ◌++◌ (sym (quiet.read i)) (unfold held_of in (ap inside (sym t)))
    in-turn (steps d1 kept a quiet) =
        step_in p l d d1 e shaken-in kept a k i ∙ ap (λ (m : List ℕ). m ++ held_of (after d e) p) (sym (quiet.read i))
    in-turn (stores o room small a w) = never (no-input q o) i
    in-turn (gives _ some given w) =
        let a = subst (λ (f : Device). Alike d f) (sym given) (relined-given d p) in
        ap (λ (m : List ℕ). held_of d p ++ m) (none-strobed p l d e shaken-in a) ∙ append-nil (held_of d p)
        ∙ given-held d k p l (two-held d s p l) (some_in some) ∙ ap₂ ◌++◌ (sym w) (relined_held (given_at d p) p ∙ ap (λ (f : Device). held_of f p) (sym given))

-- ---- and the port stays set up and enabled
pub set-up-after : (p : ℕ) → p < 2 → (d : Device) → Shaped d → handshakes (pattern_at d p) ≡ true → (e : Event) → Turn p d e
    → SetUp p d (after d e)
set-up-after p l d k shaken e (rests a t quiet) = alike-set-up p a
set-up-after p l d k shaken e (steps d1 kept a quiet) = set-up-now p l d d1 e shaken kept a
set-up-after p l d k shaken e (stores o room small a w) = alike-set-up p (stored_on p l d e shaken e.b k a)
set-up-after p l d k shaken e (gives i some given w) = subst (SetUp p d) (sym given) (alike-set-up p (relined-given d p))
