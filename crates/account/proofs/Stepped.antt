-- A step whose direct effect keeps the port: the byte in front leaves, or the byte at the pins comes, exactly where the outside sees ACKIN
-- fall while the port offers.
-- Assumes nothing.
use Prim.Native.Nat.{ℕ, ◌<◌}
use mathlib.Core.Path.{◌≡◌, refl, sym, ap, ap₂, ◌∙◌}
use mathlib.Core.Bool.{Bool, true, false, not, ◌&&◌, So}
use mathlib.Core.List.{List, [], ◌∷◌, ◌++◌, append-nil}
use native.Mathlib.Omega.{arith}
use lib.Dec.{eqb}
use borrow.Author.Tests.{eqb-false, ltb-true}
use Rattle.rules.specs.declared.Device.{Device}
use Rattle.rules.specs.declared.Event.{Event}
use Rattle.rules.specs.declared.Transfer.{Transfer}
use Rattle.rules.specs.declared.Kind.TheVariants.{Data}
use Rattle.basics.specs.Byte.{rises}
use Rattle.rules.specs.With.{with_pair}
use Rattle.rules.specs.Record.{Shaped, port_at, pattern_at, transfer_at}
use Rattle.rules.specs.Handshakes.{inputs, outputs, handshakes, depth, ackin_at, offers_at}
use Rattle.rules.specs.PortData.{level_of, pins_at, path_at}
use Rattle.rules.specs.Access.{read_of}
use Rattle.rules.specs.Moves.{works_at, can_move, falls, moves_at}
use Rattle.rules.specs.Sound.{sound_of}
use Rattle.basics.proofs.Tests.{each, not_so}
use Rattle.theorems.proofs.Parts.{no-input}
use Rattle.theorems.proofs.TransferLaws.{two_deep}
use Rattle.theorems.proofs.Shown.{data-shown}
use Rattle.account.specs.Account.{line_at, heeded, acknowledges, after, byte_if, acknowledged_by, strobed_by, held_of, HoldsBytes}
use Rattle.account.proofs.Held.{inside, same_byte}
use Rattle.account.proofs.Kept.{SetUp, set-up-trans, Kept, Alike, alike-trans, alike-set-up, moves-alike, Around}
use Rattle.account.proofs.Lines.{ready-line, available-line, offers-can, ackin-alike, acknowledges-by}
use Rattle.account.proofs.Lines.{path-arriving, level-arriving, arriving-alike}
use Rattle.account.proofs.Moved.{two-held, front-byte, taken-held, left-held, takes, leaves, still-held}

-- an offer implies that a byte can move
regroup : (w v o c r : Bool) → (So o → So c) → (w && v && o && c && r) ≡ (o && (w && v && r))
regroup true true true c r f = simp (f refl)
regroup true true false c r f = refl
regroup true false true c r f = refl
regroup true false false c r f = refl
regroup false v true c r f = refl
regroup false v false c r f = refl

module _ (p : ℕ) (l : p < 2) (d d1 : Device) (e : Event) (shaken : handshakes (pattern_at d p) ≡ true) (kept : Kept p d d1)
    (a : Around p d d1 (after d e)) where
  -- ---- the record that the port's moves meet, and the record after
  abbrev x : Device
  x = a.meets

  abbrev f : Device
  f = after d e

  mode-met : (pattern_at x p).mode ≡ (pattern_at d p).mode
  mode-met = a.before.modes p ∙ kept.set-up.mode

  transfer-met : with_pair (transfer_at x p) false ≡ with_pair (transfer_at d p) false
  transfer-met = ap (λ (t : Transfer). with_pair t false) a.found ∙ kept.transfer

  held-met : held_of x p ≡ held_of d p
  unfolding held_of
  held-met = ap inside transfer-met

  onward : Alike x f
  onward = alike-trans (moves-alike p d x) a.later

  held-now : held_of f p ≡ held_of (moves_at p d x) p
  unfolding held_of
  held-now = ap inside a.left

  shaken-met : handshakes (pattern_at x p) ≡ true
  shaken-met = simp mode-met shaken

  pub set-up-now : SetUp p d f
  set-up-now = set-up-trans kept.set-up (alike-set-up p (alike-trans a.before onward))

  shaken-now : handshakes (pattern_at f p) ≡ true
  shaken-now = simp set-up-now.mode shaken

  -- ---- a fall of ACKIN is one that the outside sees
  works-before : works_at d p ≡ heeded d p
  unfolding works_at heeded
  works-before = simp shaken

  works-now : works_at x p ≡ heeded f p
  unfolding works_at heeded
  works-now = simp (shaken-met, onward.config)

  can-met : can_move (pattern_at x p) (transfer_at x p) ≡ can_move (pattern_at d p) (transfer_at d p)
  unfolding can_move depth
  can-met = simp (mode-met, ap (λ (t : Transfer). t.bytes) transfer-met)

  falls-is : falls d x p ≡ (offers_at d p && acknowledges d f p)
  unfolding falls
  falls-is =
      let can = can_move (pattern_at x p) (transfer_at x p) in
      let fell = sym (ackin-alike p onward) in
      (λ i. works-before i && works-now i && offers_at d p && can && rises (fell i) (ackin_at d p))
      ∙ regroup (heeded d p) (heeded f p) (offers_at d p) can (rises (ackin_at f p) (ackin_at d p)) (λ o. can-met ∙ offers-can d p o)
      ∙ ap (λ (b : Bool). offers_at d p && b) (sym (acknowledges-by p l d f shaken shaken-now))

  can-move : So (falls d x p) → So (can_move (pattern_at x p) (transfer_at x p))
  unfolding falls
  can-move s =
      let can = can_move (pattern_at x p) (transfer_at x p) in
      each (works_at d p ∷ works_at x p ∷ offers_at d p ∷ can ∷ rises (ackin_at x p) (ackin_at d p) ∷ []) s 3

  -- ---- an output port
  module _ (k : Shaped d) (s : sound_of d ≡ true) (o : So (outputs (pattern_at d p))) (h : HoldsBytes p d) where
    no-input-met : inputs (pattern_at x p) ≡ false
    no-input-met = simp mode-met (no-input (pattern_at d p) o)

    some-met : So (falls d x p) → (transfer_at x p).bytes ≡ 0 → ⊥
    unfolding can_move
    some-met t = eqb-false (transfer_at x p).bytes 0 (not_so (eqb (transfer_at x p).bytes 0) (simp no-input-met at (can-move t)))

    goes : (v : Bool) → falls d x p ≡ v → held_of x p ≡ byte_if v (transfer_at x p).front ++ held_of f p
    goes true t =
        left-held x a.shaped p l (simp (ap (λ (t : Transfer). t.bytes) transfer-met) (two-held d s p l)) (some-met t)
        ∙ ap (λ (m : List ℕ). (transfer_at x p).front ∷ m)
        (ap (λ (y : Device). held_of y p) (sym (leaves x a.shaped p l d t no-input-met)) ∙ sym held-now)
    goes false t = sym (still-held x a.shaped p l d t) ∙ sym held-now

    -- the byte in front is the one that R of the data returns
    leaving : So (falls d x p) → (transfer_at x p).front ≡ read_of d (Data p)
    unfolding read_of
    leaving t =
        let some = rw (ap (λ (t : Transfer). t.bytes) transfer-met) at (some-met t) in
        ap (λ (t : Transfer). t.front) transfer-met ∙ sym (data-shown d p o l s some (front-byte d s p l h some))

    seen-out : falls d x p ≡ (not (line_at d p) && acknowledges d f p)
    seen-out = falls-is ∙ ap (λ (b : Bool). b && acknowledges d f p) (sym (available-line d k p l o))

    pub step-out : held_of d p ≡ acknowledged_by p d e ++ held_of f p
    unfolding acknowledged_by
    step-out =
        sym held-met ∙ goes _ refl
        ∙ ap (λ (m : List ℕ). m ++ held_of f p) (same_byte (falls d x p) _ _ _ seen-out (λ t. leaving (seen-out ∙ t)))

  -- ---- an input port
  module _ (k : Shaped d) (i : So (inputs (pattern_at d p))) where
    input-met : So (inputs (pattern_at x p))
    input-met = simp mode-met i

    input-now : So (inputs (pattern_at f p))
    input-now = simp set-up-now.mode i

    room-met : So (falls d x p) → (transfer_at x p).bytes < 2
    unfolding can_move
    room-met s =
        let room = ltb-true (transfer_at x p).bytes (depth (pattern_at x p)) (simp input-met at (can-move s)) in
        omega (arith, room, two_deep (pattern_at x p))

    comes : (v : Bool) → falls d x p ≡ v → held_of f p ≡ held_of x p ++ byte_if v (path_at x p)
    comes true t =
        held-now ∙ ap (λ (y : Device). held_of y p) (takes x a.shaped p l d t input-met) ∙ taken-held x a.shaped p l (room-met t)
    comes false t = held-now ∙ still-held x a.shaped p l d t ∙ sym (append-nil (held_of x p))

    -- the byte taken is at the pins after the step
    coming : path_at x p ≡ level_of (port_at f p) (pins_at f p)
    coming = path-arriving x p l input-met ∙ sym (arriving-alike p l onward) ∙ sym (level-arriving f p l input-now)

    seen-in : falls d x p ≡ (line_at d p && acknowledges d f p)
    seen-in = falls-is ∙ ap (λ (b : Bool). b && acknowledges d f p) (sym (ready-line d k p l i))

    pub step_in : held_of d p ++ strobed_by p d e ≡ held_of f p
    unfolding strobed_by
    step_in = ap₂ ◌++◌ (sym held-met) (sym (same_byte (falls d x p) _ _ _ seen-in (λ _. coming))) ∙ sym (comes _ refl)
