-- Paper 02, W-202: lost terminals, by the places that a counter's source has free. In clocks only its own terminals come to it: each
-- takes a place, and is lost where none is free.
-- Assumes nothing.
use Prim.Native.Nat.{ℕ, zero, suc, ◌-◌, ◌<◌}
use mathlib.Core.Path.{◌≡◌, refl, sym, subst, ap, ◌∙◌}
use mathlib.Core.Bool.{Bool, true, false, not, ◌||◌, So}
use native.Mathlib.Nat.{sub-zero}
use native.Mathlib.Omega.{arith}
use lib.ListN.{get_or, length}
use Rattle.rules.specs.declared.Device.{Device}
use Rattle.rules.specs.declared.Source.{Source}
use Rattle.rules.specs.declared.Fate.{Fate}
use Rattle.rules.specs.declared.Fate.TheVariants.{Taken, Kept, Lost}
use Rattle.rules.specs.declared.Link.{Link}
use Rattle.rules.specs.declared.Turned.{Turned}
use Rattle.rules.specs.declared.Ran.{Ran}
use Rattle.basics.specs.Byte.{num}
use Rattle.rules.specs.Record.{Shaped, counter_at, source_at, of_port, of_counter}
use Rattle.rules.specs.With.{with_counter, with_phase}
use Rattle.rules.specs.Registers.{lc, reset}
use Rattle.rules.specs.PortData.{seen_at}
use Rattle.rules.specs.Counters.{output_of, unlinked, link_of}
use Rattle.rules.specs.Interrupts.{fate_of, came, was_lost}
use Rattle.rules.specs.Step.{lines_at, event_at, turned, counter_turn, catchers, matched_by, pattern_turn, settled, step_of, reported, clock_of, ran_of}
use Rattle.basics.specs.Iterate.{iterate}
use Rattle.rules.specs.Sound.{sound_of}
use Rattle.basics.proofs.Tests.{left}
use Rattle.basics.proofs.Places.{all-zero}
use Rattle.theorems.specs.Free.{free_places, lost_after}
use Rattle.theorems.specs.Alone.{left_by}
use Rattle.theorems.proofs.Parts.{SourceSound}
use Rattle.theorems.proofs.Clauses.{sound-parts}
use Rattle.theorems.proofs.SourceLaws.{ip-sound, hidden-sound}
use Rattle.theorems.proofs.Fates.{came-is, event-here, event-there}
use Rattle.theorems.proofs.Shapes.{phase-shaped, counter-turn-shaped, step-shaped}
use Rattle.theorems.proofs.ReportLaws.{the_terminals, the_lost}
use Rattle.theorems.proofs.Reports.{clock-held, clock-first, clock-timer, added-at}

-- ---- a terminal, or none, at the source s, which leaves the source after, and is lost or not: as t and l tell
pub record Placed (s : Source) (t : Bool) (after : Source) (l : Bool) : Type 0 where
  pub sound : SourceSound after
  pub places : free_places after ≡ free_places s - num t
  pub lost : num l ≡ num t - free_places s

-- ERR and the hidden error are with IP only
unset : (a b : Bool) → (So a → So b) → b ≡ false → a ≡ false
unset true b f e = sym (f refl) ∙ e
unset false b f e = refl

module _ (s : Source) (sound : SourceSound s) where
  abbrev PlacedBy : Bool → Fate → Type 0
  PlacedBy t f = Placed s t (left_by f s) (was_lost f)

  taken : s.ip ≡ false → PlacedBy true Taken
  unfolding free_places was_lost left_by
  taken i =
      let no-err = unset s.err s.ip sound.err i in
      let no-hidden = unset s.hidden s.ip (λ t. left s.ip (not s.err) (sound.hidden t)) i in
      record { sound = ip-sound s sound; places = simp (i, no-err, no-hidden); lost = simp (i, no-err, no-hidden) }

  kept : s.ip ≡ true → s.err ≡ false → s.hidden ≡ false → PlacedBy true Kept
  unfolding free_places was_lost left_by
  kept i x y = record { sound = hidden-sound s (simp (i, x)); places = simp (i, x, y); lost = simp (i, x, y) }

  lost : s.ip ≡ true → (s.err || s.hidden) ≡ true → PlacedBy true Lost
  unfolding free_places was_lost left_by
  lost i x = record { sound = sound; places = simp (i, x); lost = simp (i, x) }

  by-its-fate : (t : Bool) (f : Fate) → fate_of true t s ≡ f → PlacedBy t f → PlacedBy t (fate_of true t s)
  by-its-fate t f e p = subst (PlacedBy t) (sym e) p

  placed_by_lem : (t p e h : Bool) → s.ip ≡ p → s.err ≡ e → s.hidden ≡ h → PlacedBy t (fate_of true t s)
  unfolding fate_of was_lost left_by
  placed_by_lem false p e h i x y = record { sound = sound; places = sym (sub-zero (free_places s)); lost = omega arith }
  placed_by_lem true false e h i x y = by-its-fate true Taken (simp i) (taken i)
  placed_by_lem true true true h i x y = by-its-fate true Lost (simp (i, x)) (lost i (simp x))
  placed_by_lem true true false true i x y = by-its-fate true Lost (simp (i, x, y)) (lost i (simp (x, y)))
  placed_by_lem true true false false i x y = by-its-fate true Kept (simp (i, x, y)) (kept i x y)

  -- so it is, whatever its fate
  pub placed : (t : Bool) → PlacedBy t (fate_of true t s)
  placed t = placed_by_lem t _ _ _ refl refl refl

-- ---- the source of counter i, turn by turn
module _ (link : Link) (timer : Bool) (were are i : ℕ) (d : Device) where
  abbrev turn : Turned
  turn = counter_turn link timer were are i d

  fate-is : turn.fate ≡ fate_of true (came turn.fate) (source_at d (of_counter i))
  unfolding counter_turn turned
  fate-is = ap (λ (t : Bool). fate_of true t (source_at d (of_counter i))) (sym (came-is true _ (source_at d (of_counter i))))

  turn-here : of_counter i < length d.sources → source_at turn.device (of_counter i) ≡ left_by turn.fate (source_at d (of_counter i))
  unfolding counter_turn turned event_at
  turn-here h = event-here (with_counter d i _) (of_counter i) true _ h

  pub turn-there : (j : ℕ) → (j ≡ of_counter i → ⊥) → source_at turn.device j ≡ source_at d j
  unfolding counter_turn turned event_at
  turn-there j h = event-there (with_counter d i _) (of_counter i) j true _ h

  -- where the turn finds the source s, and the step leaves it as the turn did
  turn-placed : (s after : Source) → SourceSound s → of_counter i < length d.sources → source_at d (of_counter i) ≡ s
      → after ≡ source_at turn.device (of_counter i) → Placed s (came turn.fate) after (was_lost turn.fate)
  turn-placed s after sound h found stays =
      let f = turn.fate in
      let p = subst (PlacedBy s sound (came f)) (ap (fate_of true (came f)) (sym found) ∙ sym fate-is) (placed s sound (came f)) in
      let e : after ≡ left_by f s = stays ∙ turn-here h ∙ ap (left_by f) found in
      record { sound = subst SourceSound (sym e) p.sound; places = ap free_places e ∙ p.places; lost = p.lost }

-- no pattern comes to it
settled-there : (a b : ℕ) (d : Device) (j : ℕ) → (j ≡ of_port 0 → ⊥) → (j ≡ of_port 1 → ⊥) → source_at (settled a b d) j ≡ source_at d j
unfolding settled pattern_turn matched_by catchers
settled-there a b d j p q = event-there _ (of_port 1) j _ _ q ∙ event-there _ (of_port 0) j _ _ p

-- ---- a step, of which d1 is the record after (a)
module _ (timer : Bool) (d0 d1 : Device) (shape : Shaped d1) where
  abbrev first : Turned
  first = counter_turn unlinked timer (lines_at d0 0) (lines_at d1 0) 0 d1

  abbrev link2 : Link
  link2 = link_of (lc d1) (output_of d0.version (counter_at d0 0)) (output_of d1.version (counter_at first.device 0))

  abbrev second : Turned
  second = counter_turn link2 timer (lines_at d0 1) (lines_at d1 1) 1 first.device

  abbrev third : Turned
  third = counter_turn unlinked timer (lines_at d0 2) (lines_at d1 2) 2 second.device

  -- the second and the third find their sources as they were
  first-there : (j : ℕ) → (j ≡ 4 → ⊥) → source_at first.device j ≡ source_at d1 j
  first-there = turn-there unlinked timer (lines_at d0 0) (lines_at d1 0) 0 d1

  second-there : (j : ℕ) → (j ≡ 2 → ⊥) → source_at second.device j ≡ source_at first.device j
  second-there = turn-there link2 timer (lines_at d0 1) (lines_at d1 1) 1 first.device

  -- and what comes after the third leaves all three
  third-there : (j : ℕ) → (j ≡ 0 → ⊥) → source_at third.device j ≡ source_at second.device j
  third-there = turn-there unlinked timer (lines_at d0 2) (lines_at d1 2) 2 second.device

  rest-there : (j : ℕ) → (j ≡ 1 → ⊥) → (j ≡ 3 → ⊥) → source_at (step_of timer d0 d1).device j ≡ source_at third.device j
  unfolding step_of
  rest-there = settled-there (seen_at d0 0) (seen_at d0 1) third.device

  pub step-placed : (i : ℕ) → i < 3 → SourceSound (source_at d1 (of_counter i))
      → Placed (source_at d1 (of_counter i)) (get_or (step_of timer d0 d1).terminals i false) (source_at (step_of timer d0 d1).device (of_counter i))
      (get_or (step_of timer d0 d1).lost i false)
  unfolding step_of
  step-placed zero h sound =
      turn-placed unlinked timer (lines_at d0 0) (lines_at d1 0) 0 d1 _ _ sound (omega (arith, shape.sources)) refl
      (rest-there 4 (λ e. omega arith) (λ e. omega arith) ∙ third-there 4 (λ e. omega arith) ∙ second-there 4 (λ e. omega arith))
  step-placed (suc zero) h sound =
      let at = counter-turn-shaped unlinked timer (lines_at d0 0) (lines_at d1 0) 0 d1 shape in
      turn-placed link2 timer (lines_at d0 1) (lines_at d1 1) 1 first.device _ _ sound (omega (arith, at.sources)) (first-there 2 (λ e. omega arith))
      (rest-there 2 (λ e. omega arith) (λ e. omega arith) ∙ third-there 2 (λ e. omega arith))
  step-placed (suc (suc zero)) h sound =
      let at =
      counter-turn-shaped link2 timer (lines_at d0 1) (lines_at d1 1) 1 first.device
      (counter-turn-shaped unlinked timer (lines_at d0 0) (lines_at d1 0) 0 d1 shape) in
      turn-placed unlinked timer (lines_at d0 2) (lines_at d1 2) 2 second.device _ _ sound (omega (arith, at.sources))
      (second-there 0 (λ e. omega arith) ∙ first-there 0 (λ e. omega arith)) (rest-there 0 (λ e. omega arith) (λ e. omega arith))
  step-placed (suc (suc (suc i))) h sound = absurd (omega arith)

-- ---- n clocks
module _ (d : Device) (i : ℕ) (h : i < 3) where
  abbrev source : Device → Source
  source e = source_at e (of_counter i)

  -- its terminals so far took the places, and the others are lost
  record Losing (s : Ran) : Type 0 where
    shape : Shaped s.device
    sound : SourceSound (source s.device)
    places : free_places (source s.device) ≡ free_places (source d) - get_or s.report.terminals i 0
    lost : get_or s.report.lost i 0 ≡ get_or s.report.terminals i 0 - free_places (source d)

  next-by : (v p : Bool) (s : Ran) → reset s.device ≡ v → s.device.phase ≡ p → Losing s → Losing (clock_of s)
  unfolding reported
  next-by true p s e q l = rw (clock-held s e) l
  next-by false false s e q l =
      rw (clock-first s e q)
      (record { shape = phase-shaped s.device true l.shape; sound = l.sound; places = l.places; lost = l.lost })
  next-by false true s e q l =
      let low = with_phase s.device false in
      let t = step_of true s.device low in
      let shape = phase-shaped s.device false l.shape in
      let p = step-placed true s.device low shape i h l.sound in
      let a = added-at the_terminals s.report t i h in
      let b = added-at the_lost s.report t i h in
      rw (clock-timer s e q)
      (record {
        shape = step-shaped true s.device low shape;
        sound = p.sound;
        places = omega (arith, a, p.places, l.places);
        lost = omega (arith, a, b, p.lost, l.places, l.lost);
      })

  losing : (n : ℕ) → Shaped d → SourceSound (source d) → Losing (ran_of n d)
  unfolding ran_of iterate
  losing zero shape sound =
      let z = all-zero i in
      record { shape = shape; sound = sound; places = omega (arith, z); lost = omega (arith, z) }
  losing (suc n) shape sound = next-by _ _ (ran_of n d) refl refl (losing n shape sound)

  -- whether free-running or not
  pub ran-lost : (n : ℕ) → Shaped d → sound_of d ≡ true
      → get_or (ran_of n d).report.lost i 0 ≡ lost_after (source d) (get_or (ran_of n d).report.terminals i 0)
  unfolding lost_after
  ran-lost n shape s = (losing n shape ((sound-parts d s).base.sources (of_counter i) (omega arith))).lost
