-- What each accepted event does to a sound record leaves a sound record: the seven kinds, and the clocks.
-- Assumes nothing.
use Prim.Native.Nat.{ℕ, zero, suc, ◌-◌, ◌<◌}
use mathlib.Core.Path.{◌≡◌, refl, sym, subst, ◌∙◌}
use mathlib.Core.Bool.{Bool, true, false, not, ◌&&◌, ◌||◌, cond, So, true≢false, and_assoc, and-false}
use mathlib.Core.List.{List, [], ◌∷◌}
use native.Mathlib.Omega.{arith}
use lib.Dec.{eqb, ltb}
use lib.ListN.{get_or}
use borrow.Author.Tests.{eqb-true, ltb-false, not-false}
use Rattle.rules.specs.declared.Device.{Device}
use Rattle.rules.specs.declared.Event.{Event}
use Rattle.rules.specs.declared.Effect.{Effect}
use Rattle.rules.specs.declared.Ran.{Ran}
use Rattle.rules.specs.Record.{Shaped}
use Rattle.rules.specs.With.{with_phase}
use Rattle.rules.specs.Report.{no_report}
use Rattle.rules.specs.Registers.{kind_in, kind_of, reset, read_only, later}
use Rattle.rules.specs.Interrupts.{requester}
use Rattle.rules.specs.Step.{step_of, reported, clock_of, ran_of}
use Rattle.basics.specs.Iterate.{iterate}
use Rattle.rules.specs.Handshakes.{irf_at, ore_at}
use Rattle.rules.specs.Moves.{moves_of}
use Rattle.rules.specs.Access.{read_of, reads_byte, writes_byte, after_read, written_of}
use Rattle.rules.specs.Events.{is_x, is_w, is_r, is_p, is_t, is_k, is_e, unknown, no_register, too_large, held, no_byte, no_room, code_of, effect, write_effect}
use Rattle.rules.specs.Events.{read_effect, outside_set, pins_effect, clocks_effect, acknowledge_effect, iei_effect, effect_of}
use Rattle.rules.specs.Sound.{sound_of}
use Rattle.basics.proofs.Tests.{so-both, all_of, each, not_so, never, by-test}
use Rattle.theorems.proofs.Parts.{Base, Sound}
use Rattle.theorems.proofs.Moves.{moves-base}
use Rattle.theorems.proofs.Steps.{step-sound}
use Rattle.theorems.proofs.Writes.{master-base, outside-base, written-base}
use Rattle.theorems.proofs.Stepless.{reset-sound, read-sound, acknowledge-sound, iei-sound, phase-base, phase-sound}
use Rattle.theorems.proofs.Addresses.{later-kind, full-kind}
use Rattle.theorems.proofs.Codes.{acknowledges}
use Rattle.theorems.proofs.Refusals.{code-0}
use Rattle.theorems.proofs.Shapes.{written-shaped, outside-shaped}

-- ---- the clock
pub clock-parts : (s : Ran) → Sound s.device → Sound (clock_of s).device
unfolding clock_of reported
clock-parts s h =
    let d = s.device in
    let stepped = reported s.report (step_of true d (with_phase d false)) in
    let flipped : Ran = record { device = with_phase d true; report = s.report } in
    by-test (λ (r : Ran). Sound r.device) (reset d) s (cond d.phase stepped flipped) (λ _. h)
    (λ z.
    by-test (λ (r : Ran). Sound r.device) d.phase stepped flipped
    (λ _. step-sound true d (with_phase d false) (phase-base d false z h.base)) (λ _. phase-sound d true z h))

pub clocks-parts : (n : ℕ) (s : Ran) → Sound s.device → Sound (iterate n clock_of s).device
unfolding iterate
clocks-parts zero s h = h
clocks-parts (suc n) s h = clock-parts (iterate n clock_of s) (clocks-parts n s h)

pub ran-parts : (n : ℕ) (d : Device) → Sound d → Sound (ran_of n d).device
unfolding ran_of
ran-parts n d h = clocks-parts n (record { device = d; report = no_report }) h

-- ---- a write and a read; under RESET they come to register 00 alone
-- not under RESET, or register 00
data Reached (d : Device) (a : ℕ) : Type 0 where
  free : reset d ≡ false → Reached d a
  first : a ≡ 0 → Reached d a

reached : (d : Device) (a : ℕ) (r : Bool) → reset d ≡ r → (reset d && not (eqb a 0)) ≡ false → Reached d a
reached d a true p h = first (eqb-true a 0 (not-false (eqb a 0) (simp p at h)))
reached d a false p h = free p

-- a data write with no room
abbrev unstored : Device → ℕ → Bool
unstored d a = writes_byte d a && not (ore_at d (a - 0x0D))

write-base : (d : Device) (a b : ℕ) → Shaped d → Sound d → later d a b ≡ false → unstored d a ≡ false → Reached d a → Base (written_of d (kind_of a) b)
unfolding written_of kind_of kind_in
write-base d a b k h l r (free z) = written-base d h.base z k (kind_of a) b (sym (later-kind d a b) ∙ l) (sym (full-kind d a) ∙ r)
write-base d a b k h l r (first q) = subst (λ (n : ℕ). Base (written_of d (kind_of n) b)) (sym q) (master-base d b h.base)

read-parts : (d : Device) (a : ℕ) → Sound d → (So (reads_byte d a) → So (irf_at d (a - 0x0D))) → Reached d a → Sound (after_read d a)
unfolding after_read reads_byte
read-parts d a h i (free z) = read-sound d z h a i
read-parts d a h i (first q) = subst (λ (n : ℕ). Sound (after_read d n)) (sym q) h

-- (a), with its moves, and the step
moved-sound : (d0 d1 : Device) → Shaped d1 → Base d1 → Sound (step_of false d0 (moves_of d0 d1)).device
moved-sound d0 d1 k h = step-sound false d0 (moves_of d0 d1) (moves-base d0 d1 k h)

write-effect : (d : Device) (a b : ℕ) → Shaped d → Sound d → ((reset d && not (eqb a 0)) ≡ false → later d a b ≡ false)
    → ((reset d && not (eqb a 0)) ≡ false → unstored d a ≡ false) → Sound (write_effect d a b).device
unfolding write_effect
write-effect d a b k h l r =
    by-test (λ (r : Effect). Sound r.device) (reset d && not (eqb a 0)) (effect d 0) (effect (step_of false d (moves_of d (written_of d (kind_of a) b))).device 0)
    (λ _. h)
    (λ z. moved-sound d (written_of d (kind_of a) b) (written-shaped d k (kind_of a) b) (write-base d a b k h (l z) (r z) (reached d a (reset d) refl z)))

read-effect : (d : Device) (a : ℕ) → Sound d → (So (reads_byte d a) → So (irf_at d (a - 0x0D))) → Sound (read_effect d a).device
unfolding read_effect
read-effect d a h i =
    by-test (λ (r : Effect). Sound r.device) (reset d && not (eqb a 0)) (effect d 0) (effect (after_read d a) (read_of d (kind_of a)))
    (λ _. h) (λ z. read-parts d a h i (reached d a (reset d) refl z))

-- ---- what code 0 tells of a write, of outside levels, of an acknowledge
pub neither : (a b : Bool) → (a || b) ≡ false → (a ≡ false) × (b ≡ false)
neither true b h = (h, absurd (true≢false h))
neither false b h = (refl, h)

without : (a b : Bool) → So a → (a && b) ≡ false → b ≡ false
without true b p h = h
without false b p h = never refl p

unheld : (r w n : Bool) → (r && n) ≡ false → (r && w && n) ≡ false
unheld true true n h = h
unheld true false n h = refl
unheld false w n h = refl

or_else : (a b : Bool) → So (a || b) → a ≡ false → So b
or_else true b h p = never p refl
or_else false b h p = h

module _ (d : Device) (e : Event) (z : code_of d e ≡ 0) where
  abbrev rest : List Bool
  rest =
      not (is_w e && read_only e.a) ∷ not (no_byte d e) ∷ not (no_room d e) ∷ not (is_w e && later d e.a e.b) ∷ not (is_k e && eqb (requester d) 5) ∷ []

  abbrev tests : List Bool
  tests = sound_of d ∷ not (unknown e) ∷ not (no_register e) ∷ not (too_large e) ∷ (held d e || all_of rest) ∷ []

  passed : (i : ℕ) → So (get_or tests i true)
  passed = each tests ((code-0 d e).0 z)

  unless-held : held d e ≡ false → (i : ℕ) → So (get_or rest i true)
  unless-held h = each rest (or_else (held d e) (all_of rest) (passed 4) h)

  write-free : (reset d && not (eqb e.a 0)) ≡ false → (i : ℕ) → So (get_or rest i true)
  unfolding held
  write-free h = unless-held (unheld (reset d) (is_w e) (not (eqb e.a 0)) h)

  write-now : So (is_w e) → (reset d && not (eqb e.a 0)) ≡ false → later d e.a e.b ≡ false
  write-now w h = without (is_w e) (later d e.a e.b) w (not_so (is_w e && later d e.a e.b) (write-free h 3))

  write-stored : So (is_w e) → (reset d && not (eqb e.a 0)) ≡ false → unstored d e.a ≡ false
  unfolding no_room
  write-stored w h =
      let full = not (ore_at d (e.a - 0x0D)) in
      without (is_w e) (unstored d e.a) w (sym (and_assoc (is_w e) (writes_byte d e.a) full) ∙ not_so (no_room d e) (write-free h 2))

  read-now : So (is_r e) → So (reads_byte d e.a) → So (irf_at d (e.a - 0x0D))
  unfolding held no_byte
  read-now r b =
      let none = not (irf_at d (e.a - 0x0D)) in
      let q = eqb-true e.kind 2 r in
      not-false (irf_at d (e.a - 0x0D))
      (without (is_r e && reads_byte d e.a) none (so-both r b)
      (not_so (is_r e && reads_byte d e.a && none) (unless-held (simp (q, and-false)) 1)))

  pins-small : So (is_p e) → e.c < 16
  unfolding too_large
  pins-small p =
      let large = ltb 255 e.a || ltb 255 e.b in
      let t = neither (is_w e && ltb 255 e.b || is_p e && (large || ltb 15 e.c)) (is_e e && ltb 1 e.a) (not_so (too_large e) (passed 3)) in
      let u = neither (is_w e && ltb 255 e.b) (is_p e && (large || ltb 15 e.c)) t.0 in
      let v = neither large (ltb 15 e.c) (without (is_p e) (large || ltb 15 e.c) p u.1) in
      let w = ltb-false 15 e.c v.1 in
      omega arith

  requested : So (is_k e) → eqb (requester d) 5 ≡ false
  requested k =
      without (is_k e) (eqb (requester d) 5) k
      (not_so (is_k e && eqb (requester d) 5) (unless-held (acknowledges d e k).untested.free 4))

  -- ---- the seven kinds
  pub effect-parts : Shaped d → Sound d → Sound (effect_of d e).device
  unfolding effect_of pins_effect clocks_effect acknowledge_effect iei_effect
  effect-parts k h =
      by-test (λ (r : Effect). Sound r.device) (is_x e) _ _ (λ _. reset-sound d h.base.version h.base.four.outside)
      (λ _.
      by-test (λ (r : Effect). Sound r.device) (is_w e) _ _ (λ w. write-effect d e.a e.b k h (write-now w) (write-stored w))
      (λ _.
      by-test (λ (r : Effect). Sound r.device) (is_r e) _ _ (λ r. read-effect d e.a h (read-now r))
      (λ _.
      by-test (λ (r : Effect). Sound r.device) (is_p e) _ _
      (λ p.
      moved-sound d (outside_set d e.a e.b e.c) (outside-shaped d k e.a e.b e.c) (outside-base d e.a e.b e.c (pins-small p) h.base))
      (λ _.
      by-test (λ (r : Effect). Sound r.device) (is_t e) _ _ (λ _. ran-parts e.a d h)
      (λ _.
      by-test (λ (r : Effect). Sound r.device) (is_k e) _ _ (λ a. acknowledge-sound d (requested a) h)
      (λ _. iei-sound d (eqb e.a 1) h))))))
