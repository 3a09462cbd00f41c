-- Paper 02, W-211: OR with priority-encoded vector, mode 11 of a port's pattern. A match asks as long as it stands, and hides no error; the
-- vector shows the number of the highest matching bit; and code 4.
-- Assumes nothing.
use Prim.Native.Nat.{ℕ, zero, suc, ◌+◌, ◌*◌, ◌/◌, ◌%◌, ◌≤◌, ◌<◌}
use mathlib.Core.Path.{◌≡◌, refl, sym, ap, subst, ◌∙◌}
use mathlib.Core.Bool.{Bool, true, false, not, ◌&&◌, ◌||◌, cond, So, and-true, and-false, or-false, false≢true}
use mathlib.Core.Logic.{◌⊎◌, inl, inr, ⊎_elim, ◌↔◌}
use native.Mathlib.Nat.{eq-or-lt_of_le, lt_of_not-le}
use native.Mathlib.Omega.{arith}
use lib.Dec.{eqb, ltb}
use borrow.Author.Tests.{eqb-true, eqb-false, ltb-false, le-ltb, eq-eqb, ne_eqb, not-false}
use Rattle.basics.specs.Byte.{bit, every, any}
use Rattle.rules.specs.declared.Device.{Device}
use Rattle.rules.specs.declared.Pattern.{Pattern}
use Rattle.rules.specs.declared.Source.{Source}
use Rattle.rules.specs.declared.Event.{Event}
use Rattle.rules.specs.declared.Effect.{Effect}
use Rattle.rules.specs.Record.{Shaped, vector_at, pattern_at, source_at, of_port}
use Rattle.rules.specs.With.{with_pmf, with_port_mode, with_ip}
use Rattle.rules.specs.Registers.{port_kind, kind_in, kind_of, reset, port_on, port_enabled, read_only, later_port_mode, later_handshake, later_priority}
use Rattle.rules.specs.Handshakes.{handshakes, is_line, ackin_at, offers_at, shown_at}
use Rattle.rules.specs.PortData.{direction_at, special_at, lined, value_at, pins_at, path_at, seen_at}
use Rattle.rules.specs.Patterns.{is_priority, highest_of, highest_match, on_bit, hit_bit, on_at, hit_at, and_match, or_match, match_of, event_by, hides_by}
use Rattle.rules.specs.Moves.{asked_if, moves_of}
use Rattle.rules.specs.Interrupts.{fate_of, relined, vector_of, priority_status, highest_at, port_vector, with_status}
use Rattle.rules.specs.Step.{step_of}
use Rattle.rules.specs.Access.{writes_byte, written_of}
use Rattle.rules.specs.Sound.{later_port, sound_of}
use Rattle.rules.specs.Events.{unknown, no_register, too_large, held, no_byte, no_room, code_of, effect, write_effect, outside_set, pins_effect, effect_of, relit, outcome_of, event_of}
use Rattle.basics.proofs.Tests.{left, not_so, never, by-test}
use Rattle.basics.proofs.Places.{each2}
use Rattle.theorems.specs.declared.Side.{Side}
use Rattle.theorems.specs.Used.{of}
use Rattle.theorems.specs.Alone.{left_by, struck_by}
use Rattle.theorems.specs.Moving.{side_at}
use Rattle.theorems.proofs.Parts.{Sound}
use Rattle.theorems.proofs.Addresses.{later-kind}
use Rattle.theorems.proofs.Codes.{or-so}
use Rattle.theorems.proofs.Clauses.{sound-parts}
use Rattle.theorems.proofs.Accepted.{neither, effect-parts}
use Rattle.theorems.proofs.Refusals.{code_is, accepted-sound}
use Rattle.theorems.proofs.Frame.{frame_step}
use Rattle.theorems.proofs.Sides.{step-sided}
use Rattle.theorems.proofs.Shapes.{moves-shaped, written-shaped, outside-shaped}

-- PMF is no part of what matches
pmf-unseen : (on : Bool) (q : Pattern) (v : Bool) (before after : ℕ) → match_of on (with_pmf q v) before after ≡ match_of on q before after
unfolding match_of and_match or_match on_at hit_at
pmf-unseen on q v before after = refl

-- in mode 11 an event sets IP, whatever PMF and IOE were
asked_by : (ip : Bool) (s : Source) → s.ip ≡ ip → struck_by false true s ≡ with_ip s true
unfolding struck_by fate_of left_by
asked_by true s e = simp e (λ i. record { ius = s.ius; ie = s.ie; ip = e i; err = s.err; hidden = s.hidden })
asked_by false s e = simp e

asked : (q : Pattern) (pmf m : Bool) (s : Source) → is_priority q ≡ true → struck_by (hides_by q) (event_by q pmf m) s ≡ asked_if m s
unfolding hides_by event_by asked_if struck_by fate_of left_by
asked q pmf true s h = simp (h, and-false) (asked_by _ s refl)
asked q pmf false s h = refl

module _ (timer : Bool) (d0 d1 : Device) (shape : Shaped d1) (p : ℕ) (l : p < 2) where
  -- the record after the step, and whether the pattern matches after (e)
  abbrev after : Device
  after = (step_of timer d0 d1).device

  abbrev matches : Bool
  matches = match_of (port_enabled after p) (pattern_at after p) (seen_at d0 p) (seen_at after p)

  matches-so : matches ≡ match_of (port_enabled d1 p) (pattern_at d1 p) (seen_at d0 p) (seen_at after p)
  matches-so =
      ap (λ (n : ℕ). match_of (port_on n p) (pattern_at after p) (seen_at d0 p) (seen_at after p)) (frame_step timer d0 d1).config
      ∙ ap (λ (q : Pattern). match_of (port_enabled d1 p) q (seen_at d0 p) (seen_at after p)) (step-sided timer d0 d1 shape p l).pattern
      ∙ pmf-unseen _ _ _ _ _

  -- in mode 11 PMF and source go by the match and the source alone: not by IOE, not by PMF as it was
  pub priority-side : is_priority (pattern_at after p) ≡ true → side_at after p ≡ record { pmf = matches; source = asked_if matches (source_at d1 (of_port p)) }
  unfolding side_at
  priority-side h =
      let g = step-sided timer d0 d1 shape p l in
      let q : is_priority (pattern_at d1 p) ≡ true = sym (ap (λ (m : ℕ). eqb (m / 2 % 4) 3) ((frame_step timer d0 d1).modes p)) ∙ h in
      let m = matches-so in
      let s = g.source ∙ asked (pattern_at d1 p) _ _ _ q ∙ ap (λ (m : Bool). asked_if m (source_at d1 (of_port p))) (sym m) in
      let f : (pattern_at after p).pmf ≡ matches = ap (λ (q : Pattern). q.pmf) g.pattern ∙ sym m in
      λ i. record { pmf = f i; source = s i }

  -- "IP is set while any match stands, at every step"
  pub stands-asks : is_priority (pattern_at after p) ≡ true → matches ≡ true → (source_at after (of_port p)).ip ≡ true
  unfolding side_at asked_if
  stands-asks h m = ap (λ (x : Side). x.source.ip) (priority-side h) ∙ (simp m)

  -- and it never sets the hidden error, nor ERR
  pub no-hidden : is_priority (pattern_at after p) ≡ true
      → ((source_at after (of_port p)).hidden ≡ (source_at d1 (of_port p)).hidden) × ((source_at after (of_port p)).err ≡ (source_at d1 (of_port p)).err)
  unfolding side_at asked_if
  no-hidden h =
      let s = source_at d1 (of_port p) in
      let e = ap (λ (x : Side). x.source) (priority-side h) in (
        ap (λ (x : Source). x.hidden) e ∙ by-test (λ (x : Source). x.hidden ≡ s.hidden) matches (with_ip s true) s (λ _. refl) (λ _. refl),
        ap (λ (x : Source). x.err) e ∙ by-test (λ (x : Source). x.err ≡ s.err) matches (with_ip s true) s (λ _. refl) (λ _. refl),
      )

-- ---- "Level patterns only: transition 0": in a sound record a port in mode 11 is a bit port with no transition, of version 2
with-bits : (m : ℕ) → m / 2 % 4 ≡ 3 → eqb (m / 2 % 8) 0 ≡ false
with-bits m h = ne_eqb (m / 2 % 8) 0 (λ e. omega (arith, h, e))

-- a handshake port has no such mode
handshake-later : (m h : ℕ) → m / 2 % 4 ≡ 3 → later_handshake m h ≡ (eqb (m / 64) 1 || eqb (m / 64) 2)
unfolding later_handshake
handshake-later m h e = simp (with-bits m e, and-true)

bit-port : (n m h : ℕ) → m / 2 % 4 ≡ 3 → later_port_mode n m ≡ false → later_handshake m h ≡ false → m / 64 ≡ 0
unfolding later_port_mode
bit-port n m h e a b =
    let low = ltb-false (cond (eqb n 1) 0 2) (m / 64) (neither _ _ (neither _ _ a).0).0 in
    let two : cond (eqb n 1) 0 2 ≤ 2 = by-test (λ (x : ℕ). x ≤ 2) (eqb n 1) 0 2 (λ _. omega arith) (λ _. omega arith) in
    let none = neither _ _ (sym (handshake-later m h e) ∙ b) in
    let one = eqb-false (m / 64) 1 none.0 in
    let both = eqb-false (m / 64) 2 none.1 in
    omega (arith, low, two, one, both)

levels-by : (n : ℕ) (q : Pattern) → is_priority q ≡ true → later_port n q ≡ false → (q.mode / 64 ≡ 0) × (q.transition ≡ 0)
unfolding later_priority
levels-by n q e h =
    let part = neither _ _ h in
    let mode = neither _ _ part.0 in
    let z = bit-port n q.mode q.handshake (eqb-true _ 3 e) mode.0 mode.1 in
    (z, eqb-true q.transition 0 (not-false _ (simp (e, z) at part.1)))

version-none : (n m : ℕ) (b c : Bool) → (later_port_mode n m || b || c) ≡ false → n ≡ 1 → eqb (m / 2 % 4) 3 ≡ false
unfolding later_port_mode
version-none n m b c h v =
    let one = subst (λ (n : ℕ). (later_port_mode n m || b || c) ≡ false) v h in
    let mode = (neither (later_port_mode 1 m) b (neither (later_port_mode 1 m || b) c one).0).0 in
    (neither (ltb 0 (m / 64)) (eqb (m / 2 % 4) 3) (neither (ltb 0 (m / 64) || eqb (m / 2 % 4) 3) (bit m 0) mode).0).1

module _ (d : Device) (s : sound_of d ≡ true) (p : ℕ) (l : p < 2) where
  later-none : later_port d.version (pattern_at d p) ≡ false
  later-none = (sound-parts d s).base.modes p l

  pub priority-levels : is_priority (pattern_at d p) ≡ true → (pattern_at d p).transition ≡ 0
  priority-levels e = (levels-by d.version (pattern_at d p) e later-none).1

  pub priority-bits : is_priority (pattern_at d p) ≡ true → handshakes (pattern_at d p) ≡ false
  priority-bits e = simp (levels-by d.version (pattern_at d p) e later-none).0

  pub priority-version : d.version ≡ 1 → is_priority (pattern_at d p) ≡ false
  priority-version v = version-none d.version (pattern_at d p).mode _ _ later-none v

-- so it matches by the levels as they stand
levels-match : (on : Bool) (q : Pattern) (before after : ℕ) → q.transition ≡ 0 → match_of on q before after ≡ match_of on q after after
unfolding match_of and_match or_match on_at hit_at on_bit hit_bit any every
levels-match on q before after t = simp t

-- ---- after every accepted W and P
-- a match stands at port p, of the levels as they are
abbrev pub stands : Device → ℕ → Bool
stands d p = match_of (port_enabled d p) (pattern_at d p) (seen_at d p) (seen_at d p)

-- in mode 11 it has set IP
abbrev pub Asks : ℕ → Device → Type 0
Asks p d = is_priority (pattern_at d p) ≡ true → stands d p ≡ true → (source_at d (of_port p)).ip ≡ true

step-asks : (timer : Bool) (d0 d1 : Device) → Shaped d1 → (p : ℕ) → p < 2 → Sound (step_of timer d0 d1).device → Asks p (step_of timer d0 d1).device
step-asks timer d0 d1 k p l s e m =
    let t = (levels-by _ (pattern_at (step_of timer d0 d1).device p) e (s.base.modes p l)).1 in
    stands-asks timer d0 d1 k p l e (levels-match _ _ (seen_at d0 p) _ t ∙ m)

-- the lines are on no port
relined-asks : (p : ℕ) (d : Device) → Asks p d → Asks p (relined d)
unfolding relined seen_at path_at pins_at value_at direction_at special_at lined is_line shown_at offers_at ackin_at
relined-asks p d h = h

-- under RESET no port is in mode 11
reset-asks : (d : Device) → Sound d → So (reset d) → (p : ℕ) → p < 2 → Asks p d
reset-asks d s r p l e m = never (ap (λ (q : Pattern). is_priority q) ((s.base.held r).patterns p l)) e

module _ (d : Device) (k : Shaped d) (p : ℕ) (l : p < 2) where
  accepted-asks : (e : Event) → code_of d e ≡ 0 → (Sound (effect_of d e).device → Asks p (effect_of d e).device) → Asks p (event_of d e).device
  unfolding event_of outcome_of relit
  accepted-asks e z f =
      let s = effect-parts d e z k (sound-parts d (accepted-sound d e z)) in
      simp z (relined-asks p (effect_of d e).device (f s))

  -- a clear command among them: "a clear command is followed by IP = 1 as long as it does"
  pub write-asks : (a b : ℕ) → code_of d (of 1 a b 0) ≡ 0 → Asks p (event_of d (of 1 a b 0)).device
  unfolding effect_of write_effect
  write-asks a b z =
      let e = of 1 a b 0 in
      let w = written_of d (kind_of a) b in
      let m = moves_of d w in
      accepted-asks e z
      (by-test (λ (r : Effect). Sound r.device → Asks p r.device) (reset d && not (eqb a 0)) (effect d 0) (effect (step_of false d m).device 0)
      (λ r s. reset-asks d s (left (reset d) (not (eqb a 0)) r) p l)
      (λ _. step-asks false d m (moves-shaped d w (written-shaped d k (kind_of a) b)) p l))

  pub pins-ask : (a b c : ℕ) → code_of d (of 3 a b c) ≡ 0 → Asks p (event_of d (of 3 a b c)).device
  unfolding effect_of pins_effect
  pins-ask a b c z =
      let w = outside_set d a b c in
      accepted-asks (of 3 a b c) z (step-asks false d (moves_of d w) (moves-shaped d w (outside-shaped d k a b c)) p l)

-- ---- "the number of the highest matching bit, 0 if none"
module _ (f : ℕ → Bool) where
  -- of the bits up to n
  abbrev up_to : ℕ → ℕ
  up_to zero = 0
  up_to (suc n) = cond (f (suc n)) (suc n) (up_to n)

  -- k is the highest at which f holds; or f holds at none, and k is 0
  abbrev Highest : ℕ → ℕ → Type 0
  Highest n k = (k ≤ n) × (f k ≡ true) × ((j : ℕ) → k < j → j ≤ n → f j ≡ false)

  abbrev None : ℕ → ℕ → Type 0
  None n k = (k ≡ 0) × ((j : ℕ) → j ≤ n → f j ≡ false)

  lowest : (b : Bool) → f 0 ≡ b → Highest 0 0 ⊎ None 0 0
  lowest true e = inl (omega arith, e, λ j g h. absurd (omega arith))
  lowest false e = inr (refl, λ j h. let z : j ≡ 0 = omega arith in ap f z ∙ e)

  last : (n j : ℕ) → f (suc n) ≡ false → (j ≤ n → f j ≡ false) → j ≤ suc n → f j ≡ false
  last n j z h l = ⊎_elim (λ (e : j ≡ suc n). ap f e ∙ z) (λ (g : j < suc n). h (omega (arith, g))) (eq-or-lt_of_le l)

  one_more : (n k : ℕ) → f (suc n) ≡ false → Highest n k ⊎ None n k → Highest (suc n) k ⊎ None (suc n) k
  one_more n k z (inl h) = inl (omega (arith, h.0), h.1, λ j g. last n j z (h.2 j g))
  one_more n k z (inr h) = inr (h.0, λ j. last n j z (h.1 j))

  up-to : (n : ℕ) → Highest n (up_to n) ⊎ None n (up_to n)
  up-to zero = lowest _ refl
  up-to (suc n) =
      by-test (λ k. Highest (suc n) k ⊎ None (suc n) k) (f (suc n)) (suc n) (up_to n) (λ t. inl (omega arith, t, λ j g h. absurd (omega (arith, g, h))))
      (λ z. one_more n (up_to n) z (up-to n))

  not-past : (n k m : ℕ) → Highest n k → Highest n m → k ≤ m
  not-past n k m h g =
      let l : k < suc m = lt_of_not-le (λ (l : m < k). false≢true (sym (g.2 k l h.0) ∙ h.1)) in
      omega (arith, l)

  one_only : (n k m : ℕ) → Highest n k ⊎ None n k → Highest n m ⊎ None n m → k ≡ m
  one_only n k m (inl h) (inl g) = omega (arith, not-past n k m h g, not-past n m k g h)
  one_only n k m (inl h) (inr g) = absurd (false≢true (sym (g.1 k h.0) ∙ h.1))
  one_only n k m (inr h) (inl g) = absurd (false≢true (sym (h.1 m g.0) ∙ g.1))
  one_only n k m (inr h) (inr g) = h.0 ∙ sym g.0

  pub highest-is : (k : ℕ) → (highest_of f ≡ k) ↔ (Highest 7 k ⊎ None 7 k)
  unfolding highest_of
  highest-is k = (λ e. subst (λ (m : ℕ). Highest 7 m ⊎ None 7 m) e (up-to 7), one_only 7 (up_to 7) k (up-to 7))

  highest-small : highest_of f ≤ 7
  unfolding highest_of
  highest-small = ⊎_elim (λ (h : Highest 7 (up_to 7)). h.0) (λ (h : None 7 (up_to 7)). omega (arith, h.0)) (up-to 7)

-- "the port's status in D3-D1 is the number of the highest matching bit, 0 if none, ERR or not", and the rest of the vector its base
in_place : (base n : ℕ) → n ≤ 7
    → (priority_status base n / 16 ≡ base / 16) × (priority_status base n / 2 % 8 ≡ n) × (priority_status base n % 2 ≡ base % 2)
unfolding priority_status
in_place base n l = (omega arith, omega arith, omega arith)

status-is : (d : Device) (p : ℕ) → p < 2 → is_priority (pattern_at d p) ≡ true → with_status d (of_port p) ≡ priority_status (vector_at d p) (highest_at d p)
unfolding with_status vector_of port_vector
status-is d =
    each2 (λ p. is_priority (pattern_at d p) ≡ true → with_status d (of_port p) ≡ priority_status (vector_at d p) (highest_at d p)) (λ h. simp h) (λ h. simp h)

pub status-shows : (d : Device) (p : ℕ) → p < 2 → is_priority (pattern_at d p) ≡ true
    → let v = with_status d (of_port p) in (v / 16 ≡ vector_at d p / 16) × (v / 2 % 8 ≡ highest_at d p) × (v % 2 ≡ vector_at d p % 2)
unfolding highest_at highest_match
status-shows d p l h = rw (status-is d p l h) (in_place (vector_at d p) (highest_at d p) (highest-small _))

-- ---- "4 is kept for this mode with any transition bit set, whichever of the two registers is written last", and "Version 1 devices still
-- refuse the mode."
bits-later : (n m h t : ℕ) → m / 64 ≡ 0 → m / 2 % 4 ≡ 3 → bit m 0 ≡ false
    → (later_port_mode n m || later_handshake m h || later_priority m t) ≡ (eqb n 1 || not (eqb t 0))
unfolding later_port_mode later_handshake later_priority
bits-later n m h t z e o = simp (z, e, o, le-ltb (cond (eqb n 1) 0 2) 0 (omega arith), and-true, or-false)

transition-later : (n : ℕ) (q : Pattern) (v : Bool) (t : ℕ) → is_priority q ≡ v → later_port n q ≡ false → later_priority q.mode t ≡ (v && not (eqb t 0))
unfolding later_priority
transition-later n q true t e h = simp ((levels-by n q e h).0, e)
transition-later n q false t e h = simp (e, and-false)

is_later : (v : Bool) (n : ℕ) (q : Pattern) → later_port n q ≡ v → is_priority q ≡ true → So (eqb n 1 || not (eqb q.transition 0)) → v ≡ true
is_later true n q h e o = refl
is_later false n q h e o =
    or-so (eqb n 1) (not (eqb q.transition 0))
    (λ w. never (version-none n q.mode _ _ h (eqb-true n 1 w)) e)
    (λ w. never (not_so (eqb q.transition 0) w) (eq-eqb q.transition 0 (levels-by n q e h).1)) o

module _ (d : Device) (s : sound_of d ≡ true) (r : reset d ≡ false) (p : ℕ) (l : p < 2) (b : ℕ) (small : b < 256) where
  abbrev code : ℕ → ℕ
  code a = (event_of d (of 1 a b 0)).answer.code

  mode-by : code (0x20 + 8 * p) ≡ cond (later_port d.version (with_port_mode (pattern_at d p) b)) 4 0
  unfolding code_of unknown no_register too_large held no_byte no_room writes_byte read_only kind_of kind_in port_kind
  mode-by =
      code_is d _
      ∙ each2 (λ p. code_of d (of 1 (0x20 + 8 * p) b 0) ≡ cond (later_port d.version (with_port_mode (pattern_at d p) b)) 4 0)
      (simp (s, r, le-ltb 255 b (omega arith), later-kind)) (simp (s, r, le-ltb 255 b (omega arith), later-kind)) p l

  transition-by : code (0x26 + 8 * p) ≡ cond (later_priority (pattern_at d p).mode b) 4 0
  unfolding code_of unknown no_register too_large held no_byte no_room writes_byte read_only kind_of kind_in port_kind
  transition-by =
      code_is d _
      ∙ each2 (λ p. code_of d (of 1 (0x26 + 8 * p) b 0) ≡ cond (later_priority (pattern_at d p).mode b) 4 0)
      (simp (s, r, le-ltb 255 b (omega arith), later-kind)) (simp (s, r, le-ltb 255 b (omega arith), later-kind)) p l

  -- the mode written last: any byte with D2-D1 = 11
  pub mode-refused : b / 2 % 4 ≡ 3 → So (eqb d.version 1 || not (eqb (pattern_at d p).transition 0)) → code (0x20 + 8 * p) ≡ 4
  mode-refused e o = mode-by ∙ ap (λ (v : Bool). cond v 4 0) (is_later _ d.version (with_port_mode (pattern_at d p) b) refl (eq-eqb _ 3 e) o)

  -- and of a bit port, with D0 = 0, no other
  pub mode-code : b / 64 ≡ 0 → b / 2 % 4 ≡ 3 → bit b 0 ≡ false → code (0x20 + 8 * p) ≡ cond (eqb d.version 1 || not (eqb (pattern_at d p).transition 0)) 4 0
  mode-code z e o = mode-by ∙ ap (λ (v : Bool). cond v 4 0) (bits-later d.version b (pattern_at d p).handshake (pattern_at d p).transition z e o)

  -- the transition written last
  pub transition-code : code (0x26 + 8 * p) ≡ cond (is_priority (pattern_at d p) && not (eqb b 0)) 4 0
  transition-code = transition-by ∙ ap (λ (v : Bool). cond v 4 0) (transition-later d.version (pattern_at d p) _ b refl (later-none d s p l))
