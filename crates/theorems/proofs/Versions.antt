-- Paper 02, W-205: every event keeps the version, a reset too; and what a sound record of version 1 has not.
-- Assumes nothing.
use Prim.Native.Nat.{ℕ, ◌+◌, ◌*◌, ◌/◌, ◌<◌}
use mathlib.Core.Path.{◌≡◌, refl, ap, subst, ◌∙◌}
use mathlib.Core.Bool.{Bool, true, false, not, ◌&&◌, ◌||◌, So}
use mathlib.Core.List.{List}
use native.Mathlib.Omega.{arith}
use lib.Dec.{eqb}
use borrow.Author.Tests.{lt-ltb, ltb-false, le-ltb, ne_eqb}
use Rattle.rules.specs.declared.Device.{Device}
use Rattle.rules.specs.declared.Event.{Event}
use Rattle.rules.specs.declared.Effect.{Effect}
use Rattle.rules.specs.declared.Answer.{Answer}
use Rattle.rules.specs.declared.Outcome.{Outcome}
use Rattle.rules.specs.declared.Kind.{Kind}
use Rattle.rules.specs.declared.Kind.TheVariants.{Master, Config, Vector, Polarity, Direction, Special, PortCommand, CounterCommand}
use Rattle.rules.specs.declared.Kind.TheVariants.{Data, Current, Constant, CounterMode, CurrentVector, PortMode, Handshake, PatternPolarity, Transition, Mask, Absent}
use Rattle.basics.specs.Signs.{within}
use Rattle.basics.specs.Byte.{bit}
use Rattle.rules.specs.Record.{pattern_at, transfer_at, counter_at, reset_of, fresh_of}
use Rattle.rules.specs.With.{with_master, with_phase}
use Rattle.rules.specs.Registers.{reset, kind_of, port_enabled, read_only, later_port_mode, later}
use Rattle.rules.specs.Handshakes.{inputs, outputs, handshakes, ackin_at}
use Rattle.rules.specs.Step.{step_of, ran_of}
use Rattle.rules.specs.Interrupts.{relined, acknowledged}
use Rattle.rules.specs.Moves.{held_at, put_at, works_at, falls, taken_at, left_at, moves_at, moves_of, given_at, stored_at}
use Rattle.rules.specs.Access.{reads_byte, writes_byte, after_read, master_written, config_written, port_commanded, counter_commanded, data_written, written_of}
use Rattle.rules.specs.Sound.{sound_of}
use Rattle.rules.specs.Events.{is_x, is_w, is_r, is_p, is_t, is_k, unknown, no_register, too_large, held, no_byte, no_room, code_of}
use Rattle.rules.specs.Events.{write_effect, read_effect, outside_set, pins_effect, clocks_effect, acknowledge_effect, iei_effect, effect_of, relit, outcome_of, event_of}
use Rattle.basics.proofs.Tests.{left, never, by-test}
use Rattle.basics.proofs.Places.{each2}
use Rattle.basics.proofs.Runs.{list-kept}
use Rattle.theorems.specs.Traces.{next_of, record_after}
use Rattle.theorems.specs.Used.{of}
use Rattle.theorems.proofs.Clauses.{sound-parts}
use Rattle.theorems.proofs.Refusals.{ways, code_is}
use Rattle.theorems.proofs.Frame.{frame_step}
use Rattle.theorems.proofs.Reports.{ran-keeps}

-- fresh devices are of version 2
pub fresh-version : fresh_of.version ≡ 2
fresh-version = refl

-- ---- the clock
pub ran-version : (n : ℕ) (d : Device) → (ran_of n d).device.version ≡ d.version
ran-version n d = ran-keeps (λ (e : Device). e.version) (λ e v. refl) (λ e. (frame_step true e (with_phase e false)).version) n d

-- ---- the other events: all have the version of d
module _ (d : Device) where
  abbrev Kept : Device → Type 0
  Kept e = e.version ≡ d.version

  moves-at : (p : ℕ) (d0 e : Device) → Kept e → Kept (moves_at p d0 e)
  unfolding moves_at taken_at left_at held_at put_at
  moves-at p d0 e h =
      let t = transfer_at e p in
      by-test Kept (falls d0 e p) _ _
      (λ _. by-test Kept (inputs (pattern_at e p)) _ _ (λ _. h) (λ _. by-test Kept (eqb t.bytes 2) (put_at e p t.behind) e (λ _. h) (λ _. h)))
      (λ _. by-test Kept (works_at e p && ackin_at e p) _ e (λ _. h) (λ _. h))

  -- (a), with its moves, and the step
  moved : (e : Device) → Kept e → Kept (step_of false d (moves_of d e)).device
  unfolding moves_of
  moved e h = (frame_step false d (moves_of d e)).version ∙ moves-at 1 d (moves_at 0 d e) (moves-at 0 d e h)

  written : (k : Kind) (b : ℕ) → Kept (written_of d k b)
  unfolding written_of master_written reset_of config_written port_commanded counter_commanded data_written stored_at held_at put_at
  written Master b = by-test Kept (bit b 0) (reset_of d) (with_master d b) (λ _. refl) (λ _. refl)
  written Config b = refl
  written (Vector v) b = refl
  written (Polarity p) b = refl
  written (Direction p) b = refl
  written (Special p) b = refl
  written (PortCommand p) b = refl
  written (CounterCommand i) b = refl
  written (Data p) b =
      by-test Kept (outputs (pattern_at d p) && port_enabled d p) _ _
      (λ _. by-test Kept (eqb (transfer_at d p).bytes 0) (put_at d p b) d (λ _. refl) (λ _. refl)) (λ _. refl)
  written (Current i high) b = refl
  written (Constant i high) b = refl
  written (CounterMode i) b = refl
  written CurrentVector b = refl
  written (PortMode p) b = refl
  written (Handshake p) b = refl
  written (PatternPolarity p) b = refl
  written (Transition p) b = refl
  written (Mask p) b = refl
  written Absent b = refl

  after_read_lem : (a : ℕ) → Kept (after_read d a)
  unfolding after_read given_at held_at
  after_read_lem a =
      by-test Kept (within 0x10 0x15 a && bit a 0) _ _ (λ _. refl) (λ _. by-test Kept (reads_byte d a) _ d (λ _. refl) (λ _. refl))

  abbrev KeptBy : Effect → Type 0
  KeptBy r = Kept r.device

  effect-kept : (e : Event) → KeptBy (effect_of d e)
  unfolding effect_of reset_of write_effect read_effect pins_effect outside_set clocks_effect acknowledge_effect acknowledged iei_effect
  effect-kept e =
      by-test KeptBy (is_x e) _ _ (λ _. refl)
      (λ _.
      by-test KeptBy (is_w e) _ _
      (λ _. by-test KeptBy (reset d && not (eqb e.a 0)) _ _ (λ _. refl) (λ _. moved (written_of d (kind_of e.a) e.b) (written (kind_of e.a) e.b)))
      (λ _.
      by-test KeptBy (is_r e) _ _ (λ _. by-test KeptBy (reset d && not (eqb e.a 0)) _ _ (λ _. refl) (λ _. after_read_lem e.a))
      (λ _.
      by-test KeptBy (is_p e) _ _ (λ _. moved (outside_set d e.a e.b e.c) refl)
      (λ _. by-test KeptBy (is_t e) _ _ (λ _. ran-version e.a d) (λ _. by-test KeptBy (is_k e) _ _ (λ _. refl) (λ _. refl))))))

-- ---- every event keeps the version, whatever the record
pub version-kept : (d : Device) (e : Event) → (event_of d e).device.version ≡ d.version
unfolding outcome_of relit relined
version-kept d e = ways d e (λ (o : Outcome Device Answer). o.device.version ≡ d.version) (λ _. refl) (λ _. effect-kept d e) (λ _. refl)

-- and so do any events, one after another
pub list-version : (d : Device) (l : List Event) → (record_after d l).version ≡ d.version
list-version d l = list-kept next_of (λ (e : Device). e.version ≡ d.version) (λ e x q. version-kept e x ∙ q) d l refl

-- ---- a sound device of version 1 has no pulse and no port with handshake
no-pulse-by : (v e b : Bool) → (So b → So (v && e)) → v ≡ false → b ≡ false
no-pulse-by v e true f z = never z (left v e (f refl))
no-pulse-by v e false f z = refl

pub no-pulse : (d : Device) (i : ℕ) → i < 3 → sound_of d ≡ true → d.version ≡ 1 → (counter_at d i).pulse ≡ false
no-pulse d i h s v = no-pulse-by (eqb d.version 2) _ _ ((sound-parts d s).base.counters i h).pulse (ap (λ (n : ℕ). eqb n 2) v)

none_of : (a b : Bool) → (a || b) ≡ false → a ≡ false
none_of true b h = h
none_of false b h = refl

no-handshake-by : (n m : ℕ) (b c : Bool) → (later_port_mode n m || b || c) ≡ false → n ≡ 1 → (eqb (m / 64) 1 || eqb (m / 64) 2) ≡ false
unfolding later_port_mode
no-handshake-by n m b c h v =
    let l = ltb-false 0 (m / 64) (none_of _ _ (none_of _ _ (none_of _ b (none_of _ c (subst (λ (n : ℕ). (later_port_mode n m || b || c) ≡ false) v h))))) in
    simp (ne_eqb (m / 64) 1 (λ e. omega arith), ne_eqb (m / 64) 2 (λ e. omega arith))

pub no-handshake : (d : Device) (p : ℕ) → p < 2 → sound_of d ≡ true → d.version ≡ 1 → handshakes (pattern_at d p) ≡ false
no-handshake d p h s v = no-handshake-by d.version _ _ _ ((sound-parts d s).base.modes p h) v

-- and refuses to have one: W 20H or 28H with D7-D6 not 00 is refused with 4
pub handshake-refused : (d : Device) (p b : ℕ) → p < 2 → b < 256 → 0 < b / 64 → d.version ≡ 1 → reset d ≡ false → sound_of d ≡ true
    → (event_of d (of 1 (0x20 + 8 * p) b 0)).answer.code ≡ 4
unfolding code_of unknown no_register too_large held no_byte no_room writes_byte later later_port_mode read_only
handshake-refused d p b h l m v r s =
    let small = le-ltb 255 b (omega arith) in
    code_is d _ ∙ each2 (λ p. code_of d (of 1 (0x20 + 8 * p) b 0) ≡ 4) (simp (s, small, r, v, lt-ltb 0 (b / 64) m)) (simp (s, small, r, v, lt-ltb 0 (b / 64) m)) p h
