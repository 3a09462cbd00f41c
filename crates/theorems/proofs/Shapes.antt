-- A record of the device's shape: three vectors, three ports, two patterns, two transfers, three counters, five sources. Every event keeps it.
-- Assumes nothing.
use Prim.Native.Nat.{ℕ, zero, suc}
use mathlib.Core.Path.{◌≡◌, refl, ◌∙◌}
use mathlib.Core.Bool.{Bool, true, false, not, ◌&&◌, cond}
use lib.Dec.{eqb}
use lib.ListN.{length, length-set}
use Rattle.rules.specs.declared.Source.{Source}
use Rattle.rules.specs.declared.Counter.{Counter}
use Rattle.rules.specs.declared.Port.{Port}
use Rattle.rules.specs.declared.Pattern.{Pattern}
use Rattle.rules.specs.declared.Transfer.{Transfer}
use Rattle.rules.specs.declared.Device.{Device}
use Rattle.rules.specs.declared.Counted.{Counted}
use Rattle.rules.specs.declared.Event.{Event}
use Rattle.rules.specs.declared.Answer.{Answer}
use Rattle.rules.specs.declared.Outcome.{Outcome}
use Rattle.rules.specs.declared.Effect.{Effect}
use Rattle.rules.specs.declared.Ran.{Ran}
use Rattle.rules.specs.declared.Link.{Link}
use Rattle.rules.specs.declared.Kind.{Kind}
use Rattle.rules.specs.declared.Kind.TheVariants.{Master, Config, Vector, Polarity, Direction, Special, PortCommand, CounterCommand}
use Rattle.rules.specs.declared.Kind.TheVariants.{Data, Current, Constant, CounterMode, CurrentVector, PortMode, Handshake, PatternPolarity, Transition, Mask, Absent}
use Rattle.basics.specs.Signs.{within}
use Rattle.basics.specs.Byte.{bit}
use Rattle.rules.specs.Record.{Shaped, pattern_at, transfer_at, fresh_of, vacant, of_port, of_counter, reset_of}
use Rattle.rules.specs.With.{with_master, with_vector, with_port, with_pattern, with_transfer, with_counter, with_source, with_iei, with_phase, with_lines}
use Rattle.rules.specs.Report.{no_report}
use Rattle.rules.specs.Registers.{reset, kind_of, port_enabled}
use Rattle.rules.specs.Interrupts.{lines_of, relined, acknowledged}
use Rattle.rules.specs.Step.{event_at, turned, counter_turn, catchers, matched_by, pattern_turn, settled, step_of, reported, clock_of, ran_of}
use Rattle.basics.specs.Iterate.{iterate}
use Rattle.rules.specs.Handshakes.{inputs, outputs, ackin_at}
use Rattle.rules.specs.Moves.{held_at, put_at, works_at, falls, taken_at, left_at, moves_at, moves_of, given_at, stored_at}
use Rattle.rules.specs.Access.{reads_byte, after_read, master_written, config_written, port_commanded, counter_commanded, data_written, written_of}
use Rattle.rules.specs.Events.{is_x, is_w, is_r, is_p, is_t, is_k, write_effect, read_effect, outside_set, pins_effect, clocks_effect, acknowledge_effect, iei_effect, effect_of, relit, outcome_of, event_of}
use Rattle.basics.proofs.Tests.{by-test}
use Rattle.theorems.proofs.Fates.{by-source}
use Rattle.theorems.proofs.Refusals.{ways}

-- the record with other parts, as many
shaped : (d e : Device) → Shaped d → length e.vectors ≡ length d.vectors → length e.ports ≡ length d.ports
    → length e.patterns ≡ length d.patterns → length e.transfers ≡ length d.transfers
    → length e.counters ≡ length d.counters → length e.sources ≡ length d.sources → Shaped e
shaped d e h v q p t c s =
    record {
      vectors = v ∙ h.vectors;
      ports = q ∙ h.ports;
      patterns = p ∙ h.patterns;
      transfers = t ∙ h.transfers;
      counters = c ∙ h.counters;
      sources = s ∙ h.sources;
    }

pub reset-shaped : (d : Device) → Shaped (reset_of d)
unfolding reset_of
reset-shaped d = record { vectors = refl; ports = refl; patterns = refl; transfers = refl; counters = refl; sources = refl }

pub fresh-shaped : Shaped fresh_of
fresh-shaped = record { vectors = refl; ports = refl; patterns = refl; transfers = refl; counters = refl; sources = refl }

module _ (d : Device) (h : Shaped d) where
  port-shaped : (p : ℕ) (q : Port) → Shaped (with_port d p q)
  port-shaped p q = shaped d (with_port d p q) h refl (length-set d.ports p q) refl refl refl refl

  pattern-shaped : (p : ℕ) (q : Pattern) → Shaped (with_pattern d p q)
  pattern-shaped p q = shaped d (with_pattern d p q) h refl refl (length-set d.patterns p q) refl refl refl

  transfer-shaped : (p : ℕ) (t : Transfer) → Shaped (with_transfer d p t)
  transfer-shaped p t = shaped d (with_transfer d p t) h refl refl refl (length-set d.transfers p t) refl refl

  counter-shaped : (i : ℕ) (c : Counter) → Shaped (with_counter d i c)
  counter-shaped i c = shaped d (with_counter d i c) h refl refl refl refl (length-set d.counters i c) refl

  source-shaped : (k : ℕ) (s : Source) → Shaped (with_source d k s)
  source-shaped k s = shaped d (with_source d k s) h refl refl refl refl refl (length-set d.sources k s)

  event-at-shaped : (k : ℕ) (hides happens : Bool) → Shaped (event_at d k hides happens)
  event-at-shaped k hides happens = by-source Shaped d k hides happens h (source-shaped k)

-- ---- a step
turned-shaped : (d : Device) (i : ℕ) (r : Counted) → Shaped d → Shaped (turned d i r).device
unfolding turned event_at
turned-shaped d i r h = event-at-shaped (with_counter d i r.counter) (counter-shaped d h i r.counter) (of_counter i) true r.terminal

pub counter-turn-shaped : (link : Link) (timer : Bool) (were are i : ℕ) (d : Device) → Shaped d → Shaped (counter_turn link timer were are i d).device
unfolding counter_turn
counter-turn-shaped link timer were are i d h = turned-shaped d i _ h

pub catchers-shaped : (d : Device) → Shaped d → Shaped (catchers d)
unfolding catchers
catchers-shaped d h = record { vectors = h.vectors; ports = refl; patterns = h.patterns; transfers = h.transfers; counters = h.counters; sources = h.sources }

pub pattern-turn-shaped : (p before : ℕ) (d : Device) → Shaped d → Shaped (pattern_turn p before d)
unfolding pattern_turn matched_by
pattern-turn-shaped p before d h = event-at-shaped (with_pattern d p _) (pattern-shaped d h p _) (of_port p) _ _

pub step-shaped : (timer : Bool) (d0 d1 : Device) → Shaped d1 → Shaped (step_of timer d0 d1).device
unfolding step_of settled
step-shaped timer d0 d1 h =
    pattern-turn-shaped 1 _ _
    (pattern-turn-shaped 0 _ _
    (catchers-shaped _
    (counter-turn-shaped _ timer _ _ 2 _ (counter-turn-shaped _ timer _ _ 1 _ (counter-turn-shaped _ timer _ _ 0 d1 h)))))

-- ---- the clock
pub phase-shaped : (d : Device) (v : Bool) → Shaped d → Shaped (with_phase d v)
phase-shaped d v h = shaped d (with_phase d v) h refl refl refl refl refl refl

pub clock-shaped : (s : Ran) → Shaped s.device → Shaped (clock_of s).device
unfolding clock_of reported
clock-shaped s h =
    let d = s.device in
    let stepped = reported s.report (step_of true d (with_phase d false)) in
    let flipped : Ran = record { device = with_phase d true; report = s.report } in
    by-test (λ (r : Ran). Shaped r.device) (reset d) s (cond d.phase stepped flipped) (λ _. h)
    (λ _.
    by-test (λ (r : Ran). Shaped r.device) d.phase stepped flipped
    (λ _. step-shaped true d (with_phase d false) (phase-shaped d false h)) (λ _. phase-shaped d true h))

pub clocks-shaped : (n : ℕ) (s : Ran) → Shaped s.device → Shaped (iterate n clock_of s).device
unfolding iterate
clocks-shaped zero s h = h
clocks-shaped (suc n) s h = clock-shaped (iterate n clock_of s) (clocks-shaped n s h)

pub ran-shaped : (n : ℕ) (d : Device) → Shaped d → Shaped (ran_of n d).device
unfolding ran_of
ran-shaped n d h = clocks-shaped n (record { device = d; report = no_report }) h

-- ---- bytes that move
-- one is put out, or not
put-shaped : (d : Device) (p : ℕ) (puts : Bool) (b : ℕ) → Shaped d → Shaped (cond puts (put_at d p b) d)
unfolding put_at
put-shaped d p true b h = port-shaped d h p _
put-shaped d p false b h = h

module _ (d : Device) (h : Shaped d) (p : ℕ) where
  taken-shaped : Shaped (taken_at d p)
  unfolding taken_at held_at
  taken-shaped = source-shaped (with_transfer d p _) (transfer-shaped d h p _) (of_port p) _

  left-shaped : Shaped (left_at d p)
  unfolding left_at held_at
  left-shaped =
      let two = eqb (transfer_at d p).bytes 2 in
      let e = cond two (put_at d p (transfer_at d p).behind) d in
      source-shaped (with_transfer e p _) (transfer-shaped e (put-shaped d p two (transfer_at d p).behind h) p _) (of_port p) _

  given-shaped : Shaped (given_at d p)
  unfolding given_at held_at
  given-shaped = source-shaped (with_transfer d p _) (transfer-shaped d h p _) (of_port p) _

  stored-shaped : (b : ℕ) → Shaped (stored_at d p b)
  unfolding stored_at held_at
  stored-shaped b =
      let none = eqb (transfer_at d p).bytes 0 in
      let e = cond none (put_at d p b) d in
      source-shaped (with_transfer e p _) (transfer-shaped e (put-shaped d p none b h) p _) (of_port p) _

pub moves-at-shaped : (p : ℕ) (d0 d : Device) → Shaped d → Shaped (moves_at p d0 d)
unfolding moves_at
moves-at-shaped p d0 d h =
    by-test Shaped (falls d0 d p) _ _ (λ _. by-test Shaped (inputs (pattern_at d p)) _ _ (λ _. taken-shaped d h p) (λ _. left-shaped d h p))
    (λ _. by-test Shaped (works_at d p && ackin_at d p) _ _ (λ _. transfer-shaped d h p _) (λ _. h))

pub moves-shaped : (d0 d : Device) → Shaped d → Shaped (moves_of d0 d)
unfolding moves_of
moves-shaped d0 d h = moves-at-shaped 1 d0 _ (moves-at-shaped 0 d0 d h)

-- ---- the lines worked out
pub relined-shaped : (d : Device) → Shaped d → Shaped (relined d)
unfolding relined
relined-shaped d h = shaped d (with_lines d (lines_of d)) h refl refl refl refl refl refl

-- ---- the other events
module _ (d : Device) (h : Shaped d) where
  pub written-shaped : (k : Kind) (b : ℕ) → Shaped (written_of d k b)
  unfolding written_of master_written config_written port_commanded counter_commanded data_written
  written-shaped Master b =
      by-test Shaped (bit b 0) (reset_of d) (with_master d b) (λ _. reset-shaped d)
      (λ _. shaped d (with_master d b) h refl refl refl refl refl refl)
  written-shaped Config b =
      record { vectors = h.vectors; ports = h.ports; patterns = h.patterns; transfers = refl; counters = refl; sources = h.sources }
  written-shaped (Vector v) b = shaped d (with_vector d v b) h (length-set d.vectors v b) refl refl refl refl refl
  written-shaped (Polarity p) b = port-shaped d h p _
  written-shaped (Direction p) b = port-shaped d h p _
  written-shaped (Special p) b = port-shaped d h p _
  written-shaped (PortCommand p) b =
      let e = with_pattern d p _ in
      let f = with_source e (of_port p) _ in
      transfer-shaped f (source-shaped e (pattern-shaped d h p _) (of_port p) _) p _
  written-shaped (CounterCommand i) b = source-shaped (with_counter d i _) (counter-shaped d h i _) (of_counter i) _
  written-shaped (Data p) b =
      by-test Shaped (outputs (pattern_at d p) && port_enabled d p) _ _ (λ _. stored-shaped d h p b) (λ _. port-shaped d h p _)
  written-shaped (Current i high) b = h
  written-shaped (Constant i high) b = counter-shaped d h i _
  written-shaped (CounterMode i) b = counter-shaped d h i _
  written-shaped CurrentVector b = h
  written-shaped (PortMode p) b = transfer-shaped (with_pattern d p _) (pattern-shaped d h p _) p vacant
  written-shaped (Handshake p) b = transfer-shaped (with_pattern d p _) (pattern-shaped d h p _) p vacant
  written-shaped (PatternPolarity p) b = pattern-shaped d h p _
  written-shaped (Transition p) b = pattern-shaped d h p _
  written-shaped (Mask p) b = pattern-shaped d h p _
  written-shaped Absent b = h

  read-shaped : (a : ℕ) → Shaped (after_read d a)
  unfolding after_read
  read-shaped a =
      by-test Shaped (within 0x10 0x15 a && bit a 0) _ _ (λ _. counter-shaped d h _ _)
      (λ _. by-test Shaped (reads_byte d a) _ d (λ _. given-shaped d h _) (λ _. h))

  pub outside-shaped : (a b c : ℕ) → Shaped (outside_set d a b c)
  unfolding outside_set
  outside-shaped a b c = record { vectors = h.vectors; ports = refl; patterns = h.patterns; transfers = h.transfers; counters = h.counters; sources = h.sources }

  acknowledged-shaped : Shaped (acknowledged d)
  unfolding acknowledged
  acknowledged-shaped = source-shaped d h _ _

  effect-shaped : (e : Event) → Shaped (effect_of d e).device
  unfolding effect_of write_effect read_effect pins_effect clocks_effect acknowledge_effect iei_effect
  effect-shaped e =
      by-test (λ (r : Effect). Shaped r.device) (is_x e) _ _ (λ _. reset-shaped d)
      (λ _.
      by-test (λ (r : Effect). Shaped r.device) (is_w e) _ _
      (λ _.
      by-test (λ (r : Effect). Shaped r.device) (reset d && not (eqb e.a 0)) _ _ (λ _. h)
      (λ _. step-shaped false d _ (moves-shaped d _ (written-shaped (kind_of e.a) e.b))))
      (λ _.
      by-test (λ (r : Effect). Shaped r.device) (is_r e) _ _
      (λ _. by-test (λ (r : Effect). Shaped r.device) (reset d && not (eqb e.a 0)) _ _ (λ _. h) (λ _. read-shaped e.a))
      (λ _.
      by-test (λ (r : Effect). Shaped r.device) (is_p e) _ _ (λ _. step-shaped false d _ (moves-shaped d _ (outside-shaped e.a e.b e.c)))
      (λ _.
      by-test (λ (r : Effect). Shaped r.device) (is_t e) _ _ (λ _. ran-shaped e.a d h)
      (λ _.
      by-test (λ (r : Effect). Shaped r.device) (is_k e) _ _ (λ _. acknowledged-shaped)
      (λ _. shaped d (with_iei d _) h refl refl refl refl refl refl))))))

  pub event-shaped : (e : Event) → Shaped (event_of d e).device
  unfolding outcome_of relit
  event-shaped e = ways d e (λ (o : Outcome Device Answer). Shaped o.device) (λ _. h) (λ _. relined-shaped _ (effect-shaped e)) (λ _. h)
