-- A change of the record that a counter's turn does not see, and that leaves counters and sources as they are, may as well be made after
-- the step, if so it may after (e) and (f).
-- Assumes nothing.
use Prim.Native.Nat.{ℕ, ◌%◌}
use mathlib.Core.Path.{◌≡◌, ap, ◌∙◌}
use mathlib.Core.Bool.{Bool, true}
use mathlib.Core.List.{List, [], ◌∷◌}
use lib.ListN.{get_or}
use Rattle.rules.specs.declared.Device.{Device}
use Rattle.rules.specs.declared.Counter.{Counter}
use Rattle.rules.specs.declared.Counted.{Counted}
use Rattle.rules.specs.declared.Source.{Source}
use Rattle.rules.specs.declared.Link.{Link}
use Rattle.rules.specs.declared.Turned.{Turned}
use Rattle.rules.specs.declared.Stepped.{Stepped}
use Rattle.rules.specs.Record.{counter_at, idle, quiet, of_counter}
use Rattle.rules.specs.With.{with_counter, with_source}
use Rattle.rules.specs.Registers.{counter_on}
use Rattle.rules.specs.PortData.{seen_at}
use Rattle.rules.specs.Counters.{output_of, unlinked, link_of, reach_of, turn_of}
use Rattle.rules.specs.Interrupts.{fate_of, after_fate, came, was_lost}
use Rattle.rules.specs.Step.{lines_at, turned, counter_turn, settled, step_of}
use Rattle.theorems.proofs.Fates.{fate-apart}
use Rattle.theorems.proofs.Frame.{Frame, frame-turn, frame-trans}

-- what g does to the record of a turn, and of a step
abbrev turn_with : (Device → Device) → Turned → Turned
turn_with g t = record { device = g t.device; fate = t.fate }

abbrev pub step_with : (Device → Device) → Stepped → Stepped
step_with g s = record { device = g s.device; terminals = s.terminals; lost = s.lost }

-- a change that keeps what the counters' turns look at, and leaves their stores to come before or after it
pub record Aside (g : Device → Device) : Type 0 where
  pub version : (d : Device) → (g d).version ≡ d.version
  pub config : (d : Device) → (g d).config ≡ d.config
  pub counters : (d : Device) → (g d).counters ≡ d.counters
  pub sources : (d : Device) → (g d).sources ≡ d.sources
  pub counted : (d : Device) (i : ℕ) (c : Counter) → with_counter (g d) i c ≡ g (with_counter d i c)
  pub sourced : (d : Device) (k : ℕ) (s : Source) → with_source (g d) k s ≡ g (with_source d k s)

module _ (g : Device → Device) (h : Aside g) where
  turned_apart : (d : Device) (i : ℕ) (r : Counted) → turned (g d) i r ≡ turn_with g (turned d i r)
  unfolding turned
  turned_apart d i r =
      let k = of_counter i in
      let f : List Source → _ = λ l. fate_of true r.terminal (get_or l k quiet) in
      (λ t. record { device = after_fate (h.counted d i r.counter t) k (f (h.sources d t)); fate = f (h.sources d t) })
      ∙ ap (λ (e : Device). record { device = e; fate = f d.sources }) (fate-apart g h.sources h.sourced (with_counter d i r.counter) k (f d.sources))

  turn-apart : (k : Link) (timer : Bool) (were are i : ℕ) (d : Device) → counter_turn k timer were are i (g d) ≡ turn_with g (counter_turn k timer were are i d)
  unfolding counter_turn
  turn-apart k timer were are i d =
      let c : List Counter → Counter = λ l. get_or l i idle in
      (λ t.
      turned (g d) i
      (turn_of (h.version d t) (counter_on (h.config d t) i) (reach_of (c (h.counters d t)) k timer were are) (c (h.counters d t))))
      ∙ turned_apart d i _

  -- ---- a step, turn by turn; d1 is the record after (a)
  module _ (timer : Bool) (d0 d1 : Device) where
    -- the step of e, with the version, configuration and lines of d1
    module _ (version config : ℕ) (are : ℕ → ℕ) where
      abbrev link : Turned → Link
      link b = link_of (config % 4) (output_of d0.version (counter_at d0 0)) (output_of version (counter_at b.device 0))

      abbrev first : Device → Turned
      first e = counter_turn unlinked timer (lines_at d0 0) (are 0) 0 e

      abbrev second : Turned → Turned
      second b = counter_turn (link b) timer (lines_at d0 1) (are 1) 1 b.device

      abbrev third : Turned → Turned
      third c = counter_turn unlinked timer (lines_at d0 2) (are 2) 2 c.device

      abbrev stepped : Turned → Turned → Turned → Device → Stepped
      stepped b c d e =
          record {
            device = e;
            terminals = came b.fate ∷ came c.fate ∷ came d.fate ∷ [];
            lost = was_lost b.fate ∷ was_lost c.fate ∷ was_lost d.fate ∷ [];
          }

      abbrev settle : Device → Device
      settle d = settled (seen_at d0 0) (seen_at d0 1) d

      abbrev from : Turned → Turned → Turned → Stepped
      from b c d = stepped b c d (settle d.device)

      steps : Device → Stepped
      steps e = from (first e) (second (first e)) (third (second (first e)))

      second-apart : (b : Turned) → second (turn_with g b) ≡ turn_with g (second b)
      second-apart b =
          ap (λ (l : List Counter). counter_turn (link_of (config % 4) (output_of d0.version (counter_at d0 0)) (output_of version (get_or l 0 idle))) timer (lines_at d0 1) (are 1) 1 (g b.device))
          (h.counters b.device)
          ∙ turn-apart (link b) timer _ _ 1 b.device

      steps_apart : (e : Device) → settle (g (third (second (first e))).device) ≡ g (settle (third (second (first e))).device) → steps (g e) ≡ step_with g (steps e)
      unfolding steps
      steps_apart e s =
          let b = first e in
          let c = second b in
          ap (λ (t : Turned). from t (second t) (third (second t))) (turn-apart unlinked timer _ _ 0 e)
          ∙ ap (λ (t : Turned). from (turn_with g b) t (third t)) (second-apart b)
          ∙ ap (λ (t : Turned). from b c t) (turn-apart unlinked timer _ _ 2 c.device)
          ∙ ap (stepped b c (third c)) s

    pub step-apart : ((i : ℕ) → lines_at (g d1) i ≡ lines_at d1 i)
        → ((e : Device) → Frame d1 e → settled (seen_at d0 0) (seen_at d0 1) (g e) ≡ g (settled (seen_at d0 0) (seen_at d0 1) e))
        → step_of timer d0 (g d1) ≡ step_with g (step_of timer d0 d1)
    unfolding step_of steps
    step-apart lines s =
        (λ t. steps (h.version d1 t) (h.config d1 t) (λ i. lines i t) (g d1))
        ∙ steps_apart d1.version d1.config (lines_at d1) d1
        (s _ (frame-trans (frame-trans (frame-turn _ timer _ _ 0 d1) (frame-turn _ timer _ _ 1 _)) (frame-turn _ timer _ _ 2 _)))
