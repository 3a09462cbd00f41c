-- A timer clock at a free-running counter is one count of it.
-- Assumes nothing.
use Prim.Native.Nat.{ℕ, zero, suc, ◌<◌}
use mathlib.Core.Path.{◌≡◌, refl, ap, ap₂, ◌∙◌}
use mathlib.Core.Bool.{Bool, true, false, not, ◌||◌, and-false, not-and_self, false≢true}
use mathlib.Core.List.{List, [], ◌∷◌}
use native.Mathlib.Omega.{arith}
use lib.Dec.{eqb}
use lib.ListN.{get_or, set, length}
use lib.Seq.{get_or-set_same, get_or-set_other, lt-length-set}
use Rattle.rules.specs.declared.Device.{Device}
use Rattle.rules.specs.declared.Counter.{Counter}
use Rattle.rules.specs.declared.Counted.{Counted}
use Rattle.rules.specs.declared.Link.{Link}
use Rattle.rules.specs.declared.Turned.{Turned}
use Rattle.basics.specs.Byte.{bit}
use Rattle.rules.specs.Record.{counter_at, source_at, idle, of_counter}
use Rattle.rules.specs.With.{with_count, with_half, with_pulse, with_phase}
use Rattle.rules.specs.Registers.{counter_on, counter_enabled, lc}
use Rattle.rules.specs.PortData.{seen_at}
use Rattle.rules.specs.Counters.{continuous, square, count_input, gate_input, less_one, terminal_of, count_of, output_of, unlinked, link_of, reach_of, clocks, clocked_by, turn_of}
use Rattle.rules.specs.Step.{lines_at, turned, counter_turn, step_of}
use Rattle.theorems.specs.Free.{Free}
use Rattle.theorems.proofs.Fates.{came-is}
use Rattle.theorems.proofs.Frame.{Frame, frame-refl, frame-trans, frame-turn, turn_at, turn-counters, settled-counters}
use Rattle.theorems.proofs.Lines.{lines-phase}

-- ---- one count of a continuous counter that is not square
module _ (n : ℕ) (c : Counter) (con : continuous c ≡ true) (sq : square c ≡ false) where
  pub count-last : eqb (less_one 65536 c.count) 0 ≡ true
      → count_of n c ≡ record { counter = with_pulse (with_half (with_count c c.constant) false) (eqb n 2); terminal = true }
  unfolding count_of terminal_of
  count-last e = simp (e, con, sq)

  pub count-more : eqb (less_one 65536 c.count) 0 ≡ false
      → count_of n c ≡ record { counter = with_pulse (with_count c (less_one 65536 c.count)) false; terminal = false }
  unfolding count_of
  count-more e = simp e

-- ---- a turn that is a count: nothing triggers, the gate is open, and the clock counts
abbrev IsClear : Link → Type 0
IsClear k = (k.trigger ≡ false) × (k.gate ≡ true) × (k.only ≡ false)

turn-count : (n : ℕ) (c : Counter) (k : Link) (w : ℕ) → IsClear k → c.cip ≡ true → c.gcb ≡ true
    → (not (gate_input c) || bit w 3) ≡ true → count_input c ≡ false → turn_of n true (reach_of c k true w w) c ≡ count_of n c
unfolding turn_of reach_of clocks clocked_by
turn-count n c k w u cip gcb gate off = simp (u.0, u.1, u.2, cip, gcb, gate, off, not-and_self, and-false)

-- ---- a timer clock, turn by turn
abbrev pub low : Device → Device
low d = with_phase d false

abbrev pub turn1 : Device → Turned
turn1 d = counter_turn unlinked true (lines_at d 0) (lines_at (low d) 0) 0 (low d)

abbrev pub link2 : Device → Link
link2 d = link_of (lc (low d)) (output_of d.version (counter_at d 0)) (output_of d.version (counter_at (turn1 d).device 0))

abbrev pub turn2 : Device → Turned
turn2 d = counter_turn (link2 d) true (lines_at d 1) (lines_at (low d) 1) 1 (turn1 d).device

abbrev pub turn3 : Device → Turned
turn3 d = counter_turn unlinked true (lines_at d 2) (lines_at (low d) 2) 2 (turn2 d).device

-- what the turn of counter i gives in the device e, in a timer clock of d
abbrev pub given : Device → ℕ → Link → Device → Counted
given d i k e = turn_at k true (lines_at d i) (lines_at (low d) i) i e

pub clock-counters : (d : Device) → (step_of true d (low d)).device.counters
    ≡ set (set (set d.counters 0 (given d 0 unlinked (low d)).counter) 1 (given d 1 (link2 d) (turn1 d).device).counter) 2 (given d 2 unlinked (turn2 d).device).counter
unfolding step_of
clock-counters d =
    settled-counters (seen_at d 0) (seen_at d 1) (turn3 d).device
    ∙ turn-counters unlinked true (lines_at d 2) (lines_at (low d) 2) 2 (turn2 d).device
    ∙ ap (λ (l : List Counter). set l 2 (given d 2 unlinked (turn2 d).device).counter)
    (turn-counters (link2 d) true (lines_at d 1) (lines_at (low d) 1) 1 (turn1 d).device
    ∙ ap (λ (l : List Counter). set l 1 (given d 1 (link2 d) (turn1 d).device).counter)
    (turn-counters unlinked true (lines_at d 0) (lines_at (low d) 0) 0 (low d)))

pub clock-terminals : (d : Device) → (step_of true d (low d)).terminals
    ≡ (given d 0 unlinked (low d)).terminal ∷ (given d 1 (link2 d) (turn1 d).device).terminal ∷ (given d 2 unlinked (turn2 d).device).terminal ∷ []
unfolding step_of counter_turn turned
clock-terminals d =
    λ i.
    came-is true (given d 0 unlinked (low d)).terminal (source_at d (of_counter 0)) i
    ∷ came-is true (given d 1 (link2 d) (turn1 d).device).terminal (source_at (turn1 d).device (of_counter 1)) i
    ∷ came-is true (given d 2 unlinked (turn2 d).device).terminal (source_at (turn2 d).device (of_counter 2)) i
    ∷ []

-- each turn finds its counter as it was
pub second-there : (d : Device) → counter_at (turn1 d).device 1 ≡ counter_at d 1
second-there d =
    ap (λ (l : List Counter). get_or l 1 idle) (turn-counters unlinked true (lines_at d 0) (lines_at (low d) 0) 0 (low d))
    ∙ get_or-set_other d.counters 0 1 _ idle (λ e. omega arith)

pub third-there : (d : Device) → counter_at (turn2 d).device 2 ≡ counter_at d 2
third-there d =
    ap (λ (l : List Counter). get_or l 2 idle) (turn-counters (link2 d) true (lines_at d 1) (lines_at (low d) 1) 1 (turn1 d).device)
    ∙ get_or-set_other (turn1 d).device.counters 1 2 _ idle (λ e. omega arith)
    ∙ ap (λ (l : List Counter). get_or l 2 idle) (turn-counters unlinked true (lines_at d 0) (lines_at (low d) 0) 0 (low d))
    ∙ get_or-set_other d.counters 0 2 _ idle (λ e. omega arith)

-- the elements of three in a row
module _ (l : List Counter) (a b c : Counter) where
  in-first : 0 < length l → get_or (set (set (set l 0 a) 1 b) 2 c) 0 idle ≡ a
  in-first h =
      get_or-set_other (set (set l 0 a) 1 b) 2 0 c idle (λ e. omega arith) ∙ get_or-set_other (set l 0 a) 1 0 b idle (λ e. omega arith)
      ∙ get_or-set_same l 0 a idle h

  in-second : 1 < length l → get_or (set (set (set l 0 a) 1 b) 2 c) 1 idle ≡ b
  in-second h =
      get_or-set_other (set (set l 0 a) 1 b) 2 1 c idle (λ e. omega arith) ∙ get_or-set_same (set l 0 a) 1 b idle (lt-length-set l 0 a h)

  in-third : 2 < length l → get_or (set (set (set l 0 a) 1 b) 2 c) 2 idle ≡ c
  in-third h = get_or-set_same (set (set l 0 a) 1 b) 2 c idle (lt-length-set (set l 0 a) 1 b (lt-length-set l 0 a h))

there : (l : List Counter) (i : ℕ) → (get_or l i idle).cip ≡ true → i < length l
there [] i e = absurd (false≢true e)
there (c ∷ l) zero e = omega arith
there (c ∷ l) (suc i) e = omega (arith, there l i e)

-- ---- at a free-running counter
module _ (d : Device) (i : ℕ) (free : Free d i) where
  turn-free : (k : Link) (e : Device) → IsClear k → Frame (low d) e → counter_at e i ≡ counter_at d i → given d i k e ≡ count_of d.version (counter_at d i)
  turn-free k e u f q =
      ap (λ (c : Counter). turn_of e.version (counter_enabled e i) (reach_of c k true (lines_at d i) (lines_at (low d) i)) c) q
      ∙ ap (λ (w : ℕ). turn_of e.version (counter_enabled e i) (reach_of (counter_at d i) k true (lines_at d i) w) (counter_at d i)) (lines-phase d false i)
      ∙ ap₂ (λ (n : ℕ) (v : Bool). turn_of n v (reach_of (counter_at d i) k true (lines_at d i) (lines_at d i)) (counter_at d i)) f.version
      (ap (λ (b : ℕ). counter_on b i) f.config ∙ free.enabled)
      ∙ turn-count d.version (counter_at d i) k (lines_at d i) u free.cip free.gcb free.gate free.clocked

-- a link under LC 00
link-clear : (d : Device) → lc d ≡ 0 → IsClear (link2 d)
unfolding link_of
link-clear d e = (simp e, simp e, simp e)

-- the three turns, and what they leave at each place
abbrev none : Counted
none = record { counter = idle; terminal = false }

abbrev turns_of : Device → List Counted
turns_of d = given d 0 unlinked (low d) ∷ given d 1 (link2 d) (turn1 d).device ∷ given d 2 unlinked (turn2 d).device ∷ []

counter_at_lem : (d : Device) (i : ℕ) → i < 3 → i < length d.counters → counter_at (step_of true d (low d)).device i ≡ (get_or (turns_of d) i none).counter
counter_at_lem d zero h l = ap (λ (m : List Counter). get_or m 0 idle) (clock-counters d) ∙ in-first d.counters _ _ _ l
counter_at_lem d (suc zero) h l = ap (λ (m : List Counter). get_or m 1 idle) (clock-counters d) ∙ in-second d.counters _ _ _ l
counter_at_lem d (suc (suc zero)) h l = ap (λ (m : List Counter). get_or m 2 idle) (clock-counters d) ∙ in-third d.counters _ _ _ l
counter_at_lem d (suc (suc (suc i))) h l = absurd (omega arith)

terminal-at : (d : Device) (i : ℕ) → i < 3 → get_or (step_of true d (low d)).terminals i false ≡ (get_or (turns_of d) i none).terminal
terminal-at d zero h = ap (λ (l : List Bool). get_or l 0 false) (clock-terminals d)
terminal-at d (suc zero) h = ap (λ (l : List Bool). get_or l 1 false) (clock-terminals d)
terminal-at d (suc (suc zero)) h = ap (λ (l : List Bool). get_or l 2 false) (clock-terminals d)
terminal-at d (suc (suc (suc i))) h = absurd (omega arith)

-- a free-running counter's turn is a count
free-turn : (d : Device) (i : ℕ) → i < 3 → Free d i → get_or (turns_of d) i none ≡ count_of d.version (counter_at d i)
free-turn d zero h free = turn-free d 0 free unlinked (low d) (refl, refl, refl) (frame-refl (low d)) refl
free-turn d (suc zero) h free =
    let f = frame-turn unlinked true (lines_at d 0) (lines_at (low d) 0) 0 (low d) in
    turn-free d 1 free (link2 d) (turn1 d).device (link-clear d (free.unlinked refl)) f (second-there d)
free-turn d (suc (suc zero)) h free =
    let f = frame-turn unlinked true (lines_at d 0) (lines_at (low d) 0) 0 (low d) in
    let g = frame-turn (link2 d) true (lines_at d 1) (lines_at (low d) 1) 1 (turn1 d).device in
    turn-free d 2 free unlinked (turn2 d).device (refl, refl, refl) (frame-trans f g) (third-there d)
free-turn d (suc (suc (suc i))) h free = absurd (omega arith)

-- the counter is counted, and its terminal is the step's
pub record Clocked (d : Device) (i : ℕ) : Type 0 where
  pub counter : counter_at (step_of true d (low d)).device i ≡ (count_of d.version (counter_at d i)).counter
  pub terminal : get_or (step_of true d (low d)).terminals i false ≡ (count_of d.version (counter_at d i)).terminal

pub clocked : (d : Device) (i : ℕ) → i < 3 → Free d i → Clocked d i
clocked d i h free =
    let r = free-turn d i h free in
    record {
      counter = counter_at_lem d i h (there d.counters i free.cip) ∙ ap (λ (x : Counted). x.counter) r;
      terminal = terminal-at d i h ∙ ap (λ (x : Counted). x.terminal) r;
    }
