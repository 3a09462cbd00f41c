-- Paper 02, W-210: "the record and report after T n follow from n by division". The counters that no link reaches go alone, each with its
-- source; so does a side whose port sees the same all along. CT2 under a link and Port B's side go with CT1.
-- Assumes nothing.
use Prim.Native.Nat.{ℕ, zero, suc, ◌+◌, ◌<◌}
use mathlib.Core.Path.{◌≡◌, refl, sym, ap, ap₂, ◌∙◌}
use mathlib.Core.Bool.{Bool, true, false, not, ◌&&◌, ◌||◌, cond, true≢false, and-false, or-true}
use mathlib.Core.List.{[], ◌∷◌}
use native.Mathlib.Nat.{add-zero, zero-sub}
use native.Mathlib.Omega.{arith}
use lib.Dec.{eqb, lit<}
use borrow.Author.Tests.{eqb-true, ne_eqb}
use Rattle.rules.specs.declared.Device.{Device}
use Rattle.rules.specs.declared.Counter.{Counter}
use Rattle.rules.specs.declared.Counted.{Counted}
use Rattle.rules.specs.declared.Source.{Source}
use Rattle.rules.specs.declared.Pattern.{Pattern}
use Rattle.rules.specs.declared.Link.{Link}
use Rattle.rules.specs.declared.Reach.{Reach}
use Rattle.basics.specs.Byte.{num}
use Rattle.basics.specs.Iterate.{iterate}
use Rattle.rules.specs.Record.{Shaped, port_at, pattern_at, counter_at, source_at, of_counter}
use Rattle.rules.specs.With.{with_pulse}
use Rattle.rules.specs.Registers.{port_enabled, counter_enabled, lc, reset}
use Rattle.rules.specs.Handshakes.{outputs, handshakes}
use Rattle.rules.specs.Counters.{output_enabled, square, continuous, takes, loaded, less_one, terminal_of, count_of, unlinked, link_of, reach_of, clocks, clocked_by, turn_of}
use Rattle.rules.specs.PortData.{direction_at, special_at, effective_at, pins_of, path_of, seen_of, standing, value_at, pins_at, path_at, seen_at}
use Rattle.rules.specs.Patterns.{is_and, is_or, is_priority, match_of, event_by, hides_by}
use Rattle.rules.specs.Interrupts.{fate_of}
use Rattle.rules.specs.Step.{lines_at, ran_of}
use Rattle.basics.proofs.Tests.{by-test, both, each, so-both, not_so}
use Rattle.theorems.specs.declared.Part.{Part}
use Rattle.theorems.specs.declared.Side.{Side}
use Rattle.theorems.specs.declared.Pair.{Pair}
use Rattle.theorems.specs.Free.{timer_clocks, lost_after}
use Rattle.theorems.specs.Alone.{ticked_by, left_by, struck_by, source_after, placed_by, alone_after}
use Rattle.theorems.specs.Moving.{Caught, Small, Moving, part_at, side_at, moving_of, turn_in, part_by, link_by, side_by, seen_with, moved_by, pair_of, paired_by}
use Rattle.theorems.specs.Moving.{comes_to, part_after, side_after, apart, alones_after, run_with, by_division, besides}
use Rattle.theorems.specs.Plain.{plain}
use Rattle.theorems.proofs.Fates.{came-is}
use Rattle.theorems.proofs.Sources.{source_more, lost-more}
use Rattle.theorems.proofs.Alone.{alone-after}
use Rattle.theorems.proofs.Lowered.{quietly, not-loaded}
use Rattle.theorems.proofs.Moving.{ran-moving}

-- what p shows of f's steps goes as g goes
shown-so : {A B : Type 0} (f : A → A) (g : B → B) (p : A → B) → ((x : A) → p (f x) ≡ g (p x)) → (n : ℕ) (x : A) → p (iterate n f x) ≡ iterate n g (p x)
unfolding iterate
shown-so f g p h zero x = refl
shown-so f g p h (suc n) x = h (iterate n f x) ∙ ap g (shown-so f g p h n x)

-- ---- a turn keeps the counter's mode and GCB
record Kept (b c : Counter) : Type 0 where
  mode : c.mode ≡ b.mode
  gcb : c.gcb ≡ b.gcb

as-set : (c : Counter) → Kept c c
as-set c = record { mode = refl; gcb = refl }

kept_on : {a b c : Counter} → Kept a b → Kept b c → Kept a c
kept_on h g = record { mode = g.mode ∙ h.mode; gcb = g.gcb ∙ h.gcb }

module _ (n : ℕ) (c : Counter) where
  terminal-kept : (v : Bool) → Kept c (with_pulse (terminal_of c) v)
  unfolding terminal_of
  terminal-kept v =
      by-test (λ (b : Counter). Kept c (with_pulse b v)) (square c && not c.half) _ _ (λ _. record { mode = refl; gcb = refl })
      (λ _.
      by-test (λ (b : Counter). Kept c (with_pulse b v)) (continuous c) _ _ (λ _. record { mode = refl; gcb = refl })
      (λ _. record { mode = refl; gcb = refl }))

  clocked-kept : Kept c (clocked_by n c).counter
  unfolding clocked_by count_of
  clocked-kept =
      by-test (λ (r : Counted). Kept c r.counter) c.cip _ _
      (λ _.
      by-test (λ (r : Counted). Kept c r.counter) (eqb (less_one 65536 c.count) 0) _ _ (λ _. terminal-kept _) (λ _. record { mode = refl; gcb = refl }))
      (λ _. record { mode = refl; gcb = refl })

  turn-kept : (on : Bool) (reach : Reach) → Kept c (turn_of n on reach c).counter
  unfolding turn_of loaded
  turn-kept on reach =
      by-test (λ (r : Counted). Kept c r.counter) (reach.trigger && takes on c) _ _ (λ _. record { mode = refl; gcb = refl })
      (λ _. by-test (λ (r : Counted). Kept c r.counter) (clocks on reach c) _ _ (λ _. clocked-kept) (λ _. as-set c))

-- ---- a counter's turn, where no link reaches it: a clock if clocks come, and they go by what the turns keep
clocks-kept : (on : Bool) (k : Link) (w : ℕ) (b c : Counter) → Kept b c → clocks on (reach_of c k true w w) c ≡ clocks on (reach_of b k true w w) b
unfolding clocks reach_of
clocks-kept on k w b c h = simp (h.mode, h.gcb)

turn_alone : (d : Device) (i : ℕ) (c : Counter) → Kept (counter_at d i) c
    → turn_in d i unlinked c ≡ cond (comes_to d i) (clocked_by d.version c) (quietly c)
unfolding turn_in comes_to
turn_alone d i c h =
    not-loaded d.version (counter_enabled d i) unlinked (lines_at d i) c refl
    ∙ ap (λ (v : Bool). cond v (clocked_by d.version c) (quietly c)) (clocks-kept (counter_enabled d i) unlinked (lines_at d i) (counter_at d i) c h)

-- ---- a part goes by its counter, and its source and losses by its terminals
placed-more : (r : Counted) (c : Counter) (s : Source) (n : ℕ) → part_by r (placed_by c s n) ≡ placed_by r.counter s (n + num r.terminal)
unfolding part_by placed_by
placed-more r c s n =
    λ i.
    record {
      counter = r.counter;
      source = sym (source_more s n r.terminal) i;
      terminals = n + num (came-is true r.terminal (source_after s n) i);
      lost = sym (lost-more s n r.terminal) i;
    }

placed-none : (d : Device) (i : ℕ) → part_at d i ≡ placed_by (counter_at d i) (source_at d (of_counter i)) 0
unfolding part_at placed_by source_after lost_after
placed-none d i = simp zero-sub

-- ---- a part that goes alone
module _ (d : Device) (i : ℕ) where
  abbrev alone_by : Part → Part
  alone_by x = part_by (turn_in d i unlinked x.counter) x

  -- its counter, and its terminals so far
  abbrev ticks : ℕ → Counter × ℕ
  ticks k = iterate k (ticked_by d.version (comes_to d i)) (counter_at d i, 0)

  ticks-kept : (k : ℕ) → Kept (counter_at d i) (ticks k).0
  unfolding iterate ticked_by
  ticks-kept zero = as-set (counter_at d i)
  ticks-kept (suc k) =
      by-test (λ (s : Counter × ℕ). Kept (counter_at d i) s.0) (comes_to d i) _ _
      (λ _. kept_on (ticks-kept k) (clocked-kept d.version (ticks k).0)) (λ _. ticks-kept k)

  -- a tick is a turn
  ticked-by : (v : Bool) (c : Counter) (n : ℕ)
      → ((cond v (clocked_by d.version c) (quietly c)).counter, n + num (cond v (clocked_by d.version c) (quietly c)).terminal) ≡ ticked_by d.version v (c, n)
  unfolding ticked_by
  ticked-by true c n = refl
  ticked-by false c n = simp add-zero

  part-ticks : (k : ℕ) → iterate k alone_by (part_at d i) ≡ placed_by (ticks k).0 (source_at d (of_counter i)) (ticks k).1
  unfolding iterate placed_by
  part-ticks zero = placed-none d i
  part-ticks (suc k) =
      let s = source_at d (of_counter i) in
      let c = (ticks k).0 in
      let n = (ticks k).1 in
      ap alone_by (part-ticks k)
      ∙ placed-more (turn_in d i unlinked c) c s n
      ∙ ap (λ (r : Counted). placed_by r.counter s (n + num r.terminal)) (turn_alone d i c (ticks-kept k))
      ∙ ap (λ (p : Counter × ℕ). placed_by p.0 s p.1) (ticked-by (comes_to d i) c n)

  part-alone : (counter_at d i).count < 65536 → (counter_at d i).constant < 65536 → (k : ℕ) → iterate k alone_by (part_at d i) ≡ part_after d i k
  unfolding part_after alone_after
  part-alone hc ht k =
      part-ticks k
      ∙ ap (λ (p : Counter × ℕ). placed_by p.0 (source_at d (of_counter i)) p.1) (alone-after d.version (comes_to d i) (counter_at d i) hc ht k)

-- ---- a side whose port sees the same all along: PMF is the match from the first clock on, so the second is no event; in the priority mode
-- it is one, which finds IP set and hides nothing, so it is lost
lost-again : (ip : Bool) (s : Source) → s.ip ≡ ip → struck_by false true (struck_by false true s) ≡ struck_by false true s
unfolding struck_by fate_of left_by
lost-again true s i = simp i
lost-again false s i = simp i

struck-twice : (priority ioe m pmf : Bool) (s : Source)
    → struck_by (ioe && not priority) (m && (priority || not m)) (struck_by (ioe && not priority) (m && (priority || not pmf)) s)
    ≡ struck_by (ioe && not priority) (m && (priority || not pmf)) s
unfolding struck_by fate_of left_by
struck-twice priority ioe false pmf s = refl
struck-twice false ioe true pmf s = refl
struck-twice true true true pmf s = lost-again _ s refl
struck-twice true false true pmf s = lost-again _ s refl

module _ (d : Device) (p seen : ℕ) where
  abbrev sided : Side → Side
  sided = side_by d p seen seen

  side-twice : (x : Side) → sided (sided x) ≡ sided x
  unfolding side_by event_by hides_by
  side-twice x =
      let m = match_of (port_enabled d p) (pattern_at d p) seen seen in
      ap (λ (t : Source). record { pmf = m; source = t }) (struck-twice (is_priority (pattern_at d p)) (pattern_at d p).ioe m x.pmf x.source)

  side-more : (k : ℕ) (x : Side) → iterate (suc k) sided x ≡ sided x
  unfolding iterate
  side-more zero x = refl
  side-more (suc k) x = ap sided (side-more k x) ∙ side-twice x

side-alone : (d : Device) (p k : ℕ) → iterate k (sided d p (seen_at d p)) (side_at d p) ≡ side_after d p k
unfolding side_after iterate
side-alone d p zero = refl
side-alone d p (suc k) = side-more d p (seen_at d p) k (side_at d p) ∙ (simp (ne_eqb (suc k) 0 (λ e. omega arith)))

-- ---- all but CT2 and Port B's side, and these with CT1
module _ (d : Device) where
  abbrev moved : ℕ → Moving
  moved k = iterate k (moved_by d) (moving_of d)

  abbrev paired : ℕ → Pair
  paired k = iterate k (paired_by d) (pair_of d)

  one-alone : (k : ℕ) → (moved k).one ≡ iterate k (alone_by d 0) (part_at d 0)
  unfolding moved_by moving_of
  one-alone k = shown-so (moved_by d) (alone_by d 0) (λ m. m.one) (λ m. refl) k (moving_of d)

  three-alone : (k : ℕ) → (moved k).three ≡ iterate k (alone_by d 2) (part_at d 2)
  unfolding moved_by moving_of
  three-alone k = shown-so (moved_by d) (alone_by d 2) (λ m. m.three) (λ m. refl) k (moving_of d)

  a-alone : (k : ℕ) → (moved k).a ≡ iterate k (sided d 0 (seen_at d 0)) (side_at d 0)
  unfolding moved_by moving_of
  a-alone k = shown-so (moved_by d) (sided d 0 (seen_at d 0)) (λ m. m.a) (λ m. refl) k (moving_of d)

  -- CT2's part has its counter, its source and its losses
  abbrev placed : Pair → Part
  placed x = placed_by x.two (source_at d (of_counter 1)) x.terminals

  record Abreast (m : Moving) (x : Pair) : Type 0 where
    one : m.one.counter ≡ x.one
    two : m.two ≡ placed x
    side : m.b ≡ x.side

  abreast-more : (m : Moving) (x : Pair) → Abreast m x → Abreast (moved_by d m) (paired_by d x)
  unfolding moved_by paired_by part_by placed_by
  abreast-more m x h =
      let r : Counter → Counted = λ c. turn_in d 0 unlinked c in
      let s : Counter → Counter → Counted = λ b c. turn_in d 1 (link_by d b (r b).counter) c in
      record {
        one = ap (λ (c : Counter). (r c).counter) h.one;
        two = (λ i. part_by (s (h.one i) (h.two i).counter) (h.two i)) ∙ placed-more (s x.one x.two) x.two (source_at d (of_counter 1)) x.terminals;
        side = λ i.
            side_by d 1 (seen_with d (h.one i) (h.two i).counter) (seen_with d (r (h.one i)).counter (s (h.one i) (h.two i).counter).counter) (h.side i);
      }

  abreast : (k : ℕ) → Abreast (moved k) (paired k)
  unfolding iterate moving_of pair_of part_at
  abreast zero = record { one = refl; two = placed-none d 1; side = refl }
  abreast (suc k) = abreast-more (moved k) (paired k) (abreast k)

  moved-besides : Small d → (k : ℕ) → moved k ≡ besides d k (paired k)
  unfolding besides
  moved-besides small k =
      let h = abreast k in
      let one = one-alone k ∙ part-alone d 0 (small.counts 0 (lit< tt)) (small.constants 0 (lit< tt)) k in
      let three = three-alone k ∙ part-alone d 2 (small.counts 2 (lit< tt)) (small.constants 2 (lit< tt)) k in
      let a = a-alone k ∙ side-alone d 0 k in
      λ i. record { one = one i; two = h.two i; three = three i; a = a i; b = h.side i }

-- ---- where no counter is linked, CT2 goes alone too
module _ (d : Device) (off : lc d ≡ 0) where
  turn-off : (before after c : Counter) → turn_in d 1 (link_by d before after) c ≡ turn_in d 1 unlinked c
  unfolding turn_in link_by link_of reach_of
  turn-off before after c = simp off

  two-alone : (k : ℕ) → (moved d k).two ≡ iterate k (alone_by d 1) (part_at d 1)
  unfolding moved_by moving_of
  two-alone k =
      shown-so (moved_by d) (alone_by d 1) (λ m. m.two)
      (λ m. ap (λ (r : Counted). part_by r m.two) (turn-off m.one.counter (turn_in d 0 unlinked m.one.counter).counter m.two.counter)) k (moving_of d)

-- ---- Port B's side, where it has no pattern, or no output of CT1 or CT2 is there
neither : (a b : Bool) → (a || b) ≡ false → (a ≡ false) × (b ≡ false)
neither true b h = absurd (true≢false h)
neither false b h = (refl, h)

no-match : (on : Bool) (q : Pattern) (before after : ℕ) → (is_and q || is_or q || is_priority q) ≡ false → match_of on q before after ≡ false
unfolding match_of
no-match on q before after h =
    let n = neither (is_and q || is_or q) (is_priority q) h in
    let o = neither (is_and q) (is_or q) n.0 in
    simp (o.0, o.1, n.1, and-false)

standing-off : (n : ℕ) (b c : Counter) (k x : ℕ) → output_enabled b ≡ false → output_enabled c ≡ false → standing n b k x ≡ standing n c k x
unfolding standing
standing-off n b c k x g h = simp (g, h, and-false)

still-off : {b c : Counter} → Kept b c → output_enabled b ≡ false → output_enabled c ≡ false
still-off k h = rw k.mode h

module _ (d : Device) where
  -- the counters of CT1 and CT2 have the modes that they had
  record Modes (one two : Counter) : Type 0 where
    first : Kept (counter_at d 0) one
    second : Kept (counter_at d 1) two

  modes-more : (m : Moving) → Modes m.one.counter m.two.counter → Modes (moved_by d m).one.counter (moved_by d m).two.counter
  unfolding moved_by part_by turn_in
  modes-more m h =
      record { first = kept_on h.first (turn-kept _ _ _ _); second = kept_on h.second (turn-kept _ _ _ _) }

  modes : (k : ℕ) → Modes (moved d k).one.counter (moved d k).two.counter
  unfolding iterate moving_of part_at
  modes zero = record { first = as-set (counter_at d 0); second = as-set (counter_at d 1) }
  modes (suc k) = modes-more (moved d k) (modes k)

  seen-off : (output_enabled (counter_at d 0) || output_enabled (counter_at d 1)) ≡ false → (one two : Counter) → Modes one two → seen_with d one two ≡ seen_at d 1
  unfolding seen_with seen_at path_at pins_at value_at direction_at special_at
  seen-off off one two m =
      let n = neither (output_enabled (counter_at d 0)) (output_enabled (counter_at d 1)) off in
      let q = effective_at d 1 in
      let on = port_enabled d 1 in
      let v : ℕ → ℕ = λ y. cond (outputs (pattern_at d 1)) (port_at d 1).output y in
      ap (λ (y : ℕ). seen_of on q (path_of q (pins_of on q (v y)) (v y)))
      (standing-off d.version one (counter_at d 0) 4 _ (still-off m.first n.0) n.0
      ∙ ap (standing d.version (counter_at d 0) 4)
      (standing-off d.version two (counter_at d 1) 0 (port_at d 1).output (still-off m.second n.1) n.1))

  module _ (h : (not (is_and (pattern_at d 1) || is_or (pattern_at d 1) || is_priority (pattern_at d 1)) || not (output_enabled (counter_at d 0) || output_enabled (counter_at d 1))) ≡ true) where
    match_by : (v : Bool) → (is_and (pattern_at d 1) || is_or (pattern_at d 1) || is_priority (pattern_at d 1)) ≡ v → (a b e f : Counter) → Modes a b → Modes e f
        → match_of (port_enabled d 1) (pattern_at d 1) (seen_with d a b) (seen_with d e f) ≡ match_of (port_enabled d 1) (pattern_at d 1) (seen_at d 1) (seen_at d 1)
    match_by true p a b e f m n =
        let off = not_so _ (simp p at h) in
        ap₂ (match_of (port_enabled d 1) (pattern_at d 1)) (seen-off off a b m) (seen-off off e f n)
    match_by false p a b e f m n = no-match (port_enabled d 1) (pattern_at d 1) _ _ p ∙ sym (no-match (port_enabled d 1) (pattern_at d 1) _ _ p)

    b-more : (m : Moving) → Modes m.one.counter m.two.counter → (moved_by d m).b ≡ sided d 1 (seen_at d 1) m.b
    unfolding moved_by side_by part_by
    b-more m g =
        ap (λ (v : Bool). record { pmf = v; source = struck_by (hides_by (pattern_at d 1)) (event_by (pattern_at d 1) m.b.pmf v) m.b.source })
        (match_by _ refl _ _ _ _ g (modes-more m g))

    b-alone : (k : ℕ) → (moved d k).b ≡ iterate k (sided d 1 (seen_at d 1)) (side_at d 1)
    unfolding iterate moving_of
    b-alone zero = refl
    b-alone (suc k) = b-more (moved d k) (modes k) ∙ ap (sided d 1 (seen_at d 1)) (b-alone k)

-- where all go alone
moved-alone : (d : Device) → Small d → apart d ≡ true → (k : ℕ) → moved d k ≡ alones_after d k
unfolding apart alones_after
moved-alone d small h k =
    let part = both _ _ h in
    let alone : (i : ℕ) → i < 3 → iterate k (alone_by d i) (part_at d i) ≡ part_after d i k =
    λ i l. part-alone d i (small.counts i l) (small.constants i l) k in
    let one = one-alone d k ∙ alone 0 (lit< tt) in
    let two = two-alone d (eqb-true _ 0 part.0) k ∙ alone 1 (lit< tt) in
    let three = three-alone d k ∙ alone 2 (lit< tt) in
    let a = a-alone d k ∙ side-alone d 0 k in
    let b = b-alone d part.1 k ∙ side-alone d 1 k in
    λ i. record { one = one i; two = two i; three = three i; a = a i; b = b i }

-- outputs that are off
first_two : (a b c : Bool) → not (a || b || c) ≡ true → not (a || b) ≡ true
first_two true b c h = h
first_two false true c h = h
first_two false false c h = refl

-- ---- the laws
-- T n of any record whose catchers have caught: CT2 and Port B's side go with CT1, and all else alone
pub ran-besides : (d : Device) (n : ℕ) → Shaped d → Small d → Caught d → reset d ≡ false → ran_of n d ≡ run_with d n (besides d (timer_clocks d n) (iterate (timer_clocks d n) (paired_by d) (pair_of d)))
ran-besides d n shape small caught r = ran-moving d n shape caught r ∙ ap (run_with d n) (moved-besides d small (timer_clocks d n))

-- T n by division
pub formula : (d : Device) (n : ℕ) → Shaped d → Small d → Caught d → reset d ≡ false → apart d ≡ true → ran_of n d ≡ by_division d n
unfolding by_division
formula d n shape small caught r h = ran-moving d n shape caught r ∙ ap (run_with d n) (moved-alone d small h (timer_clocks d n))

-- the records that the paper names are of these
pub plain-apart : (d : Device) → plain d ≡ true → apart d ≡ true
unfolding plain apart
plain-apart d h =
    let part =
    each
    (not (handshakes (pattern_at d 0)) ∷ not (handshakes (pattern_at d 1)) ∷ eqb (lc d) 0
    ∷ not (output_enabled (counter_at d 0) || output_enabled (counter_at d 1) || output_enabled (counter_at d 2))
    ∷ eqb (pattern_at d 0).transition 0 ∷ eqb (pattern_at d 1).transition 0 ∷ [])
    h in
    let off = first_two (output_enabled (counter_at d 0)) (output_enabled (counter_at d 1)) (output_enabled (counter_at d 2)) (part 3) in
    so-both (part 2) (simp (off, or-true))
