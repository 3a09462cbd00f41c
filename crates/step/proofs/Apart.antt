-- A step is its parts, put together: each turn leaves its own counter and source, each pattern its own PMF and source; no catcher goes by a
-- source, and what is seen by no source and no PMF.
-- Assumes nothing.
use Prim.Native.Nat.{ℕ, ◌/◌, ◌%◌}
use mathlib.Core.Path.{◌≡◌, refl, sym, ap, subst, ◌∙◌}
use mathlib.Core.Bool.{Bool, true}
use mathlib.Core.List.{List, [], ◌∷◌}
use lib.ListN.{length, set}
use lib.Seq.{set-get_or}
use Rattle.rules.specs.declared.Device.{Device}
use Rattle.rules.specs.declared.Counter.{Counter}
use Rattle.rules.specs.declared.Port.{Port}
use Rattle.rules.specs.declared.Pattern.{Pattern}
use Rattle.rules.specs.declared.Source.{Source}
use Rattle.rules.specs.declared.Fate.{Fate}
use Rattle.rules.specs.declared.Fate.TheVariants.{Nothing, Taken, Kept, Lost}
use Rattle.rules.specs.declared.Link.{Link}
use Rattle.rules.specs.declared.Turned.{Turned}
use Rattle.rules.specs.declared.Stepped.{Stepped}
use Rattle.rules.specs.Record.{pattern_at, counter_at, source_at, quiet, idle, blank}
use Rattle.rules.specs.With.{with_pmf, with_ports, with_pattern, with_patterns, with_counters, with_sources}
use Rattle.rules.specs.Registers.{counter_enabled, lc}
use Rattle.rules.specs.Handshakes.{is_line, ackin_at, offers_at, shown_at}
use Rattle.rules.specs.Counters.{output_of, unlinked, link_of, reach_of, turn_of}
use Rattle.rules.specs.PortData.{direction_at, special_at, lined, value_at, pins_at, path_at, seen_at}
use Rattle.rules.specs.Interrupts.{fate_of, after_fate, came, was_lost}
use Rattle.rules.specs.Step.{lines_at, event_at, turned, counter_turn, caught_at, catchers, matched_by, pattern_turn, settled, step_of}
use Rattle.basics.proofs.Lists.{two, three, five}
use Rattle.levels.specs.declared.Looks.{Looks}
use Rattle.levels.specs.Looks.{looks_of}
use Rattle.counters.specs.declared.Inputs.{Inputs}
use Rattle.step.specs.declared.Turn.{Turn}
use Rattle.theorems.specs.declared.Side.{Side}
use Rattle.theorems.specs.Alone.{left_by, struck_by}
use Rattle.theorems.specs.Moving.{side_at}
use Rattle.step.specs.Parts.{turn_by, turn_at, pattern_by, pattern_after}

-- ---- an event leaves at its place what its fate leaves of the source, whichever it is
fate-at : (d : Device) (k : ℕ) (f : Fate) → after_fate d k f ≡ with_sources d (set d.sources k (left_by f (source_at d k)))
unfolding after_fate left_by
fate-at d k Nothing = ap (with_sources d) (sym (set-get_or d.sources k quiet))
fate-at d k Taken = refl
fate-at d k Kept = refl
fate-at d k Lost = ap (with_sources d) (sym (set-get_or d.sources k quiet))

-- the turn of counter i with what comes to it
abbrev pub turned_with : ℕ → Device → Inputs → Turn
turned_with i d x = turn_at x.link x.timer x.were x.are i d

-- ---- what a step works out, in its order: the turns, with the link from the first to the second, the record after (e), the sides
record Parts : Type 0 where
  one : Turn
  link : Link
  two : Turn
  three : Turn
  caught : Device
  a : Side
  b : Side

-- the record d after these turns
abbrev counted : Device → Turn → Turn → Turn → Device
counted d one two three = with_counters d (one.counter ∷ two.counter ∷ three.counter ∷ [])

abbrev parts_of : Bool → Device → Device → Parts
parts_of timer d0 d1 =
    let one = turn_at unlinked timer (lines_at d0 0) (lines_at d1 0) 0 d1 in
    let link = link_of (lc d1) (output_of d0.version (counter_at d0 0)) (output_of d1.version one.counter) in
    let two = turn_at link timer (lines_at d0 1) (lines_at d1 1) 1 d1 in
    let three = turn_at unlinked timer (lines_at d0 2) (lines_at d1 2) 2 d1 in
    let e = catchers (counted d1 one two three) in
    record {
      one = one;
      link = link;
      two = two;
      three = three;
      caught = e;
      a = pattern_after 0 (seen_at d0 0) (seen_at e 0) d1;
      b = pattern_after 1 (seen_at d0 1) (seen_at e 1) d1;
    }

-- the record d with that PMF of port p
abbrev matched : ℕ → Bool → Device → Device
matched p v d = with_pattern d p (with_pmf (pattern_at d p) v)

-- and the step that is put together of them: "Order: CT3, A, CT2, B, CT1"
abbrev put : Parts → Stepped
put m =
    record {
      device =
          with_sources (matched 1 m.b.pmf (matched 0 m.a.pmf m.caught))
          (m.three.source ∷ m.a.source ∷ m.two.source ∷ m.b.source ∷ m.one.source ∷ []);
      terminals = m.one.came ∷ m.two.came ∷ m.three.came ∷ [];
      lost = m.one.lost ∷ m.two.lost ∷ m.three.lost ∷ [];
    }

-- ---- the step of a record whose arrays are written out
module _ (timer : Bool) (d0 d : Device) (c1 c2 c3 : Counter) (q r : Pattern) (s3 sa s2 sb s1 : Source) where
  -- the record with these counters and sources
  abbrev with : List Counter → List Source → Device
  with cs ss = with_sources (with_counters (with_patterns d (q ∷ r ∷ [])) cs) ss

  abbrev d1 : Device
  d1 = with (c1 ∷ c2 ∷ c3 ∷ []) (s3 ∷ sa ∷ s2 ∷ sb ∷ s1 ∷ [])

  abbrev m : Parts
  m = parts_of timer d0 d1

  -- ---- (b), (c), (d): a turn leaves the record with its counter and its source
  abbrev left : List Counter → List Source → Link → ℕ → Counter → Source → Turned
  left cs ss k i c s =
      record {
        device = with cs ss;
        fate = fate_of true (turn_of d.version (counter_enabled d i) (reach_of c k timer (lines_at d0 i) (lines_at d1 i)) c).terminal s;
      }

  abbrev t1 : Turned
  t1 = left (m.one.counter ∷ c2 ∷ c3 ∷ []) (s3 ∷ sa ∷ s2 ∷ sb ∷ m.one.source ∷ []) unlinked 0 c1 s1

  abbrev t2 : Turned
  t2 = left (m.one.counter ∷ m.two.counter ∷ c3 ∷ []) (s3 ∷ sa ∷ m.two.source ∷ sb ∷ m.one.source ∷ []) m.link 1 c2 s2

  abbrev t3 : Turned
  t3 =
      left (m.one.counter ∷ m.two.counter ∷ m.three.counter ∷ []) (m.three.source ∷ sa ∷ m.two.source ∷ sb ∷ m.one.source ∷ []) unlinked 2 c3 s3

  -- the turn of CT1, and of the others after what was left before them
  abbrev first : Turned
  first = counter_turn unlinked timer (lines_at d0 0) (lines_at d1 0) 0 d1

  abbrev second : Turned → Turned
  second t =
      counter_turn (link_of (lc d1) (output_of d0.version (counter_at d0 0)) (output_of d1.version (counter_at t.device 0))) timer (lines_at d0 1) (lines_at d1 1) 1
      t.device

  abbrev third : Turned → Turned
  third t = counter_turn unlinked timer (lines_at d0 2) (lines_at d1 2) 2 t.device

  turn_one : first ≡ t1
  unfolding counter_turn turned turn_at turn_by
  turn_one = ap (λ (e : Device). record { device = e; fate = t1.fate }) (fate-at _ 4 _)

  turn_two : second t1 ≡ t2
  unfolding counter_turn turned turn_at turn_by
  turn_two = ap (λ (e : Device). record { device = e; fate = t2.fate }) (fate-at _ 2 _)

  turn_three : third t2 ≡ t3
  unfolding counter_turn turned turn_at turn_by
  turn_three = ap (λ (e : Device). record { device = e; fate = t3.fate }) (fate-at _ 0 _)

  -- ---- (e), (f); after A's pattern
  abbrev da : Device
  da = with_sources (matched 0 m.a.pmf m.caught) (m.three.source ∷ m.a.source ∷ m.two.source ∷ sb ∷ m.one.source ∷ [])

  catching : catchers t3.device ≡ with_sources m.caught t3.device.sources
  unfolding catchers caught_at path_at pins_at value_at direction_at special_at lined is_line shown_at offers_at ackin_at
  catching = refl

  turn-a : pattern_turn 0 (seen_at d0 0) (with_sources m.caught t3.device.sources) ≡ da
  unfolding pattern_turn matched_by event_at pattern_after pattern_by struck_by side_at seen_at path_at pins_at value_at direction_at special_at catchers
  turn-a = fate-at _ 1 _

  turn-b : pattern_turn 1 (seen_at d0 1) da ≡ (put m).device
  unfolding pattern_turn matched_by event_at pattern_after pattern_by struck_by side_at seen_at path_at pins_at value_at direction_at special_at catchers
  turn-b = fate-at _ 3 _

  settling : settled (seen_at d0 0) (seen_at d0 1) t3.device ≡ (put m).device
  unfolding settled
  settling =
      ap (λ (e : Device). pattern_turn 1 (seen_at d0 1) (pattern_turn 0 (seen_at d0 0) e)) catching
      ∙ ap (pattern_turn 1 (seen_at d0 1)) turn-a
      ∙ turn-b

  -- ---- all of it
  abbrev stepped : Turned → Turned → Turned → Device → Stepped
  stepped t u v e =
      record {
        device = e;
        terminals = came t.fate ∷ came u.fate ∷ came v.fate ∷ [];
        lost = was_lost t.fate ∷ was_lost u.fate ∷ was_lost v.fate ∷ [];
      }

  abbrev after : Turned → Turned → Turned → Stepped
  after t u v = stepped t u v (settled (seen_at d0 0) (seen_at d0 1) v.device)

  written : step_of timer d0 d1 ≡ put m
  unfolding step_of turn_at turn_by
  written =
      ap (λ (t : Turned). after t (second t) (third (second t))) turn_one
      ∙ ap (λ (u : Turned). after t1 u (third u)) turn_two
      ∙ ap (after t1 t2) turn_three
      ∙ ap (stepped t1 t2 t3) settling

-- ---- the step of any record, whose arrays are their elements
module _ (timer : Bool) (d0 d : Device) (patterns : length d.patterns ≡ 2) (counters : length d.counters ≡ 3) (sources : length d.sources ≡ 5) where
  whole : d
      ≡ with_sources (with_counters (with_patterns d (pattern_at d 0 ∷ pattern_at d 1 ∷ [])) (counter_at d 0 ∷ counter_at d 1 ∷ counter_at d 2 ∷ []))
      (source_at d 0 ∷ source_at d 1 ∷ source_at d 2 ∷ source_at d 3 ∷ source_at d 4 ∷ [])
  whole = λ i. with_sources (with_counters (with_patterns d (two blank d.patterns patterns i)) (three idle d.counters counters i)) (five quiet d.sources sources i)

  of_parts : put (parts_of timer d0 d) ≡ step_of timer d0 d
  of_parts = sym (subst (λ (e : Device). step_of timer d0 e ≡ put (parts_of timer d0 e)) (sym whole) (written timer d0 d _ _ _ _ _ _ _ _ _ _))

  -- by what the calls of a step give, one after the other; w was seen before it, n after (a) and s after (e)
  module _ {w n s : Looks} {one two three : Turn} {k : Link} {ports : List Port} {a b : Side}
      (before : w ≡ looks_of d0)
      (now : n ≡ looks_of d)
      (first : one ≡ turn_at unlinked timer (w.b / 16) (n.b / 16) 0 d)
      (link : k ≡ link_of (lc d) (output_of d0.version (counter_at d0 0)) (output_of d.version one.counter))
      (second : two ≡ turn_at k timer (w.b % 16) (n.b % 16) 1 d)
      (third : three ≡ turn_at unlinked timer (w.c % 16) (n.c % 16) 2 d)
      (caught : ports ≡ caught_at (counted d one two three) 0 ∷ caught_at (counted d one two three) 1 ∷ caught_at (counted d one two three) 2 ∷ [])
      (after : s ≡ looks_of (with_ports (counted d one two three) ports))
      (in-a : a ≡ pattern_after 0 w.seen_a s.seen_a d)
      (in_b : b ≡ pattern_after 1 w.seen_b s.seen_b d) where
    abbrev parts : Parts
    parts = parts_of timer d0 d

    is_one : one ≡ parts.one
    unfolding lines_at
    is_one = first ∙ (λ i. turn_at unlinked timer ((before i).b / 16) ((now i).b / 16) 0 d)

    is-link : k ≡ parts.link
    is-link = link ∙ ap (λ (t : Turn). link_of (lc d) (output_of d0.version (counter_at d0 0)) (output_of d.version t.counter)) is_one

    is-two : two ≡ parts.two
    unfolding lines_at
    is-two = second ∙ (λ i. turn_at (is-link i) timer ((before i).b % 16) ((now i).b % 16) 1 d)

    is-three : three ≡ parts.three
    unfolding lines_at
    is-three = third ∙ (λ i. turn_at unlinked timer ((before i).c % 16) ((now i).c % 16) 2 d)

    is-caught : with_ports (counted d one two three) ports ≡ parts.caught
    unfolding catchers
    is-caught =
        ap (with_ports (counted d one two three)) caught
        ∙ (λ i. catchers (counted d (is_one i) (is-two i) (is-three i)))

    is-after : s ≡ looks_of parts.caught
    is-after = after ∙ ap looks_of is-caught

    is-a : a ≡ parts.a
    is-a = in-a ∙ (λ i. pattern_after 0 (before i).seen_a (is-after i).seen_a d)

    is_b : b ≡ parts.b
    is_b = in_b ∙ (λ i. pattern_after 1 (before i).seen_b (is-after i).seen_b d)

    pub put-together : put (record { one = one; link = k; two = two; three = three; caught = with_ports (counted d one two three) ports; a = a; b = b }) ≡ step_of timer d0 d
    put-together =
        ap put
        (λ i. record { one = is_one i; link = is-link i; two = is-two i; three = is-three i; caught = is-caught i; a = is-a i; b = is_b i }) ∙ of_parts
