-- Paper 02, W-212: "Demand 3 holds for a sound row of one to eight, counts per device.", from the demand of each device: in a sound row T
-- changes no IEO, so the chain stays and each device goes by itself.
-- Assumes nothing.
use Prim.Native.Nat.{ℕ, zero, suc, ◌+◌}
use mathlib.Core.Path.{◌≡◌, refl, sym, ap, ◌∙◌}
use mathlib.Core.Bool.{true, So}
use mathlib.Core.List.{List, [], ◌∷◌, ◌++◌, map, flatten, map-map, map-id}
use native.Mathlib.Omega.{arith}
use lib.ListN.{length, length-map}
use Rattle.rules.specs.declared.Device.{Device}
use Rattle.rules.specs.declared.Event.{Event}
use Rattle.rules.specs.declared.Answer.{Answer}
use Rattle.rules.specs.declared.Outcome.{Outcome}
use Rattle.rules.specs.Record.{Shaped}
use Rattle.rules.specs.Report.{sums, reports_added}
use Rattle.rules.specs.Sound.{sound_of}
use Rattle.rules.specs.Events.{is_t, effect, answer_of, outcome_of, event_of}
use Rattle.basics.specs.Runs.{record_through, answers_through}
use Rattle.basics.proofs.Tests.{left, right, so-both}
use Rattle.theorems.specs.Ticks.{tick, only_t, only_t1, all_clocks, answers_added, answers_as_one}
use Rattle.theorems.proofs.Ignored.{as-tick}
use Rattle.theorems.proofs.Demand3.{none as device-none, cut as device-cut, ones-only, ones-clocks}
use Rattle.rows.specs.declared.RowEvent.{RowEvent}
use Rattle.rows.specs.Rows.{shown_of, shown_for, eight_of, row_after}
use Rattle.rows.specs.Runs.{row_run, row_cut}
use Rattle.row_laws.specs.Desk.{Board, RowShaped}
use Rattle.row_laws.specs.RowTicks.{events_of, shown_added, each_added, row_answers_added, row_answers_as_one, RowTurn, row_turn, row_as_one}
use Rattle.row_laws.proofs.Runs.{unseen}
use Rattle.row_laws.proofs.Each.{shown_in, each_turn, same-each, each-one, t-row, t-answer, t-each, t-board}

-- ---- one T after another
-- a turn of the row, and another of the row that it left, as one
abbrev then : RowTurn → RowTurn → RowTurn
then x y = record { row = y.row; answer = row_answers_added x.answer y.answer }

-- an outcome of a device, and another of the record that it left, as one
abbrev and_then : Outcome Device Answer → Outcome Device Answer → Outcome Device Answer
and_then x y = record { device = y.device; answer = answers_added x.answer y.answer }

module _ (o p : Device → Outcome Device Answer) where
  abbrev both : Device → Outcome Device Answer
  both d = and_then (o d) (p (o d).device)

  shown-both : (ds : List Device) (k : ℕ)
      → shown_for (map (λ d. shown_in (both d).answer) ds) k
      ≡ shown_added (shown_for (map (λ d. shown_in (o d).answer) ds) k) (shown_for (map (λ d. shown_in (p d).answer) (map (λ d. (o d).device) ds)) k)
  unfolding reports_added sums
  shown-both [] k = refl
  shown-both (d ∷ ds) zero = refl
  shown-both (d ∷ ds) (suc k) = shown-both ds k

  turn-both : (ds : List Device) → each_turn both ds ≡ then (each_turn o ds) (each_turn p (map (λ d. (o d).device) ds))
  unfolding eight_of each_added
  turn-both ds =
      λ j. record {
        row = sym (map-map (λ d. (p d).device) (λ d. (o d).device) ds) j;
        answer = record {
          code = 0;
          value = 0;
          devices =
              shown-both ds 0 j ∷ shown-both ds 1 j ∷ shown-both ds 2 j ∷ shown-both ds 3 j ∷ shown-both ds 4 j ∷ shown-both ds 5 j
              ∷ shown-both ds 6 j ∷ shown-both ds 7 j ∷ [];
        };
      }

-- the clocks of two T's of a device, one after the other
device-two : (d : Device) (e f g : Event) → So (is_t e) → So (is_t f) → So (is_t g) → e.a ≡ f.a + g.a
    → event_of d e ≡ and_then (event_of d f) (event_of (event_of d f).device g)
unfolding only_t all_clocks record_through answers_through answers_as_one
device-two d e f g t u v q = device-cut d e f (g ∷ []) t (so-both u (so-both v refl)) (omega (arith, q))

-- and of a row
two : (ds : List Device) (e f g : RowEvent) → Board ds → So (is_t e.event) → So (is_t f.event) → So (is_t g.event)
    → e.event.a ≡ f.event.a + g.event.a → row_turn ds e ≡ then (row_turn ds f) (row_turn (row_after ds f) g)
two ds e f g b t u v q =
    t-each ds e b t ∙ (λ j. each_turn (λ d. device-two d e.event f.event g.event t u v q j) ds)
    ∙ turn-both (λ d. event_of d f.event) (λ d. event_of d g.event) ds
    ∙ (λ j. then (sym (t-each ds f b u) j) (each_turn (λ d. event_of d g.event) (sym (t-row ds f b u) j)))
    ∙ ap (then (row_turn ds f)) (sym (t-each (row_after ds f) g (t-board ds f b u) v))

-- the clocks of one T
one : (ds : List Device) (e f : RowEvent) → Board ds → So (is_t e.event) → So (is_t f.event) → e.event.a ≡ f.event.a → row_turn ds e ≡ row_turn ds f
one ds e f b t u q =
    t-each ds e b t ∙ (λ j. each_turn (λ d. (as-tick d e.event t ∙ ap (λ (n : ℕ). event_of d (tick n)) q ∙ sym (as-tick d f.event u)) j) ds)
    ∙ sym (t-each ds f b u)

-- the clocks of a first T, and the clocks of those after it
cut_by_lem : (ds : List Device) (e f : RowEvent) (l : List RowEvent) → Board ds → So (is_t e.event) → So (is_t f.event) → So (only_t (events_of l))
    → e.event.a ≡ f.event.a + all_clocks (events_of l) → row_turn ds e ≡ row_as_one (row_run ds (f ∷ l))
unfolding only_t all_clocks record_through answers_through row_answers_as_one
cut_by_lem ds e f [] b t u h q = one ds e f b t u (omega (arith, q))
cut_by_lem ds e f (g ∷ l) b t u h q =
    let m : RowEvent = record { device = 0; event = tick (g.event.a + all_clocks (events_of l)) } in
    two ds e f m b t u refl q
    ∙ ap (then (row_turn ds f))
    (cut_by_lem (row_after ds f) m g l (t-board ds f b u) refl (left (is_t g.event) (only_t (events_of l)) h) (right (is_t g.event) (only_t (events_of l)) h) refl)

-- ---- T n is T's of n clocks together, one after the other, however n is cut: the row, code and value, and of each device its lines and its
-- counts added up
pub cut : (ds : List Device) (e f : RowEvent) (l : List RowEvent) → Board ds → So (is_t e.event) → So (only_t (events_of (f ∷ l)))
    → e.event.a ≡ all_clocks (events_of (f ∷ l)) → row_turn ds e ≡ row_as_one (row_run ds (f ∷ l))
unfolding only_t all_clocks
cut ds e f l b t h q =
    cut_by_lem ds e f l b t (left (is_t f.event) (only_t (events_of l)) h) (right (is_t f.event) (only_t (events_of l)) h) q

-- and so with anything done to the devices at any of the cuts that leaves sound ones as they are (a save and a restore of each)
pub cut_apart : (f : Device → Device) → ((d : Device) → Shaped d → sound_of d ≡ true → f d ≡ d)
    → (ds : List Device) (e g : RowEvent) (l : List RowEvent) (ls : List (List RowEvent)) → RowShaped ds → Board ds
    → So (is_t e.event) → So (only_t (events_of (flatten ((g ∷ l) ∷ ls)))) → e.event.a ≡ all_clocks (events_of (flatten ((g ∷ l) ∷ ls)))
    → row_turn ds e ≡ row_as_one (row_cut (map f) ds (g ∷ l) ls)
unfolding flatten
cut_apart f leaves ds e g l ls h b t o q =
    cut ds e g (l ++ flatten ls) b t o q ∙ ap row_as_one (sym (unseen f leaves ds (g ∷ l) ls h b.sound))

-- T n is n times T 1, for every n from 1 on (T 0 is `none` below)
pub many : (ds : List Device) (e f : RowEvent) (l : List RowEvent) → Board ds → So (is_t e.event) → So (only_t1 (events_of (f ∷ l)))
    → e.event.a ≡ length (f ∷ l) → row_turn ds e ≡ row_as_one (row_run ds (f ∷ l))
many ds e f l b t h q =
    cut ds e f l b t (ones-only (events_of (f ∷ l)) h) (q ∙ sym (length-map (f ∷ l) (λ (e : RowEvent). e.event)) ∙ sym (ones-clocks (events_of (f ∷ l)) h))

-- T 0 changes nothing
pub none : (ds : List Device) (e : RowEvent) → Board ds → So (is_t e.event) → e.event.a ≡ 0
    → row_turn ds e ≡ record { row = ds; answer = record { code = 0; value = 0; devices = eight_of (map (λ d. shown_of (effect d 0)) ds) } }
unfolding outcome_of answer_of shown_of
none ds e b t q =
    let o : (d : Device) → sound_of d ≡ true → event_of d e.event ≡ outcome_of 0 (effect d 0) = λ d s. device-none d e.event t q s in
    let each = each-one ds e b t in
    let row = t-row ds e b t ∙ same-each (λ d. (event_of d e.event).device) (λ d. d) ds each (λ d s. ap (λ (o : Outcome Device Answer). o.device) (o d s)) ∙ map-id ds in
    let shown =
    same-each (λ d. shown_in (event_of d e.event).answer) (λ d. shown_of (effect d 0)) ds each (λ d s. ap (λ (o : Outcome Device Answer). shown_in o.answer) (o d s)) in
    λ j. record { row = row j; answer = (t-answer ds e b t ∙ (λ k. record { code = 0; value = 0; devices = eight_of (shown k) })) j }
