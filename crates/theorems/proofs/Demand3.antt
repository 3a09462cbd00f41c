-- Paper 01, demand 3: one call for n clocks is n calls for one clock, and every cut gives the same.
-- Each theorem is about the event's own definition, from any record, under its own version, which T keeps (`Versions.version-kept`);
-- where it is not sound every T is refused alike. The numbers that T does not use may be any.
-- Assumes nothing.
use Prim.Native.Nat.{ℕ, ◌+◌, ◌<◌}
use mathlib.Core.Path.{◌≡◌, refl, sym, ap, ◌∙◌}
use mathlib.Core.Bool.{Bool, true, false, ◌&&◌, So, and-false}
use mathlib.Core.List.{List, [], ◌∷◌, ◌++◌, flatten}
use native.Mathlib.Nat.{add-zero}
use native.Mathlib.Omega.{arith}
use lib.Dec.{eqb}
use lib.ListN.{length}
use borrow.Author.Tests.{eqb-true}
use Rattle.rules.specs.declared.Device.{Device}
use Rattle.rules.specs.declared.Event.{Event}
use Rattle.rules.specs.declared.Answer.{Answer}
use Rattle.rules.specs.declared.Outcome.{Outcome}
use Rattle.rules.specs.declared.Ran.{Ran}
use Rattle.rules.specs.Record.{Shaped}
use Rattle.rules.specs.Registers.{reset}
use Rattle.rules.specs.Report.{no_report, sums, reports_added}
use Rattle.rules.specs.Step.{ran_of}
use Rattle.rules.specs.Interrupts.{lines_of, relined}
use Rattle.rules.specs.Sound.{sound_of}
use Rattle.rules.specs.Events.{is_t, unknown, no_register, too_large, held, no_byte, no_room, code_of, effect, clocks_effect, effect_of, relit, answer_of, unsound_answer, outcome_of, event_of}
use Rattle.basics.specs.Runs.{record_through, answers_through}
use Rattle.theorems.specs.Traces.{traced_of, cut_by}
use Rattle.theorems.specs.Ticks.{tick, only_t, only_t1, all_clocks, on_top, answers_added, answers_as_one, as_one}
use Rattle.theorems.specs.Reports.{Fits}
use Rattle.theorems.specs.Free.{timer_clocks}
use Rattle.basics.proofs.Tests.{so-both, left, right}
use Rattle.theorems.proofs.Soundness.{ran-relined}
use Rattle.theorems.proofs.Stored.{relined-blind, sound-relined, ran-blind}
use Rattle.theorems.proofs.Refusals.{unsound}
use Rattle.theorems.proofs.Traces.{unseen}
use Rattle.theorems.proofs.Ignored.{as-tick}
use Rattle.theorems.proofs.Reports.{ran-add, ran-none, ran-held, ran-fits}
use Rattle.theorems.proofs.ReportLaws.{none-fits, fits_more, num-le}

-- ---- what T n answers: the run, or code 9
abbrev ran_outcome : Ran → Outcome Device Answer
ran_outcome s = outcome_of 0 (relit (record { device = s.device; value = 0; report = s.report }))

abbrev refusal : Device → Outcome Device Answer
refusal d = record { device = d; answer = unsound_answer }

tick-ran : (d : Device) (n : ℕ) → sound_of d ≡ true → event_of d (tick n) ≡ ran_outcome (ran_of n d)
unfolding event_of code_of unknown no_register too_large held no_byte no_room effect_of clocks_effect
tick-ran d n s = simp (s, and-false)

module _ (d : Device) (e : Event) (t : So (is_t e)) where
  pub ran : sound_of d ≡ true → event_of d e ≡ ran_outcome (ran_of e.a d)
  ran s = as-tick d e t ∙ tick-ran d e.a s

  pub refused : sound_of d ≡ false → event_of d e ≡ refusal d
  refused s = unsound d e s

  -- ---- T 0 changes nothing, and under RESET "T changes nothing"
  as_it_was : sound_of d ≡ true → ran_outcome (record { device = d; report = no_report }) ≡ outcome_of 0 (effect d 0)
  unfolding relit
  as_it_was s = ap (λ (e : Device). outcome_of 0 (effect e 0)) (sound-relined d s)

  pub none : e.a ≡ 0 → sound_of d ≡ true → event_of d e ≡ outcome_of 0 (effect d 0)
  none z s = ran s ∙ ap ran_outcome (ap (λ (n : ℕ). ran_of n d) z ∙ ran-none d) ∙ as_it_was s

  pub under-reset : reset d ≡ true → sound_of d ≡ true → event_of d e ≡ outcome_of 0 (effect d 0)
  under-reset r s = ran s ∙ ap ran_outcome (ran-held e.a d r) ∙ as_it_was s

  -- ---- reports fit: at most one terminal of each counter in each timer clock, so no count wraps
  fits_by : (v : Bool) → sound_of d ≡ v → Fits (timer_clocks d e.a) (event_of d e).answer.report
  unfolding relit outcome_of answer_of
  fits_by true s = rw (ran s) (ran-fits e.a d)
  fits_by false s = rw (refused s) (fits_more 0 (timer_clocks d e.a) no_report (omega arith) none-fits)

  pub fits : Fits (timer_clocks d e.a) (event_of d e).answer.report
  fits = fits_by _ refl

  pub fits_word : e.a < 4294967296 → Fits 4294967295 (event_of d e).answer.report
  fits_word h =
      let b = num-le d.phase in
      fits_more (timer_clocks d e.a) 4294967295 (event_of d e).answer.report (omega arith) fits

-- ---- cuts
-- an outcome, and another from the record that it left, as one
abbrev then : Outcome Device Answer → Outcome Device Answer → Outcome Device Answer
then o p = record { device = p.device; answer = answers_added o.answer p.answer }

on-top : (o s : Ran) → ran_outcome (on_top o.report s) ≡ then (ran_outcome o) (ran_outcome s)
unfolding relit outcome_of answer_of
on-top o s = refl

-- the clocks of a second T do not look at the lines that the first worked out
next : (d : Device) (a b : ℕ) → sound_of d ≡ true → event_of (event_of d (tick a)).device (tick b) ≡ ran_outcome (ran_of b (ran_of a d).device)
unfolding relined relit outcome_of
next d a b s =
    let e = (ran_of a d).device in
    let l = lines_of e in
    ap (λ (o : Outcome Device Answer). event_of o.device (tick b)) (tick-ran d a s) ∙ tick-ran (relined e) b (ran-relined a d s)
    ∙ ap ran_outcome (ran-blind l b e) ∙ ap (λ (f : Device). outcome_of 0 (record { device = f; value = 0; report = (ran_of b e).report })) (relined-blind _ l)

two-by : (v : Bool) (d : Device) (a b : ℕ) → sound_of d ≡ v
    → event_of d (tick (a + b)) ≡ then (event_of d (tick a)) (event_of (event_of d (tick a)).device (tick b))
unfolding reports_added sums
two-by true d a b s =
    tick-ran d (a + b) s ∙ ap ran_outcome (ran-add a b d) ∙ on-top (ran_of a d) (ran_of b (ran_of a d).device)
    ∙ ap (then (ran_outcome (ran_of a d))) (sym (next d a b s))
    ∙ ap (λ (o : Outcome Device Answer). then o (event_of (event_of d (tick a)).device (tick b))) (sym (tick-ran d a s))
two-by false d a b s =
    unsound d (tick (a + b)) s ∙ ap (then (refusal d)) (sym (unsound d (tick b) s))
    ∙ ap (λ (o : Outcome Device Answer). then o (event_of o.device (tick b))) (sym (unsound d (tick a) s))

-- the clocks of a first T, and the clocks of those after it
cut_by_lem : (d : Device) (f : Event) (l : List Event) → So (is_t f) → So (only_t l) → event_of d (tick (f.a + all_clocks l)) ≡ as_one (traced_of d (f ∷ l))
unfolding only_t all_clocks record_through answers_through answers_as_one
cut_by_lem d f [] t h = ap (λ (n : ℕ). event_of d (tick n)) (add-zero f.a) ∙ sym (as-tick d f t)
cut_by_lem d f (g ∷ l) t h =
    two-by _ d f.a (all_clocks (g ∷ l)) refl
    ∙ ap (λ (o : Outcome Device Answer). then o (event_of o.device (tick (all_clocks (g ∷ l))))) (sym (as-tick d f t))
    ∙ ap (then (event_of d f)) (cut_by_lem (event_of d f).device g l (left (is_t g) (only_t l) h) (right (is_t g) (only_t l) h))

-- T n is T's of n clocks together, one after the other, however n is cut: the record, the lines, and the reports added up
pub cut : (d : Device) (e f : Event) (l : List Event) → So (is_t e) → So (only_t (f ∷ l)) → e.a ≡ all_clocks (f ∷ l)
    → event_of d e ≡ as_one (traced_of d (f ∷ l))
unfolding only_t all_clocks
cut d e f l t h q =
    as-tick d e t ∙ ap (λ (n : ℕ). event_of d (tick n)) q ∙ cut_by_lem d f l (left (is_t f) (only_t l) h) (right (is_t f) (only_t l) h)

-- and so with anything done at any of the cuts that leaves sound records as they are (a save and its restore)
pub cut_apart : (f : Device → Device) → ((d : Device) → Shaped d → sound_of d ≡ true → f d ≡ d)
    → (d : Device) (e g : Event) (l : List Event) (ls : List (List Event)) → Shaped d → sound_of d ≡ true
    → So (is_t e) → So (only_t (flatten ((g ∷ l) ∷ ls))) → e.a ≡ all_clocks (flatten ((g ∷ l) ∷ ls))
    → event_of d e ≡ as_one (cut_by f d (g ∷ l) ls)
unfolding flatten
cut_apart f leaves d e g l ls h s t o q =
    cut d e g (l ++ flatten ls) t o q ∙ ap as_one (sym (unseen f leaves d (g ∷ l) ls h s))

-- ---- events that are all T 1
pub ones-only : (l : List Event) → So (only_t1 l) → So (only_t l)
unfolding only_t only_t1
ones-only [] h = h
ones-only (e ∷ l) h =
    let t = left (is_t e && eqb e.a 1) (only_t1 l) h in
    so-both (left (is_t e) (eqb e.a 1) t) (ones-only l (right (is_t e && eqb e.a 1) (only_t1 l) h))

pub ones-clocks : (l : List Event) → So (only_t1 l) → all_clocks l ≡ length l
unfolding all_clocks only_t1
ones-clocks [] h = refl
ones-clocks (e ∷ l) h =
    let t = left (is_t e && eqb e.a 1) (only_t1 l) h in
    let n = eqb-true e.a 1 (right (is_t e) (eqb e.a 1) t) in
    omega (arith, n, ones-clocks l (right (is_t e && eqb e.a 1) (only_t1 l) h))

-- T n is n times T 1, for every n from 1 on (T 0 is `none` above)
pub many : (d : Device) (e f : Event) (l : List Event) → So (is_t e) → So (only_t1 (f ∷ l)) → e.a ≡ length (f ∷ l)
    → event_of d e ≡ as_one (traced_of d (f ∷ l))
many d e f l t h q = cut d e f l t (ones-only (f ∷ l) h) (q ∙ sym (ones-clocks (f ∷ l) h))
