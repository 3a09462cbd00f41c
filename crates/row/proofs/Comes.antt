-- What the two passes come to, the answer and the row: the definitions of `rows`, for any row and any event.
-- Assumes nothing.
use Rattle.std.specs.Prelude.{if◌then◌else◌, ◌==◌}
use mathlib.Core.Path.{◌≡◌, refl, sym, ◌∙◌, ap}
use Prim.Native.Nat.{ℕ, ◌≤◌}
use native.Mathlib.Omega.{arith}
use mathlib.Core.Bool.{Bool, true, false, not, ◌&&◌, ◌||◌, false≢true}
use mathlib.Core.Logic.{◌⊎◌, inl, inr}
use mathlib.Core.List.{List, [], map}
use lib.Dec.{ltb}
use lib.ListN.{length, length-map, get_or}
use borrow.Author.Tests.{ltb-false, eqb-true}
use Rattle.rules.specs.declared.Device.{Device}
use Rattle.rules.specs.declared.Effect.{Effect}
use Rattle.rules.specs.Record.{fresh_of}
use Rattle.rules.specs.Events.{is_k, code_of, effect}
use Rattle.rows.specs.declared.RowEvent.{RowEvent}
use Rattle.rows.specs.declared.RowAnswer.{RowAnswer}
use Rattle.rows.specs.declared.Shown.{Shown}
use Rattle.rows.specs.Rows.{row_sound, misfits, past_end, row_code, reaches, reached, row_effects, shown_of, eight_of, value_in, dark_answer, row_answer, row_after}
use Rattle.row_visit.specs.declared.Pass.{Pass}
use Rattle.row_visit.specs.Visits.{to_of, pass_begun, looking_of, verdict_of, acting_of}
use Rattle.row.specs.Passes.{look_along, pass_along, row_along}
use Rattle.row.proofs.Looks.{either, goal, reached-goal, verdict-is, look-event-is, look-over-is}
use Rattle.row.proofs.Acts.{act_at, rest-row, rest-answer, show-answer, effects_from, act-row, acted-answer, along-is, eight_is, effects-length}

-- ---- between the passes
-- the pass that acts, by the code
abbrev second : RowEvent → ℕ → Bool → Pass
second e c over = act_at e (c == 0) (not (c == 9 || over)) (to_of e) false 0 true true (dark_answer c)

acting-is : (ds : List Device) (e : RowEvent) → acting_of (look_along ds (looking_of e)) ≡ second e (row_code ds e) (ltb 8 (length ds))
unfolding acting_of pass_begun
acting-is ds e =
    ap (λ (v : RowEvent). pass_begun v (code == 0) (not (code == 9 || ltb 8 (look_along ds (looking_of e)).place)) code) (look-event-is ds e)
    ∙ ap (λ (b : Bool). pass_begun e (code == 0) (not (code == 9 || b)) code) (look-over-is ds e)
    ∙ ap (λ (c : ℕ). second e c (ltb 8 (length ds))) (verdict-is ds e)
  where
    code : ℕ
    code = verdict_of (look_along ds (looking_of e))

-- more than eight are refused
over-refused : (ds : List Device) (e : RowEvent) → ltb 8 (length ds) ≡ true → (row_code ds e == 0) ≡ false
unfolding row_code misfits
over-refused ds e h = by-test (row_sound ds) (length ds == 0) (if is_k e.event && reached ds e == length ds then 6 else code_of (get_or ds (reached ds e) fresh_of) e.event) (past_end ds e)
    (ltb 8 (length ds)) h
  where
    by-test : (sound none : Bool) (rest : ℕ) (past over : Bool) → over ≡ true → ((if not sound then 9 else if (none || over) || past then 13 else rest) == 0) ≡ false
    by-test false none rest past over z = refl
    by-test true true rest past over z = refl
    by-test true false rest past over z = ap (λ (b : Bool). (if b || past then 13 else rest) == 0) z

-- so is what is not shown
dark-refused : (ds : List Device) (e : RowEvent) → (row_code ds e == 9 || ltb 8 (length ds)) ≡ true → (row_code ds e == 0) ≡ false
dark-refused ds e h = by-test (either (row_code ds e == 9)) h
  where
    by-test : ((row_code ds e == 9) ≡ true) ⊎ ((row_code ds e == 9) ≡ false) → (row_code ds e == 9 || ltb 8 (length ds)) ≡ true → (row_code ds e == 0) ≡ false
    by-test (inl n) h = ap (λ (c : ℕ). c == 0) (eqb-true (row_code ds e) 9 n)
    by-test (inr n) h = over-refused ds e (sym (ap (λ (b : Bool). b || ltb 8 (length ds)) n) ∙ h)

-- what is shown has room
shown-fits : (ds : List Device) (c : Bool) → (c || ltb 8 (length ds)) ≡ false → length ds ≤ 8
shown-fits ds true h = absurd (false≢true (sym h))
shown-fits ds false h = ltb-false 8 (length ds) h

-- ---- the effects
effects-are : (ds : List Device) (e : RowEvent) → row_effects ds e ≡ effects_from e (to_of e) false 0 true ds
unfolding row_effects reaches
effects-are ds e = along-is ds e (reached ds e) (to_of e) 0 true (reached-goal ds e ∙ (omega arith))

-- ---- the row
rows-second : (ds : List Device) (e : RowEvent) → row_along ds (second e (row_code ds e) (ltb 8 (length ds))) ≡ row_after ds e
unfolding row_after
rows-second ds e = by-test (either (row_code ds e == 0)) (either (row_code ds e == 9 || ltb 8 (length ds)))
  where
    over : Bool
    over = ltb 8 (length ds)

    c : ℕ
    c = row_code ds e

    to : Bool → Bool → List Device
    to acts shows = row_along ds (act_at e acts shows (to_of e) false 0 true true (dark_answer c))

    by-test : ((c == 0) ≡ true) ⊎ ((c == 0) ≡ false) → ((c == 9 || over) ≡ true) ⊎ ((c == 9 || over) ≡ false)
        → to (c == 0) (not (c == 9 || over)) ≡ (if c == 0 then map (λ r. r.device) (row_effects ds e) else ds)
    by-test (inl z) (inl h) = absurd (false≢true (sym (dark-refused ds e h) ∙ z))
    by-test (inl z) (inr h) =
        ap (λ (b : Bool). to b (not (c == 9 || over))) z ∙ act-row ds e (not (c == 9 || over)) (to_of e) false 0 true true (dark_answer c) (omega (arith, shown-fits ds (c == 9) h))
        ∙ ap (map {A = Effect} {B = Device} (λ r. r.device)) (sym (effects-are ds e)) ∙ sym (ap (λ (b : Bool). if b then map (λ r. r.device) (row_effects ds e) else ds) z)
    by-test (inr z) h =
        ap (λ (b : Bool). to b (not (c == 9 || over))) z ∙ rest-row ds e (not (c == 9 || over)) (to_of e) false 0 true true (dark_answer c)
        ∙ sym (ap (λ (b : Bool). if b then map (λ r. r.device) (row_effects ds e) else ds) z)

pub row-comes : (ds : List Device) (e : RowEvent) → row_along ds (acting_of (look_along ds (looking_of e))) ≡ row_after ds e
row-comes ds e = ap (row_along ds) (acting-is ds e) ∙ rows-second ds e

-- ---- the answer
abbrev answer : ℕ → ℕ → List Shown → RowAnswer
answer c v l = record { code = c; value = v; devices = l }

answer-second : (ds : List Device) (e : RowEvent) → (pass_along ds (second e (row_code ds e) (ltb 8 (length ds)))).answer ≡ row_answer ds e
unfolding row_answer value_in
answer-second ds e = by-test (either (c == 9 || over)) (either (c == 0))
  where
    over : Bool
    over = ltb 8 (length ds)

    c : ℕ
    c = row_code ds e

    to : Bool → Bool → RowAnswer
    to acts shows = (pass_along ds (act_at e acts shows (to_of e) false 0 true true (dark_answer c))).answer

    g : ℕ
    g = goal (is_k e.event) (to_of e) ds

    effects : List Effect
    effects = effects_from e (to_of e) false 0 true ds

    accepted : RowAnswer
    accepted = answer 0 (value_in (reached ds e) (row_effects ds e)) (eight_of (map shown_of (row_effects ds e)))

    refused : RowAnswer
    refused = answer c 0 (eight_of (map (λ d. shown_of (effect d 0)) ds))

    due : Bool → Bool → RowAnswer
    due dark zero = if dark then dark_answer c else if zero then accepted else refused

    by-test : ((c == 9 || over) ≡ true) ⊎ ((c == 9 || over) ≡ false) → ((c == 0) ≡ true) ⊎ ((c == 0) ≡ false)
        → to (c == 0) (not (c == 9 || over)) ≡ due (c == 9 || over) (c == 0)
    by-test (inl h) z =
        ap (λ (b : Bool). to b (not (c == 9 || over))) (dark-refused ds e h) ∙ ap (λ (b : Bool). to false (not b)) h
        ∙ rest-answer ds e (to_of e) false 0 true true c (eight_of []) ∙ sym (ap (λ (b : Bool). due b (c == 0)) h)
    by-test (inr h) (inl z) =
        ap (λ (b : Bool). to b (not (c == 9 || over))) z ∙ ap (λ (b : Bool). to true (not b)) h
        ∙ acted-answer ds e (to_of e) true true c (eight_of []) (shown-fits ds (c == 9) h)
        ∙ ap (answer c (get_or effects g (effect fresh_of 0)).value) (eight_is (map shown_of effects) (omega (
          arith,
          length-map effects shown_of,
          effects-length ds e
              (to_of e) false 0 true,
          shown-fits ds (c == 9) h,
        )))
        ∙ ap (λ (k : ℕ). answer k (get_or effects g (effect fresh_of 0)).value (eight_of (map shown_of effects))) (eqb-true c 0 z)
        ∙ ap (λ (l : List Effect). answer 0 (get_or l g (effect fresh_of 0)).value (eight_of (map shown_of l))) (sym (effects-are ds e))
        ∙ ap (λ (k : ℕ). answer 0 (get_or (row_effects ds e) k (effect fresh_of 0)).value (eight_of (map shown_of (row_effects ds e)))) (sym (reached-goal ds e))
        ∙ sym (ap (λ (b : Bool). due b (c == 0)) h ∙ ap (due false) z)
    by-test (inr h) (inr z) =
        ap (λ (b : Bool). to b (not (c == 9 || over))) z ∙ ap (λ (b : Bool). to false (not b)) h
        ∙ show-answer ds e (to_of e) false 0 true true c (eight_of []) (omega (arith, shown-fits ds (c == 9) h))
        ∙ ap (answer c 0) (eight_is (map (λ d. shown_of (effect d 0)) ds) (omega (arith, length-map ds (λ d. shown_of (effect d 0)), shown-fits ds (c == 9) h)))
        ∙ sym (ap (λ (b : Bool). due b (c == 0)) h ∙ ap (due false) z)

pub answer-comes : (ds : List Device) (e : RowEvent) → (pass_along ds (acting_of (look_along ds (looking_of e)))).answer ≡ row_answer ds e
answer-comes ds e = ap (λ (s : Pass). (pass_along ds s).answer) (acting-is ds e) ∙ answer-second ds e
