-- A device of a sound row of one to eight goes by itself: its record after an event is that of its own event, if the event reaches it, and
-- then IEI from the chain; and so its part of the answer. The row's code is that of any device that the event reaches.
-- Assumes nothing.
use Prim.Native.Nat.{ℕ, zero, suc, ◌≤◌, ◌<◌}
use mathlib.Core.Path.{◌≡◌, refl, sym, ap, ◌∙◌}
use mathlib.Core.Bool.{Bool, true, false, ◌&&◌, ◌||◌, cond, and-false, or-true, false≢true}
use mathlib.Core.List.{List, [], ◌∷◌, map}
use native.Mathlib.Omega.{arith}
use lib.Dec.{eqb}
use lib.ListN.{get_or, length}
use borrow.Author.Tests.{eqb-true, eqb-false, eq-eqb, ne_eqb, le-ltb, lt-leb, ltb-false}
use Rattle.rules.specs.declared.Device.{Device}
use Rattle.rules.specs.declared.Event.{Event}
use Rattle.rules.specs.declared.Effect.{Effect}
use Rattle.rules.specs.declared.Answer.{Answer}
use Rattle.rules.specs.declared.Outcome.{Outcome}
use Rattle.rules.specs.declared.Report.{Report}
use Rattle.rules.specs.With.{with_lines}
use Rattle.rules.specs.Record.{fresh_of}
use Rattle.rules.specs.Interrupts.{lines_of, relined}
use Rattle.rules.specs.Sound.{sound_of}
use Rattle.rules.specs.Events.{is_t, is_k, code_of, effect, answer_of, outcome_of, event_of}
use Rattle.basics.proofs.Tests.{never, not_so}
use Rattle.theorems.proofs.Refusals.{code_is as device-code, refused-keeps as device-kept, refused-value, refused-report}
use Rattle.theorems.proofs.Stored.{sound-lines, lines-true}
use Rattle.theorems.proofs.Demand3.{ran}
use Rattle.rows.specs.declared.RowEvent.{RowEvent}
use Rattle.rows.specs.declared.Shown.{Shown}
use Rattle.rows.specs.declared.RowAnswer.{RowAnswer}
use Rattle.rows.specs.Rows.{row_sound, names, reached, reaches, misfits, past_end, row_code, iei_from, reached_by, part_of, row_effects}
use Rattle.rows.specs.Rows.{shown_of, shown_for, eight_of, value_in, row_answer, row_after}
use Rattle.row_laws.specs.Desk.{Board, device_at, own_effect, iei_after, Own, own_of}
use Rattle.row_laws.proofs.Along.{nothing, places}
use Rattle.row_laws.proofs.After.{ieo_before, refused, either, effects-length, device-at, effect-at, after-at}
use Rattle.row_laws.proofs.Refusals.{code_is, refused-answer, code-9}

-- ---- of one device
-- T is accepted by every sound device
pub t_code : (d : Device) (e : Event) → is_t e ≡ true → sound_of d ≡ true → code_of d e ≡ 0
unfolding outcome_of answer_of
t_code d e t s = sym (device-code d e) ∙ ap (λ (o : Outcome Device Answer). o.answer.code) (ran d e t s)

-- IEI as it is changes nothing where the lines are true
pub joined-own : (d : Device) → d.lines ≡ lines_of d → iei_from d.iei d ≡ d
unfolding iei_from relined
joined-own d t = ap (with_lines d) (sym t)

pub reached-lines : (does : Bool) (e : Event) (d : Device) → sound_of d ≡ true → (reached_by does e d).device.lines ≡ lines_of (reached_by does e d).device
unfolding reached_by
reached-lines true e d s = lines-true d e s
reached-lines false e d s = sound-lines d s

-- IEI from the one before is what the device then has, of the first as it is
pub part-own : (does : Bool) (e : Event) (i : ℕ) (high : Bool) (d : Device) → sound_of d ≡ true
    → (part_of does e i high d).device ≡ iei_from (part_of does e i high d).device.iei (reached_by does e d).device
unfolding part_of iei_from relined
part-own does e zero high d s = sym (joined-own (reached_by does e d).device (reached-lines does e d s))
part-own does e (suc i) high d s = refl

part-report : (does : Bool) (e : Event) (i : ℕ) (high : Bool) (d : Device) → (part_of does e i high d).report ≡ (reached_by does e d).report
unfolding part_of
part-report does e zero high d = refl
part-report does e (suc i) high d = refl

part-value : (does : Bool) (e : Event) (i : ℕ) (high : Bool) (d : Device) → (part_of does e i high d).value ≡ (reached_by does e d).value
unfolding part_of
part-value does e zero high d = refl
part-value does e (suc i) high d = refl

-- what the answer shows of a device, by its record and its counts
abbrev pub after : Device → Report → Effect
after d r = record { device = d; value = 0; report = r }

-- and of its answer: code and value of its event if the event reached it, and what is shown
abbrev pub own_by : Bool → Answer → Shown → Own
own_by reached x shown = record { code = cond reached x.code 0; value = cond reached x.value 0; shown = shown }

if-reached : (v : Bool) (n m : ℕ) → (v ≡ true → n ≡ m) → ◌≡◌ {A = ℕ} (cond v n 0) (cond v m 0)
if-reached true n m h = h refl
if-reached false n m h = refl

-- ---- the answer's places
pub at-eight : (l : List Shown) (i : ℕ) → i < 8 → shown_for (eight_of l) i ≡ shown_for l i
unfolding eight_of
at-eight l zero h = refl
at-eight l (suc zero) h = refl
at-eight l (suc (suc zero)) h = refl
at-eight l (suc (suc (suc zero))) h = refl
at-eight l (suc (suc (suc (suc zero)))) h = refl
at-eight l (suc (suc (suc (suc (suc zero))))) h = refl
at-eight l (suc (suc (suc (suc (suc (suc zero)))))) h = refl
at-eight l (suc (suc (suc (suc (suc (suc (suc zero))))))) h = refl
at-eight l (suc (suc (suc (suc (suc (suc (suc (suc i)))))))) h = absurd (omega arith)

pub at_map : {A B : Type 0} (f : A → B) (l : List A) (i : ℕ) (x : A) (y : B) → i < length l → get_or (map f l) i y ≡ f (get_or l i x)
at_map f [] i x y h = absurd (omega arith)
at_map f (a ∷ l) zero x y h = refl
at_map f (a ∷ l) (suc i) x y h = at_map f l i x y (omega arith)

neither : (a b : Bool) → (a || b) ≡ false → (a ≡ false) × (b ≡ false)
neither true b h = absurd (never h refl)
neither false b h = (refl, h)

-- one to eight
pub one-or-more : (ds : List Device) → Board ds → 0 < length ds
unfolding misfits
one-or-more ds b = not-zero (length ds) (eqb-false (length ds) 0 (neither (eqb (length ds) 0) _ b.size).0)
  where
    not-zero : (n : ℕ) → (n ≡ 0 → ⊥) → 0 < n
    not-zero n h = omega arith

pub at-most-eight : (ds : List Device) → Board ds → length ds ≤ 8
unfolding misfits
at-most-eight ds b = ltb-false 8 (length ds) (neither (eqb (length ds) 0) _ b.size).1

module _ (ds : List Device) (e : RowEvent) (b : Board ds) where
  -- ---- the code is that of the device that the event reaches
  no-misfit : past_end ds e ≡ false → (is_k e.event && eqb (reached ds e) (length ds)) ≡ false
      → row_code ds e ≡ code_of (device_at ds (reached ds e)) e.event
  unfolding row_code
  no-misfit p k = simp (b.sound, b.size, p, k)

  inside-by : (v : Bool) → names e.event ≡ v → reached ds e < length ds → past_end ds e ≡ false
  unfolding past_end reached
  inside-by true q h = simp (q, lt-leb (length ds) e.device (rw q at h))
  inside-by false q h = simp q

  inside : reached ds e < length ds → row_code ds e ≡ code_of (device_at ds (reached ds e)) e.event
  inside h = no-misfit (inside-by _ refl h) (simp (ne_eqb (reached ds e) (length ds) (λ q. omega arith), and-false))

  pub t-reached : is_t e.event ≡ true → reached ds e ≡ 0
  unfolding reached names
  t-reached t = simp (eqb-true e.event.kind 4 t)

  code_by : (v : Bool) (i : ℕ) → is_t e.event ≡ v → i < length ds → (is_t e.event || eqb i (reached ds e)) ≡ true
      → row_code ds e ≡ code_of (device_at ds i) e.event
  code_by true i t h r =
      inside (rw (t-reached t) (omega arith)) ∙ t_code _ e.event t ((places ds b.sound).sound (reached ds e))
      ∙ sym (t_code (device_at ds i) e.event t ((places ds b.sound).sound i))
  code_by false i t h r =
      let q = eqb-true i (reached ds e) (rw t at r) in
      inside (rw (sym q) h) ∙ ap (λ (n : ℕ). code_of (device_at ds n) e.event) (sym q)

  pub code-reached : (i : ℕ) → i < length ds → reaches ds e i ≡ true → row_code ds e ≡ code_of (device_at ds i) e.event
  unfolding reaches
  code-reached i h r = code_by _ i refl h r

  pub accepted-answer : row_code ds e ≡ 0
      → row_answer ds e ≡ record { code = 0; value = value_in (reached ds e) (row_effects ds e); devices = eight_of (map shown_of (row_effects ds e)) }
  unfolding row_answer
  accepted-answer z = simp (z, le-ltb 8 (length ds) (at-most-eight ds b))

  -- no event of a sound row gets 9
  no_9 : row_code ds e ≡ 9 → ⊥
  no_9 n = never (not_so (row_sound ds) ((code-9 ds e).0 n)) b.sound

  module _ (i : ℕ) (h : i < length ds) where
    abbrev own : Effect
    own = own_effect ds e i

    -- a refused event does nothing
    own-refused : (v : Bool) → reaches ds e i ≡ v → (row_code ds e ≡ 0 → ⊥) → reached_by v e.event (device_at ds i) ≡ effect (device_at ds i) 0
    unfolding reached_by
    own-refused true r n =
        let d = device_at ds i in
        let m : (event_of d e.event).answer.code ≡ 0 → ⊥ = λ z. n (code-reached i h r ∙ sym (device-code d e.event) ∙ z) in
        λ j. record { device = device-kept d e.event m j; value = refused-value d e.event m j; report = refused-report d e.event m j }
    own-refused false r n = refl

    pub own-kept : (row_code ds e ≡ 0 → ⊥) → own_effect ds e i ≡ effect (device_at ds i) 0
    own-kept n = own-refused _ refl n

    -- its record after the event is that of its own event, and then IEI from the chain
    pub by_itself : device_at (row_after ds e) i ≡ iei_from (iei_after ds e i) (own_effect ds e i).device
    by_itself =
        let d = device_at ds i in
        let s = (places ds b.sound).sound i in
        either ds e (device_at (row_after ds e) i ≡ iei_from (iei_after ds e i) own.device)
        (λ z.
        let q = after-at ds e z i h in
        q ∙ part-own (reaches ds e i) e.event i (ieo_before (row_after ds e) i) d s ∙ ap (λ (x : Device). iei_from x.iei own.device) (sym q))
        (λ n.
        let q : device_at (row_after ds e) i ≡ d = ap (λ (l : List Device). device_at l i) (refused ds e n) in
        let k = own-kept n in
        q ∙ sym (joined-own d (sound-lines d s)) ∙ (λ j. iei_from (sym q j).iei (sym k j).device))

    -- its pins, lines and counts in the answer are those of that record, and the counts of its own event
    pub shown-itself : shown_for (row_answer ds e).devices i ≡ shown_of (after (device_at (row_after ds e) i) (own_effect ds e i).report)
    unfolding shown_of
    shown-itself =
        let few = at-most-eight ds b in
        let d = device_at ds i in
        either ds e (shown_for (row_answer ds e).devices i ≡ shown_of (after (device_at (row_after ds e) i) own.report))
        (λ z.
        let r = ap (λ (r : Effect). r.report) (effect-at ds e z i h) ∙ part-report (reaches ds e i) e.event i (ieo_before (row_after ds e) i) d in
        ap (λ (r : RowAnswer). shown_for r.devices i) (accepted-answer z) ∙ at-eight _ i (omega arith)
        ∙ at_map shown_of (row_effects ds e) i nothing _ (rw (effects-length ds e) h)
        ∙ (λ j. shown_of (after (sym (device-at ds e z i) j) (r j))))
        (λ n.
        ap (λ (r : RowAnswer). shown_for r.devices i) (refused-answer ds e n no_9 few) ∙ at-eight _ i (omega arith)
        ∙ at_map (λ (x : Device). shown_of (effect x 0)) ds i fresh_of _ h
        ∙ (λ j. shown_of (after (device_at (sym (refused ds e n) j) i) (sym (own-kept n) j).report)))

    -- if it is the one reached, the code and the value are those of its own event
    pub code-itself : i ≡ reached ds e → (row_answer ds e).code ≡ (event_of (device_at ds i) e.event).answer.code
    unfolding reaches
    code-itself q = code_is ds e ∙ code-reached i h (simp (eq-eqb i (reached ds e) q, or-true)) ∙ sym (device-code (device_at ds i) e.event)

    value-by : (v : Bool) → reaches ds e i ≡ v → v ≡ true → own.value ≡ (event_of (device_at ds i) e.event).answer.value
    unfolding reached_by
    value-by true r t = simp r
    value-by false r t = absurd (false≢true t)

    pub value-itself : i ≡ reached ds e → (row_answer ds e).value ≡ (event_of (device_at ds i) e.event).answer.value
    unfolding reaches value_in
    value-itself q =
        let t : reaches ds e i ≡ true = simp (eq-eqb i (reached ds e) q, or-true) in
        either ds e ((row_answer ds e).value ≡ (event_of (device_at ds i) e.event).answer.value)
        (λ z.
        ap (λ (r : RowAnswer). r.value) (accepted-answer z) ∙ ap (λ (n : ℕ). value_in n (row_effects ds e)) (sym q)
        ∙ ap (λ (r : Effect). r.value) (effect-at ds e z i h)
        ∙ part-value (reaches ds e i) e.event i (ieo_before (row_after ds e) i) (device_at ds i)
        ∙ value-by _ refl t)
        (λ n.
        ap (λ (r : RowAnswer). r.value) (refused-answer ds e n no_9 (at-most-eight ds b))
        ∙ sym (refused-value (device_at ds i) e.event (λ z. n (code-reached i h t ∙ sym (device-code (device_at ds i) e.event) ∙ z))))

    -- so its answer is that of its own event
    pub answer-itself : own_of ds e i
        ≡ own_by (eqb i (reached ds e)) (event_of (device_at ds i) e.event).answer (shown_of (after (device_at (row_after ds e) i) (own_effect ds e i).report))
    unfolding own_of
    answer-itself =
        λ j. record {
          code = if-reached (eqb i (reached ds e)) _ _ (λ q. code-itself (eqb-true i (reached ds e) q)) j;
          value = if-reached (eqb i (reached ds e)) _ _ (λ q. value-itself (eqb-true i (reached ds e) q)) j;
          shown = shown-itself j;
        }

-- IEI of the first is its own; of the others it is IEO of the one before, `Soundness.chain-kept`
pub first-iei : (ds : List Device) (e : RowEvent) → Board ds → 0 < length ds → iei_after ds e 0 ≡ (own_effect ds e 0).device.iei
unfolding part_of
first-iei ds e b h =
    either ds e (iei_after ds e 0 ≡ (own_effect ds e 0).device.iei) (λ z. ap (λ (d : Device). d.iei) (after-at ds e z 0 h))
    (λ n. ap (λ (l : List Device). (device_at l 0).iei) (refused ds e n) ∙ ap (λ (r : Effect). r.device.iei) (sym (own-kept ds e b 0 h n)))
