-- Paper 02, W-212: "T goes to all." In a sound row of one to eight it changes no IEO, so the chain stays and each device goes by itself: row
-- and answer are those of each device's own T.
-- Assumes nothing.
use Prim.Native.Nat.{ℕ, zero, suc}
use mathlib.Core.Path.{◌≡◌, refl, sym, ap, ◌∙◌}
use mathlib.Core.Bool.{Bool, true, ◌||◌, beq, So}
use mathlib.Core.List.{List, [], ◌∷◌, map, map-map}
use lib.Dec.{eqb, ltb}
use Rattle.rules.specs.declared.Device.{Device}
use Rattle.rules.specs.declared.Event.{Event}
use Rattle.rules.specs.declared.Effect.{Effect}
use Rattle.rules.specs.declared.Answer.{Answer}
use Rattle.rules.specs.declared.Outcome.{Outcome}
use Rattle.rules.specs.Sound.{sound_of}
use Rattle.rules.specs.Events.{is_t, relit, answer_of, outcome_of, event_of}
use Rattle.basics.proofs.Tests.{left, right}
use Rattle.theorems.proofs.Equal.{beq-true}
use Rattle.theorems.proofs.Soundness.{fresh-sound}
use Rattle.theorems.proofs.Stored.{lines-true}
use Rattle.theorems.proofs.Demand3.{ran}
use Rattle.rows.specs.declared.RowEvent.{RowEvent}
use Rattle.rows.specs.declared.Shown.{Shown}
use Rattle.rows.specs.declared.RowAnswer.{RowAnswer}
use Rattle.rows.specs.Rows.{each_sound, chained, row_sound, misfits, reaches, row_code, iei_from, reached_by, part_of, along_row, row_effects}
use Rattle.rows.specs.Rows.{shown_of, eight_of, row_answer, row_after}
use Rattle.row_laws.specs.Desk.{Board, device_at}
use Rattle.row_laws.specs.RowTicks.{RowTurn, row_turn}
use Rattle.row_laws.proofs.Along.{places, whole}
use Rattle.row_laws.proofs.After.{accepted, length-kept}
use Rattle.row_laws.proofs.Refusals.{code_is}
use Rattle.row_laws.proofs.Soundness.{chain-kept}
use Rattle.row_laws.proofs.Itself.{t_code, joined-own, one-or-more, code-reached, accepted-answer, t-reached, value-itself}
use Rattle.row_laws.proofs.Ticks.{iei-kept, ieo-kept, ticks-sound}

-- what an answer shows of its device
abbrev pub shown_in : Answer → Shown
shown_in x = record { a = x.a; b = x.b; c = x.c; int = x.int; ieo = x.ieo; report = x.report }

-- a row of which each device has an outcome of its own
abbrev pub each_turn : (Device → Outcome Device Answer) → List Device → RowTurn
each_turn o ds = record { row = map (λ d. (o d).device) ds; answer = record { code = 0; value = 0; devices = eight_of (map (λ d. shown_in (o d).answer) ds) } }

-- what is the same of each sound device is the same of a row of them
pub same-each : {A : Type 0} (f g : Device → A) (ds : List Device) → each_sound ds ≡ true → ((d : Device) → sound_of d ≡ true → f d ≡ g d) → map f ds ≡ map g ds
unfolding each_sound
same-each f g [] s h = refl
same-each f g (d ∷ ds) s h =
    λ i. h d (left (sound_of d) (each_sound ds) s) i ∷ same-each f g ds (right (sound_of d) (each_sound ds) s) h i

module _ (e : Event) (t : So (is_t e)) where
  -- T goes to a device, and IEI comes to it as it was
  part-t : (i : ℕ) (high : Bool) (d : Device) → sound_of d ≡ true → d.iei ≡ high → part_of true e (suc i) high d ≡ reached_by true e d
  unfolding part_of reached_by
  part-t i high d s q =
      let x = (event_of d e).device in
      let j = ap (λ (v : Bool). iei_from v x) (sym (iei-kept d e t s ∙ q)) ∙ joined-own x (lines-true d e s) in
      λ k. record { device = j k; value = (event_of d e).answer.value; report = (event_of d e).answer.report }

  -- so along the row
  module _ (who : ℕ → Bool) (all : (i : ℕ) → who i ≡ true) where
    here : (i : ℕ) (high : Bool) (d : Device) → sound_of d ≡ true → d.iei ≡ high → part_of (who (suc i)) e (suc i) high d ≡ reached_by true e d
    here i high d s q = ap (λ (v : Bool). part_of v e (suc i) high d) (all (suc i)) ∙ part-t i high d s q

    -- the next device's IEI is the IEO of one that T reached
    next-iei : (d f : Device) (ds : List Device) (r : Effect) → r ≡ reached_by true e d → sound_of d ≡ true → chained (d ∷ f ∷ ds) ≡ true
        → f.iei ≡ r.device.lines.ieo
    unfolding chained reached_by
    next-iei d f ds r p s c =
        beq-true f.iei d.lines.ieo (left (beq f.iei d.lines.ieo) (chained (f ∷ ds)) c) ∙ sym (ieo-kept d e t s)
        ∙ sym (ap (λ (x : Effect). x.device.lines.ieo) p)

    next-chained : (d f : Device) (ds : List Device) → chained (d ∷ f ∷ ds) ≡ true → chained (f ∷ ds) ≡ true
    unfolding chained
    next-chained d f ds c = right (beq f.iei d.lines.ieo) (chained (f ∷ ds)) c

    along-rest : (i : ℕ) (high : Bool) (d : Device) (ds : List Device) → each_sound (d ∷ ds) ≡ true → chained (d ∷ ds) ≡ true → d.iei ≡ high
        → along_row who e (suc i) high (d ∷ ds) ≡ map (reached_by true e) (d ∷ ds)
    unfolding along_row each_sound
    along-rest i high d [] s c q = ap (λ (r : Effect). r ∷ []) (here i high d (left (sound_of d) true s) q)
    along-rest i high d (f ∷ ds) s c q =
        let p = here i high d (left (sound_of d) (each_sound (f ∷ ds)) s) q in
        let r = part_of (who (suc i)) e (suc i) high d in
        λ k. p k
        ∷ along-rest (suc i) r.device.lines.ieo f ds (right (sound_of d) (each_sound (f ∷ ds)) s) (next-chained d f ds c)
        (next-iei d f ds r p (left (sound_of d) (each_sound (f ∷ ds)) s) c) k

    first : (d : Device) (high : Bool) → part_of (who 0) e 0 high d ≡ reached_by true e d
    unfolding part_of
    first d high = ap (λ (v : Bool). reached_by v e d) (all 0)

    along-all : (ds : List Device) (high : Bool) → each_sound ds ≡ true → chained ds ≡ true → along_row who e 0 high ds ≡ map (reached_by true e) ds
    unfolding along_row each_sound
    along-all [] high s c = refl
    along-all (d ∷ []) high s c = ap (λ (r : Effect). r ∷ []) (first d high)
    along-all (d ∷ f ∷ ds) high s c =
        let p = first d high in
        let r = part_of (who 0) e 0 high d in
        λ k. p k
        ∷ along-rest 0 r.device.lines.ieo f ds (right (sound_of d) (each_sound (f ∷ ds)) s) (next-chained d f ds c)
        (next-iei d f ds r p (left (sound_of d) (each_sound (f ∷ ds)) s) c) k

  -- what T answers of a sound device is what the row shows of it
  shown-t : (d : Device) → sound_of d ≡ true → shown_of (reached_by true e d) ≡ shown_in (event_of d e).answer
  unfolding reached_by shown_of outcome_of answer_of
  shown-t d s = rw (ran d e t s)

  value-t : (d : Device) → sound_of d ≡ true → (event_of d e).answer.value ≡ 0
  unfolding outcome_of answer_of relit
  value-t d s = ap (λ (o : Outcome Device Answer). o.answer.value) (ran d e t s)

-- each stays sound
each-ticked : (e : Event) → So (is_t e) → (ds : List Device) → each_sound ds ≡ true → (i : ℕ) → sound_of (device_at (map (λ d. (event_of d e).device) ds) i) ≡ true
unfolding each_sound
each-ticked e t [] s i = fresh-sound
each-ticked e t (d ∷ ds) s zero = ticks-sound d e t (left (sound_of d) (each_sound ds) s)
each-ticked e t (d ∷ ds) s (suc i) = each-ticked e t ds (right (sound_of d) (each_sound ds) s) i

-- ---- T goes to all, and each device goes by itself
module _ (ds : List Device) (e : RowEvent) (b : Board ds) (t : So (is_t e.event)) where
  pub each-one : each_sound ds ≡ true
  unfolding row_sound
  each-one = left (each_sound ds) (chained ds) b.sound

  effects-t : row_effects ds e ≡ map (reached_by true e.event) ds
  unfolding row_effects reaches row_sound
  effects-t = along-all e.event t (reaches ds e) (λ i. simp t) ds true each-one (right (each_sound ds) (chained ds) b.sound)

  -- T is accepted
  pub t-accepted : row_code ds e ≡ 0
  unfolding reaches
  t-accepted =
      code-reached ds e b 0 (one-or-more ds b) (simp t) ∙ t_code (device_at ds 0) e.event t ((places ds b.sound).sound 0)

  pub t-row : row_after ds e ≡ map (λ d. (event_of d e.event).device) ds
  unfolding reached_by
  t-row = accepted ds e t-accepted ∙ ap (map (λ (r : Effect). r.device)) effects-t ∙ map-map (λ (r : Effect). r.device) (reached_by true e.event) ds

  pub t-answer : row_answer ds e ≡ record { code = 0; value = 0; devices = eight_of (map (λ d. shown_in (event_of d e.event).answer) ds) }
  t-answer =
      let f = e.event in
      let v = value-itself ds e b 0 (one-or-more ds b) (sym (t-reached ds e b t)) ∙ value-t f t (device_at ds 0) ((places ds b.sound).sound 0) in
      let shown =
      ap (map shown_of) effects-t ∙ map-map shown_of (reached_by true f) ds
      ∙ same-each (λ d. shown_of (reached_by true f d)) (λ d. shown_in (event_of d f).answer) ds each-one (shown-t f t) in
      let l = ap (λ (r : RowAnswer). r.devices) (accepted-answer ds e b t-accepted) ∙ ap eight_of shown in
      λ j. record { code = (code_is ds e ∙ t-accepted) j; value = v j; devices = l j }

  pub t-each : row_turn ds e ≡ each_turn (λ d. event_of d e.event) ds
  t-each = λ j. record { row = t-row j; answer = t-answer j }

  -- a sound row of one to eight stays one, whatever its shape
  pub t-board : Board (row_after ds e)
  unfolding misfits
  t-board =
      record {
        sound = whole (row_after ds e) (record { sound = λ i. rw t-row (each-ticked e.event t ds each-one i); iei = chain-kept ds e b.sound });
        size = ap (λ (n : ℕ). eqb n 0 || ltb 8 n) (length-kept ds e) ∙ b.size;
      }
