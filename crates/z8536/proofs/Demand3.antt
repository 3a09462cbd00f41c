-- Demand 3 of a Z8536, from the core's: T goes to the core, and pointer and state stay. From any record; where it is not sound every T is
-- refused alike.
-- Assumes nothing.
use Prim.Native.Nat.{ℕ}
use mathlib.Core.Path.{◌≡◌, refl, sym, ap, ◌∙◌}
use mathlib.Core.Bool.{Bool, true, false, ◌||◌, So, and-true}
use mathlib.Core.List.{List, [], ◌∷◌, ◌++◌, flatten}
use lib.Dec.{eqb}
use lib.ListN.{length}
use borrow.Author.Tests.{eqb-true}
use Rattle.rules.specs.declared.Device.{Device}
use Rattle.rules.specs.declared.Event.{Event}
use Rattle.rules.specs.declared.Answer.{Answer}
use Rattle.rules.specs.declared.Outcome.{Outcome}
use Rattle.rules.specs.Record.{Shaped}
use Rattle.rules.specs.Registers.{reset}
use Rattle.rules.specs.With.{with_phase}
use Rattle.rules.specs.Report.{sums, reports_added}
use Rattle.rules.specs.Interrupts.{relined}
use Rattle.rules.specs.Sound.{sound_of}
use Rattle.rules.specs.Events.{is_t, relit, outcome_of, unsound_answer, event_of}
use Rattle.basics.specs.Byte.{bit}
use Rattle.basics.specs.Runs.{record_through, answers_through}
use Rattle.basics.proofs.Tests.{both, triple, by-test}
use Rattle.theorems.specs.Traces.{Traced, traced_of}
use Rattle.theorems.specs.Ticks.{only_t, only_t1, all_clocks, answers_added, answers_as_one, as_one}
use Rattle.theorems.proofs.Soundness.{ran-relined}
use Rattle.theorems.proofs.Frame.{frame_step}
use Rattle.theorems.proofs.Reports.{ran-keeps}
use Rattle.theorems.proofs.Versions.{version-kept}
use Rattle.theorems.proofs.Demand3.{ran, none as core-none, under-reset as core-under-reset, cut as core-cut, many as core-many}
use Rattle.z8536.specs.declared.Z8536.{Z8536}
use Rattle.z8536.specs.Z8536.{sound_z8536, reset_clear, accesses, points, ends, after_core, no_address, stands, accessed, event_z8536}
use Rattle.z8536.specs.Runs.{RunZ8536, run_z8536, cut_z8536, one_of}
use Rattle.z8536.proofs.Parts.{parts, whole, clear}
use Rattle.z8536.proofs.Access.{reaches, itself}
use Rattle.z8536.proofs.Runs.{unseen}

-- a core behind the pointer of a Z8536, and what came of its events
abbrev pub behind : Z8536 → Device → Z8536
behind z d = record { core = d; pointer = z.pointer; pointed = z.pointed }

abbrev outcome : Z8536 → Outcome Device Answer → Outcome Z8536 Answer
outcome z o = record { device = behind z o.device; answer = o.answer }

abbrev run : Z8536 → Traced → RunZ8536
run z t = record { answers = t.answers; device = behind z t.device }

-- ---- the clocks keep register 00, so a T neither begins a reset nor ends one
tick-master : (d : Device) (e : Event) → So (is_t e) → sound_of d ≡ true → (event_of d e).device.master ≡ d.master
unfolding relit relined outcome_of
tick-master d e t s =
    ap (λ (o : Outcome Device Answer). o.device.master) (ran d e t s)
    ∙ ran-keeps (λ (e : Device). e.master) (λ e v. refl) (λ e. (frame_step true e (with_phase e false)).master) e.a d

-- T keeps a sound core sound, whatever its shape
tick-core : (d : Device) (e : Event) → So (is_t e) → sound_of d ≡ true → sound_of (event_of d e).device ≡ true
unfolding relit outcome_of
tick-core d e t s = rw (ran d e t s) (ran-relined e.a d s)

module _ (z : Z8536) (e : Event) (t : So (is_t e)) where
  no_access : accesses e ≡ false
  no_access = ap (λ (k : ℕ). eqb k 1 || eqb k 2) (eqb-true e.kind 4 t)

  module _ (s : sound_z8536 z ≡ true) where
    abbrev o : Outcome Device Answer
    o = event_of z.core e

    reset-kept : reset o.device ≡ reset z.core
    reset-kept = ap (λ (m : ℕ). bit m 0) (tick-master z.core e t (parts z s).core)

    stays : after_core z e o ≡ behind z o.device
    unfolding after_core ends
    stays =
        by-test (λ (y : Z8536). y ≡ behind z o.device) (reset o.device) _ _
        (λ r.
        let c = clear z s (sym reset-kept ∙ r) in
        λ i. record { core = o.device; pointer = sym c.pointer i; pointed = sym c.pointed i })
        (λ _. simp (no_access, and-true))

    -- T goes to the core, and pointer and state stay
    pub ticks : event_z8536 z e ≡ outcome z o
    unfolding accessed no_address points
    ticks =
        reaches z e s (simp no_access) (simp (eqb-true e.kind 4 t))
        ∙ ap (λ (f : Event). let p = event_of z.core f in record { device = after_core z e p; answer = p.answer }) (itself z e no_access)
        ∙ ap (λ (y : Z8536). record { device = y; answer = o.answer }) stays

    pub ticks-sound : sound_z8536 (behind z o.device) ≡ true
    unfolding reset_clear
    ticks-sound =
        let part = parts z s in
        whole (behind z o.device)
        (record {
          core = tick-core z.core e t part.core;
          version = version-kept z.core e ∙ part.version;
          pointer = part.pointer;
          clear = rw reset-kept part.clear;
        })

-- where the record is not sound all are refused alike
unsound : (z : Z8536) (e : Event) → sound_z8536 z ≡ false → event_z8536 z e ≡ record { device = z; answer = unsound_answer }
unfolding event_z8536
unsound z e s = simp s

refused-run : (z : Z8536) (f : Event) (l : List Event) → sound_z8536 z ≡ false
    → one_of (run_z8536 z (f ∷ l)) ≡ record { device = z; answer = unsound_answer }
unfolding answers_through record_through answers_as_one reports_added sums
refused-run z f [] s = unsound z f s
refused-run z f (g ∷ l) s =
    ap (λ (o : Outcome Z8536 Answer). then o.answer (one_of (run_z8536 o.device (g ∷ l)))) (unsound z f s)
    ∙ ap (then unsound_answer) (refused-run z g l s)
  where
    then : Answer → Outcome Z8536 Answer → Outcome Z8536 Answer
    then x o = record { device = o.device; answer = answers_added x o.answer }

-- T's one after the other are those of the core, so where one T is such in the core it is in the Z8536: of lists all of whose events are T
module _ (only : List Event → Bool) (each : (e : Event) (l : List Event) → So (only (e ∷ l)) → So (is_t e) × So (only l)) where
  runs : (z : Z8536) (l : List Event) → So (only l) → sound_z8536 z ≡ true → run_z8536 z l ≡ run z (traced_of z.core l)
  unfolding answers_through record_through
  runs z [] h s = refl
  runs z (e ∷ l) h s =
      let t = each e l h in
      let d = (event_of z.core e).device in
      ap (λ (o : Outcome Z8536 Answer). first o.answer (run_z8536 o.device l)) (ticks z e t.0 s)
      ∙ ap (first (event_of z.core e).answer) (runs (behind z d) l t.1 (ticks-sound z e t.0 s))
    where
      first : Answer → RunZ8536 → RunZ8536
      first x r = record { answers = x ∷ r.answers; device = r.device }

  as_core : (v : Bool) (z : Z8536) (e f : Event) (l : List Event) → sound_z8536 z ≡ v → So (is_t e) → So (only (f ∷ l))
      → event_of z.core e ≡ as_one (traced_of z.core (f ∷ l)) → event_z8536 z e ≡ one_of (run_z8536 z (f ∷ l))
  as_core true z e f l s t h q = ticks z e t s ∙ ap (outcome z) q ∙ ap one_of (sym (runs z (f ∷ l) h s))
  as_core false z e f l s t h q = unsound z e s ∙ sym (refused-run z f l s)

-- T n is T's of n clocks together, one after the other, however n is cut: the record, and the answers as one
pub cut : (z : Z8536) (e f : Event) (l : List Event) → So (is_t e) → So (only_t (f ∷ l)) → e.a ≡ all_clocks (f ∷ l)
    → event_z8536 z e ≡ one_of (run_z8536 z (f ∷ l))
unfolding only_t
cut z e f l t h q = as_core only_t (λ e l. both (is_t e) (only_t l)) _ z e f l refl t h (core-cut z.core e f l t h q)

-- and so with anything done at any of the cuts that leaves sound records as they are (a save and its restore)
pub cut_apart : (f : Z8536 → Z8536) → ((z : Z8536) → Shaped z.core → sound_z8536 z ≡ true → f z ≡ z)
    → (z : Z8536) (e g : Event) (l : List Event) (ls : List (List Event)) → Shaped z.core → sound_z8536 z ≡ true
    → So (is_t e) → So (only_t (flatten ((g ∷ l) ∷ ls))) → e.a ≡ all_clocks (flatten ((g ∷ l) ∷ ls))
    → event_z8536 z e ≡ one_of (cut_z8536 f z (g ∷ l) ls)
unfolding flatten
cut_apart f leaves z e g l ls h s t o q = cut z e g (l ++ flatten ls) t o q ∙ ap one_of (sym (unseen f leaves z (g ∷ l) ls h s))

-- T n is n times T 1, for every n from 1 on
pub many : (z : Z8536) (e f : Event) (l : List Event) → So (is_t e) → So (only_t1 (f ∷ l)) → e.a ≡ length (f ∷ l)
    → event_z8536 z e ≡ one_of (run_z8536 z (f ∷ l))
unfolding only_t1
many z e f l t h q =
    as_core only_t1
    (λ e l h.
    let p = triple (is_t e) (eqb e.a 1) (only_t1 l) h in (p.0, p.2))
    _ z e f l refl t h (core-many z.core e f l t h q)

-- T 0 changes nothing, and under RESET "T changes nothing"
pub none : (z : Z8536) (e : Event) → So (is_t e) → e.a ≡ 0 → sound_z8536 z ≡ true → event_z8536 z e ≡ stands 0 z
unfolding stands outcome_of
none z e t n s = ticks z e t s ∙ ap (outcome z) (core-none z.core e t n (parts z s).core)

pub under-reset : (z : Z8536) (e : Event) → So (is_t e) → reset z.core ≡ true → sound_z8536 z ≡ true → event_z8536 z e ≡ stands 0 z
unfolding stands outcome_of
under-reset z e t r s = ticks z e t s ∙ ap (outcome z) (core-under-reset z.core e t r (parts z s).core)
