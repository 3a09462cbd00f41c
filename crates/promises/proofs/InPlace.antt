-- The call in place and the call by value answer alike; so do those of the CTC, and its two ends of service.
-- Assumes nothing.
use mathlib.Core.Path.{◌≡◌, sym, ap, ◌∙◌}
use seplogic.Ra.Ura.{Ura}
use base.Logic.{SProp, ent}
use prog.Memory.{Memory}
use prog.Routine.{Routine}
use types.Logic.{Logic}
use contract.Lifetimes.{Lfts}
use contract.Monad.{Fun, conj, conj_l, conj_r, fact, fact_i, fact_use}
use denote.MutBor.{MutBor}
use denote.Triple.Clauses.{AtExit}
use Rattle.rules.specs.declared.Device.{Device}
use Rattle.rules.specs.declared.Event.{Event}
use Rattle.rules.specs.declared.Answer.{Answer}
use Rattle.rules.specs.declared.Outcome.{Outcome}
use Rattle.rules.specs.Events.{event_of}
use Rattle.ctc_rules.specs.declared.Ctc.{Ctc}
use Rattle.ctc_rules.specs.declared.CtcAnswer.{CtcAnswer}
use Rattle.ctc_rules.specs.Events.{event_ctc, end_of_service}
use Rattle.event.specs.contracts.event as by_value
use Rattle.inplace.specs.contracts.event_in_place as in_place
use Rattle.ctc_event.specs.contracts.event as ctc-by-value
use Rattle.ctc_place.specs.contracts.event_in_place as ctc-in-place
use Rattle.ctc_event.specs.contracts.end_of_service as end-by-value
use Rattle.ctc_place.specs.contracts.end_of_service_in_place as end-in-place

module _ {M : Type 1} {𝓤 : Ura M} (𝓛 : Logic 𝓤) (at_mem : Memory → SProp 𝓤) (run : Routine → Fun 𝓤) where
  -- "Beside the call that hands a record back there is one that alters the host's device where it stands, with the same answer."
  -- Whatever answers r, with the device lent as it is at the exit x, and s satisfy the two promises for one device and one event, they are the same answer and the same record.
  pub same_answer : (κs : Lfts 1) (d : MutBor Device) (e : Event) (r : Answer) (x : AtExit in_place.ended κs) (s : Outcome Device Answer) (y : AtExit by_value.ended tt)
      → ent 𝓤 (conj 𝓤 ((in_place.clauses 𝓛 at_mem run κs (d, (e, tt))).ensures tt r x) ((by_value.clauses 𝓛 at_mem run tt (d.now, (e, tt))).ensures tt s y))
      (fact 𝓤 ((r ≡ s.answer) × (x.0.now ≡ s.device)))
  same_answer κs d e r x s y =
      let P = (in_place.clauses 𝓛 at_mem run κs (d, (e, tt))).ensures tt r x in
      let Q = (by_value.clauses 𝓛 at_mem run tt (d.now, (e, tt))).ensures tt s y in
      fact_use 𝓤 ((r ≡ (event_of d.now e).answer) × (x.0.now ≡ (event_of d.now e).device)) (conj_l 𝓤 P Q) (λ p.
      fact_use 𝓤 (s ≡ event_of d.now e) (conj_r 𝓤 P Q) (λ q.
      fact_i 𝓤 ((r ≡ s.answer) × (x.0.now ≡ s.device)) _ (p.0 ∙ sym (ap (λ (o : Outcome Device Answer). o.answer) q), p.1 ∙ sym (ap (λ (o : Outcome Device Answer). o.device) q))))

  -- of the CTC (paper 02, W-213)
  pub same-answer-ctc : (κs : Lfts 1) (d : MutBor Ctc) (e : Event) (r : CtcAnswer) (x : AtExit ctc-in-place.ended κs) (s : Outcome Ctc CtcAnswer) (y : AtExit ctc-by-value.ended tt)
      → ent 𝓤 (conj 𝓤 ((ctc-in-place.clauses 𝓛 at_mem run κs (d, (e, tt))).ensures tt r x) ((ctc-by-value.clauses 𝓛 at_mem run tt (d.now, (e, tt))).ensures tt s y))
      (fact 𝓤 ((r ≡ s.answer) × (x.0.now ≡ s.device)))
  same-answer-ctc κs d e r x s y =
      let P = (ctc-in-place.clauses 𝓛 at_mem run κs (d, (e, tt))).ensures tt r x in
      let Q = (ctc-by-value.clauses 𝓛 at_mem run tt (d.now, (e, tt))).ensures tt s y in
      fact_use 𝓤 ((r ≡ (event_ctc d.now e).answer) × (x.0.now ≡ (event_ctc d.now e).device)) (conj_l 𝓤 P Q) (λ p.
      fact_use 𝓤 (s ≡ event_ctc d.now e) (conj_r 𝓤 P Q) (λ q.
      fact_i 𝓤 ((r ≡ s.answer) × (x.0.now ≡ s.device)) _ (p.0 ∙ sym (ap (λ (o : Outcome Ctc CtcAnswer). o.answer) q), p.1 ∙ sym (ap (λ (o : Outcome Ctc CtcAnswer). o.device) q))))

  pub same_end : (κs : Lfts 1) (d : MutBor Ctc) (r : CtcAnswer) (x : AtExit end-in-place.ended κs) (s : Outcome Ctc CtcAnswer) (y : AtExit end-by-value.ended tt)
      → ent 𝓤 (conj 𝓤 ((end-in-place.clauses 𝓛 at_mem run κs (d, tt)).ensures tt r x) ((end-by-value.clauses 𝓛 at_mem run tt (d.now, tt)).ensures tt s y))
      (fact 𝓤 ((r ≡ s.answer) × (x.0.now ≡ s.device)))
  same_end κs d r x s y =
      let P = (end-in-place.clauses 𝓛 at_mem run κs (d, tt)).ensures tt r x in
      let Q = (end-by-value.clauses 𝓛 at_mem run tt (d.now, tt)).ensures tt s y in
      fact_use 𝓤 ((r ≡ (end_of_service d.now).answer) × (x.0.now ≡ (end_of_service d.now).device)) (conj_l 𝓤 P Q) (λ p.
      fact_use 𝓤 (s ≡ end_of_service d.now) (conj_r 𝓤 P Q) (λ q.
      fact_i 𝓤 ((r ≡ s.answer) × (x.0.now ≡ s.device)) _ (p.0 ∙ sym (ap (λ (o : Outcome Ctc CtcAnswer). o.answer) q), p.1 ∙ sym (ap (λ (o : Outcome Ctc CtcAnswer). o.device) q))))
