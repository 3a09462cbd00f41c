-- What a host of a Z8036 lives by. A state that `Holds` a record is an accepted image of that record. Every call that is not refused leaves the
-- image of the record after it, which the next call accepts; so calls one after the other, each on the bytes that the one before it left, have
-- the answers and the record of the calls by value. A refused call touches nothing.
-- Assumes nothing.
use Prim.Native.Nat.{ℕ, ◌≤◌, ◌<◌}
use mathlib.Core.Path.{◌≡◌, refl, sym, ap, subst, ◌∙◌}
use mathlib.Core.List.{List, ◌++◌, map}
use native.Mathlib.Omega.{arith}
use lib.ListN.{length, drop}
use Rattle.basics.specs.Runs.{record_through, answers_through}
use Rattle.rules.specs.declared.Device.{Device}
use Rattle.rules.specs.declared.Event.{Event}
use Rattle.rules.specs.Record.{fresh_of, image_len}
use Rattle.rules.specs.Interrupts.{relined}
use Rattle.rules.specs.Events.{event_of}
use Rattle.theorems.specs.Traces.{next_of, answer_to, record_after, answers_of}
use Rattle.theorems.proofs.Soundness.{Good, event-good, fresh-sound}
use Rattle.theorems.proofs.Shapes.{fresh-shaped}
use Rattle.theorems.proofs.Versions.{version-kept}
use Rattle.bodies.specs.Layout.{layout_of, layout_in, length_of}
use Rattle.bodies.specs.Written.{image_of}
use Rattle.bodies.specs.Taken.{registers_in, counts_in, pins_in, lines_in, transfers_in, record_in, device_in}
use Rattle.bodies.proofs.Whole.{of_image}
use Rattle.bodies.proofs.LayoutLaw.{length-of}
use Rattle.image.specs.declared.Restored.{Restored}
use Rattle.image.specs.Image.{saved_of, restored_of}
use Rattle.image.proofs.Codes.{save-0}
use Rattle.image.proofs.Answers.{accepted, saved-whole}
use Rattle.image.proofs.RoundTrip.{restored-image, accepted-sound, accepted-shaped}
use Rattle.host.specs.Bytes.{reply_bytes, answer_len}
use Rattle.host.specs.Calls.{Called, called, call_of, host_event}
use Rattle.host.specs.Laws.{answer_long}
use Rattle.host.proofs.Chain.{no-image, no_room_lem, done, all_of, states, answers}

abbrev pub Holds : List ℕ → Device → Type 0
Holds s d = restored_of s ≡ record { code = 0; device = d }

pub fresh_holds : Holds (image_of fresh_of) fresh_of
fresh_holds = restored-image fresh_of fresh-shaped fresh-sound

good : (s : List ℕ) (d : Device) → Holds s d → Good d
good s d h =
    let z = ap (λ (r : Restored Device). r.code) h in
    subst Good (ap (λ (r : Restored Device). r.device) h) (accepted-shaped s z, accepted-sound s z)

-- a state is as long as its record's image
in-layout : (s : List ℕ) → layout_of (device_in (layout_in s) s) ≡ layout_in s
unfolding layout_of device_in record_in registers_in counts_in pins_in lines_in transfers_in relined
in-layout s = of_image (λ l. layout_of (device_in l s) ≡ l) refl refl s

long : (s : List ℕ) (d : Device) → Holds s d → length_of (layout_of d) ≡ length s
long s d h =
    let a = accepted s (ap (λ (r : Restored Device). r.code) h) in
    let told = sym (ap (λ (r : Restored Device). r.device) h) ∙ a.is in
    ap (λ (d : Device). length_of (layout_of d)) told ∙ ap length_of (in-layout s) ∙ sym a.long

module _ (s : List ℕ) (d : Device) (e : Event) (h : Holds s d) where
  next-good : Good (next_of d e)
  next-good = event-good d e (good s d h)

  next-long : length_of (layout_of (next_of d e)) ≡ length s
  next-long = length-of (next_of d e) ∙ ap image_len (version-kept d e) ∙ sym (length-of d) ∙ long s d h

  overwritten : saved_of (next_of d e) s ≡ image_of (next_of d e)
  overwritten =
      let next = next_of d e in
      all_of (image_of next) s (saved_of next s) (length_of (layout_of next)) next-long
      (saved-whole next s ((save-0 next (length s)).1 (next-good.1, omega (arith, next-long))))

  -- "the bytes after are those that saving the event's record writes, and the answer's bytes are the event's answer"
  pub call-done : (b : List ℕ) → answer_len ≤ length b
      → host_event s e b ≡ called (answer_to d e).code (image_of (next_of d e)) (reply_bytes (answer_to d e) ++ drop answer_len b)
  unfolding host_event
  call-done b room =
      ap (λ (r : Restored Device). call_of r.code (event_of r.device e).answer.code (saved_of (event_of r.device e).device s) (reply_bytes (event_of r.device e).answer) s b) h
      ∙ done (answer_to d e).code (saved_of (next_of d e) s) (reply_bytes (answer_to d e)) s b answer_len (image_of (next_of d e)) (answer_long (answer_to d e)) room overwritten

  -- and the next call accepts it, as that record
  pub call-holds : (b : List ℕ) → answer_len ≤ length b → Holds (host_event s e b).state (next_of d e)
  call-holds b room = ap (λ (c : Called). restored_of c.state) (call-done b room) ∙ restored-image (next_of d e) next-good.0 next-good.1

-- ---- "with 7, 8 and 9 neither buffer is written"
module _ (s : List ℕ) (e : Event) (b : List ℕ) where
  pub call-refused : ((restored_of s).code ≡ 0 → ⊥) → host_event s e b ≡ called (restored_of s).code s b
  unfolding host_event
  call-refused h = no-image _ _ _ s b (restored_of s).code h

  pub call-short : (restored_of s).code ≡ 0 → length b < answer_len → host_event s e b ≡ called 7 s b
  unfolding host_event
  call-short z h = no_room_lem _ _ _ s b (restored_of s).code answer_len z (answer_long _) h

-- ---- calls one after the other, with one answer buffer: the record at the end, and the answers
module _ (b : List ℕ) (room : answer_len ≤ length b) where
  abbrev pub state_after : List ℕ → Event → List ℕ
  state_after s e = (host_event s e b).state

  abbrev pub answer_after : List ℕ → Event → List ℕ
  answer_after s e = (host_event s e b).answer

  pub calls-hold : (s : List ℕ) (d : Device) (l : List Event) → Holds s d → Holds (record_through state_after s l) (record_after d l)
  calls-hold = states Holds state_after next_of (λ s d e h. call-holds s d e h b room)

  pub calls-answer : (s : List ℕ) (d : Device) (l : List Event) → Holds s d
      → answers_through state_after answer_after s l ≡ map (λ a. reply_bytes a ++ drop answer_len b) (answers_of d l)
  calls-answer =
      answers Holds state_after next_of (λ s d e h. call-holds s d e h b room) answer_after answer_to (λ a. reply_bytes a ++ drop answer_len b)
      (λ s d e h. ap (λ (c : Called). c.answer) (call-done s d e h b room))
