-- What a host of a Z8536 lives by. A state that `Holds` a record is an accepted image of that record. Every call that is not refused leaves the
-- image of the record after it, which the next call accepts; so calls one after the other, each on the bytes that the one before it left, have
-- the answers and the record of the calls by value. A refused call touches nothing.
-- Assumes nothing.
use Prim.Native.Nat.{ℕ, ◌≤◌, ◌<◌}
use mathlib.Core.Path.{◌≡◌, sym, ap, subst, ◌∙◌}
use mathlib.Core.List.{List, ◌++◌, map}
use native.Mathlib.Omega.{arith}
use lib.ListN.{length, drop}
use Rattle.basics.specs.Runs.{record_through, answers_through}
use Rattle.rules.specs.declared.Event.{Event}
use Rattle.theorems.proofs.Shapes.{fresh-shaped}
use Rattle.z8536.specs.declared.Z8536.{Z8536}
use Rattle.z8536.specs.Z8536.{fresh_z8536, event_z8536}
use Rattle.z8536.specs.Runs.{next_z8536, answer_z8536, record_z8536, answers_z8536}
use Rattle.z8536.proofs.Soundness.{Good, event-good, fresh-sound}
use Rattle.image.specs.declared.Restored.{Restored}
use Rattle.image.specs.Pointed.{image_z8536, saved_z8536, restored_z8536}
use Rattle.image.proofs.PointedCodes.{restore-0}
use Rattle.image.proofs.PointedSaved.{save-0, saved-whole}
use Rattle.image.proofs.PointedTrip.{restored-image, accepted-sound, accepted-shaped}
use Rattle.host.specs.Bytes.{reply_bytes, answer_len}
use Rattle.host.specs.Calls.{Called, called, call_of, host_event_z8536}
use Rattle.host.specs.Laws.{answer_long}
use Rattle.host.proofs.Chain.{no-image, no_room_lem, done, all_of, states, answers}

abbrev pub Holds : List ℕ → Z8536 → Type 0
Holds s d = restored_z8536 s ≡ record { code = 0; device = d }

pub fresh_holds : Holds (image_z8536 fresh_z8536) fresh_z8536
fresh_holds = restored-image fresh_z8536 fresh-shaped fresh-sound

good : (s : List ℕ) (d : Z8536) → Holds s d → Good d
good s d h =
    let z = ap (λ (r : Restored Z8536). r.code) h in
    subst Good (ap (λ (r : Restored Z8536). r.device) h) (accepted-shaped s z, accepted-sound s z)

long : (s : List ℕ) (d : Z8536) → Holds s d → 102 ≡ length s
long s d h = sym ((restore-0 s).0 (ap (λ (r : Restored Z8536). r.code) h)).1

module _ (s : List ℕ) (d : Z8536) (e : Event) (h : Holds s d) where
  next-good : Good (next_z8536 d e)
  next-good = event-good d e (good s d h)

  overwritten : saved_z8536 (next_z8536 d e) s ≡ image_z8536 (next_z8536 d e)
  overwritten =
      let next = next_z8536 d e in
      all_of (image_z8536 next) s (saved_z8536 next s) 102 (long s d h)
      (saved-whole next s ((save-0 next (length s)).1 (next-good.1, omega (arith, long s d h))))

  -- "the bytes after are those that saving the event's record writes, and the answer's bytes are the event's answer"
  pub call-done : (b : List ℕ) → answer_len ≤ length b
      → host_event_z8536 s e b ≡ called (answer_z8536 d e).code (image_z8536 (next_z8536 d e)) (reply_bytes (answer_z8536 d e) ++ drop answer_len b)
  unfolding host_event_z8536
  call-done b room =
      ap (λ (r : Restored Z8536). call_of r.code (event_z8536 r.device e).answer.code (saved_z8536 (event_z8536 r.device e).device s) (reply_bytes (event_z8536 r.device e).answer) s b) h
      ∙ done (answer_z8536 d e).code (saved_z8536 (next_z8536 d e) s) (reply_bytes (answer_z8536 d e)) s b answer_len (image_z8536 (next_z8536 d e)) (answer_long (answer_z8536 d e)) room overwritten

  -- and the next call accepts it, as that record
  pub call-holds : (b : List ℕ) → answer_len ≤ length b → Holds (host_event_z8536 s e b).state (next_z8536 d e)
  call-holds b room = ap (λ (c : Called). restored_z8536 c.state) (call-done b room) ∙ restored-image (next_z8536 d e) next-good.0 next-good.1

-- ---- "with 7, 8 and 9 neither buffer is written"
module _ (s : List ℕ) (e : Event) (b : List ℕ) where
  pub call-refused : ((restored_z8536 s).code ≡ 0 → ⊥) → host_event_z8536 s e b ≡ called (restored_z8536 s).code s b
  unfolding host_event_z8536
  call-refused h = no-image _ _ _ s b (restored_z8536 s).code h

  pub call-short : (restored_z8536 s).code ≡ 0 → length b < answer_len → host_event_z8536 s e b ≡ called 7 s b
  unfolding host_event_z8536
  call-short z h = no_room_lem _ _ _ s b (restored_z8536 s).code answer_len z (answer_long _) h

-- ---- calls one after the other, with one answer buffer: the record at the end, and the answers
module _ (b : List ℕ) (room : answer_len ≤ length b) where
  abbrev pub state_after : List ℕ → Event → List ℕ
  state_after s e = (host_event_z8536 s e b).state

  abbrev pub answer_after : List ℕ → Event → List ℕ
  answer_after s e = (host_event_z8536 s e b).answer

  pub calls-hold : (s : List ℕ) (d : Z8536) (l : List Event) → Holds s d → Holds (record_through state_after s l) (record_z8536 d l)
  calls-hold = states Holds state_after next_z8536 (λ s d e h. call-holds s d e h b room)

  pub calls-answer : (s : List ℕ) (d : Z8536) (l : List Event) → Holds s d
      → answers_through state_after answer_after s l ≡ map (λ a. reply_bytes a ++ drop answer_len b) (answers_z8536 d l)
  calls-answer =
      answers Holds state_after next_z8536 (λ s d e h. call-holds s d e h b room) answer_after answer_z8536 (λ a. reply_bytes a ++ drop answer_len b)
      (λ s d e h. ap (λ (c : Called). c.answer) (call-done s d e h b room))
