-- What a host of a CTC lives by. A state that `Holds` a record is an accepted image of that record. Every call that is not refused leaves the
-- image of the record after it, which the next call accepts; so calls one after the other, each on the bytes that the one before it left, have
-- the answers and the record of the calls by value. A refused call touches nothing.
-- Assumes nothing.
use Prim.Native.Nat.{ℕ, ◌≤◌, ◌<◌}
use mathlib.Core.Path.{◌≡◌, sym, ap, subst, ◌∙◌}
use mathlib.Core.List.{List, ◌++◌, map}
use native.Mathlib.Omega.{arith}
use lib.ListN.{length, drop}
use Rattle.basics.specs.Runs.{record_through, answers_through}
use Rattle.ctc_rules.specs.declared.Ctc.{Ctc}
use Rattle.ctc_rules.specs.Record.{fresh_ctc}
use Rattle.ctc_laws.specs.Runs.{CtcCall, call_ctc, next_ctc, answer_ctc, record_ctc, answers_ctc}
use Rattle.ctc_laws.proofs.Soundness.{Good, call-good, fresh-sound, fresh-shaped}
use Rattle.image.specs.declared.Restored.{Restored}
use Rattle.ctc_image.specs.Layout.{image_ctc}
use Rattle.ctc_image.specs.Image.{saved_ctc, restored_ctc}
use Rattle.ctc_image.proofs.Codes.{save-0, saved-whole, restore-0}
use Rattle.ctc_image.proofs.RoundTrip.{restored-image, accepted-sound, accepted-four}
use Rattle.host.specs.Bytes.{ctc_bytes, ctc_len}
use Rattle.host.specs.Calls.{Called, called, call_of, host_ctc}
use Rattle.host.specs.Laws.{ctc_long}
use Rattle.host.proofs.Chain.{no-image, no_room_lem, done, all_of, states, answers}

abbrev pub Holds : List ℕ → Ctc → Type 0
Holds s d = restored_ctc s ≡ record { code = 0; device = d }

pub fresh_holds : Holds (image_ctc fresh_ctc) fresh_ctc
fresh_holds = restored-image fresh_ctc fresh-shaped fresh-sound

good : (s : List ℕ) (d : Ctc) → Holds s d → Good d
good s d h =
    let z = ap (λ (r : Restored Ctc). r.code) h in
    subst Good (ap (λ (r : Restored Ctc). r.device) h) (accepted-four s z, accepted-sound s z)

long : (s : List ℕ) (d : Ctc) → Holds s d → 41 ≡ length s
long s d h = sym ((restore-0 s).0 (ap (λ (r : Restored Ctc). r.code) h)).1

module _ (s : List ℕ) (d : Ctc) (e : CtcCall) (h : Holds s d) where
  next-good : Good (next_ctc d e)
  next-good = call-good d e (good s d h)

  overwritten : saved_ctc (next_ctc d e) s ≡ image_ctc (next_ctc d e)
  overwritten =
      let next = next_ctc d e in
      all_of (image_ctc next) s (saved_ctc next s) 41 (long s d h)
      (saved-whole next s ((save-0 next (length s)).1 (next-good.1, omega (arith, long s d h))))

  -- "the bytes after are those that saving the event's record writes, and the answer's bytes are the event's answer"
  pub call-done : (b : List ℕ) → ctc_len ≤ length b
      → host_ctc s (λ d. call_ctc d e) b ≡ called (answer_ctc d e).code (image_ctc (next_ctc d e)) (ctc_bytes (answer_ctc d e) ++ drop ctc_len b)
  unfolding host_ctc
  call-done b room =
      ap (λ (r : Restored Ctc). call_of r.code (call_ctc r.device e).answer.code (saved_ctc (call_ctc r.device e).device s) (ctc_bytes (call_ctc r.device e).answer) s b) h
      ∙ done (answer_ctc d e).code (saved_ctc (next_ctc d e) s) (ctc_bytes (answer_ctc d e)) s b ctc_len (image_ctc (next_ctc d e)) (ctc_long (answer_ctc d e)) room overwritten

  -- and the next call accepts it, as that record
  pub call-holds : (b : List ℕ) → ctc_len ≤ length b → Holds (host_ctc s (λ d. call_ctc d e) b).state (next_ctc d e)
  call-holds b room = ap (λ (c : Called). restored_ctc c.state) (call-done b room) ∙ restored-image (next_ctc d e) next-good.0 next-good.1

-- ---- "with 7, 8 and 9 neither buffer is written"
module _ (s : List ℕ) (e : CtcCall) (b : List ℕ) where
  pub call-refused : ((restored_ctc s).code ≡ 0 → ⊥) → host_ctc s (λ d. call_ctc d e) b ≡ called (restored_ctc s).code s b
  unfolding host_ctc
  call-refused h = no-image _ _ _ s b (restored_ctc s).code h

  pub call-short : (restored_ctc s).code ≡ 0 → length b < ctc_len → host_ctc s (λ d. call_ctc d e) b ≡ called 7 s b
  unfolding host_ctc
  call-short z h = no_room_lem _ _ _ s b (restored_ctc s).code ctc_len z (ctc_long _) h

-- ---- calls one after the other, with one answer buffer: the record at the end, and the answers
module _ (b : List ℕ) (room : ctc_len ≤ length b) where
  abbrev pub state_after : List ℕ → CtcCall → List ℕ
  state_after s e = (host_ctc s (λ d. call_ctc d e) b).state

  abbrev pub answer_after : List ℕ → CtcCall → List ℕ
  answer_after s e = (host_ctc s (λ d. call_ctc d e) b).answer

  pub calls-hold : (s : List ℕ) (d : Ctc) (l : List CtcCall) → Holds s d → Holds (record_through state_after s l) (record_ctc d l)
  calls-hold = states Holds state_after next_ctc (λ s d e h. call-holds s d e h b room)

  pub calls-answer : (s : List ℕ) (d : Ctc) (l : List CtcCall) → Holds s d
      → answers_through state_after answer_after s l ≡ map (λ a. ctc_bytes a ++ drop ctc_len b) (answers_ctc d l)
  calls-answer =
      answers Holds state_after next_ctc (λ s d e h. call-holds s d e h b room) answer_after answer_ctc (λ a. ctc_bytes a ++ drop ctc_len b)
      (λ s d e h. ap (λ (c : Called). c.answer) (call-done s d e h b room))
