-- What the calls of a host do to its two buffers: "the device at rest is its image, in a buffer that the host owns". A call is a restore of
-- the state, the call by value, and a save of the record after it.
-- Assumes nothing.
use Rattle.std.specs.Prelude.{ℕ, Result, Ok, Err, not, List, ◌++◌, ltb, length, drop, if◌then◌else◌, ◌==◌}
use Rattle.rules.specs.declared.Event.{Event}
use Rattle.rules.specs.Events.{event_of}
use Rattle.z8536.specs.Z8536.{event_z8536}
use Rattle.ctc_rules.specs.declared.CtcAnswer.{CtcAnswer}
use Rattle.rules.specs.declared.Outcome.{Outcome}
use Rattle.rules.specs.declared.Lines.{Lines}
use Rattle.image.specs.declared.Restored.{Restored}
use Rattle.ctc_rules.specs.declared.Ctc.{Ctc}
use Rattle.ctc_rules.specs.Interrupts.{lines_ctc}
use Rattle.ctc_rules.specs.Events.{event_ctc, end_of_service}
use Rattle.bodies.specs.Layout.{layout1, layout2, layout3, length_of}
use Rattle.image.specs.Image.{saved_of, restored_of}
use Rattle.image.specs.Pointed.{saved_z8536, restored_z8536}
use Rattle.ctc_image.specs.Layout.{layout_ctc}
use Rattle.ctc_image.specs.Image.{saved_ctc, restored_ctc}
use Rattle.host.specs.Bytes.{reply_bytes, ctc_bytes, line_bytes, answer_len, ctc_len, lines_len}

-- what a call leaves: its code, and what the state's buffer and the answer's hold
pub record Called : Type 0 where
  pub code : ℕ
  pub state : List ℕ
  pub answer : List ℕ

abbrev pub called : ℕ → List ℕ → List ℕ → Called
called c s b = record { code = c; state = s; answer = b }

-- "tests in this order: the state's 7, 8, 7, 9", which are those of its restore, "then 7 for an answer buffer that is too short": a buffer of
-- n bytes, where the answer has m bytes
unfoldable pub refusal_of : ℕ → ℕ → ℕ → ℕ
refusal_of restored n m = if not (restored == 0) then restored else if ltb n m then 7 else 0

-- a call on the state s with the answer buffer b, where s was restored with a code: "with 7, 8 and 9 neither buffer is written"; else the
-- code is k, the state what is saved, and the answer's bytes w stand over the first ones of b, which keeps its others
unfoldable pub call_of : ℕ → ℕ → List ℕ → List ℕ → List ℕ → List ℕ → Called
call_of restored k saved w s b =
    let refusal = refusal_of restored (length b) (length w) in
    if refusal == 0 then called k saved (w ++ drop (length w) b) else called refusal s b

-- what a call goes on with, where an answer of m bytes is to stand in a buffer of n: the device that was restored, or why it does not
unfoldable pub opened_by : {D : Type 0} → Restored D → ℕ → ℕ → Result D ℕ
opened_by r n m = let refusal = refusal_of r.code n m in if refusal == 0 then Ok r.device else Err refusal

-- a call of any device, by its restore, its save, and the code and the bytes of its answer, where f is the call by value
unfoldable pub hosted : {D A : Type 0} → (List ℕ → Restored D) → (D → List ℕ → List ℕ) → (A → ℕ) → (A → List ℕ) → List ℕ → (D → Outcome D A) → List ℕ → Called
hosted restored saved code bytes s f b =
    let r = restored s in
    let o = f r.device in
    call_of r.code (code o.answer) (saved o.device s) (bytes o.answer) s b

-- a call for the lines of any device
unfoldable pub hosted_lines : {D : Type 0} → (List ℕ → Restored D) → (D → Lines) → List ℕ → List ℕ → Called
hosted_lines restored lines s b =
    let r = restored s in
    call_of r.code 0 s (line_bytes (lines r.device)) s b

-- ---- event: "the bytes after are those that saving the event's record writes, and the answer's bytes are the event's answer; equal to
-- restore, event, save"
unfoldable pub host_event : List ℕ → Event → List ℕ → Called
host_event s e b =
    let r = restored_of s in
    let o = event_of r.device e in
    call_of r.code o.answer.code (saved_of o.device s) (reply_bytes o.answer) s b

unfoldable pub host_event_z8536 : List ℕ → Event → List ℕ → Called
host_event_z8536 s e b =
    let r = restored_z8536 s in
    let o = event_z8536 r.device e in
    call_of r.code o.answer.code (saved_z8536 o.device s) (reply_bytes o.answer) s b

-- an event of a CTC, or its end of service
unfoldable pub host_ctc : List ℕ → (Ctc → Outcome Ctc CtcAnswer) → List ℕ → Called
host_ctc s f b =
    let r = restored_ctc s in
    let o = f r.device in
    call_of r.code o.answer.code (saved_ctc o.device s) (ctc_bytes o.answer) s b

abbrev pub host_event_ctc : List ℕ → Event → List ℕ → Called
host_event_ctc s e b = host_ctc s (λ d. event_ctc d e) b

abbrev pub host_end_ctc : List ℕ → List ℕ → Called
host_end_ctc s b = host_ctc s end_of_service b

-- ---- lines: "INT, IEO and place into an answer buffer"; the state is only read
unfoldable pub host_lines : List ℕ → List ℕ → Called
host_lines s b =
    let r = restored_of s in
    call_of r.code 0 s (line_bytes r.device.lines) s b

unfoldable pub host_lines_z8536 : List ℕ → List ℕ → Called
host_lines_z8536 s b =
    let r = restored_z8536 s in
    call_of r.code 0 s (line_bytes r.device.core.lines) s b

unfoldable pub host_lines_ctc : List ℕ → List ℕ → Called
host_lines_ctc s b =
    let r = restored_ctc s in
    call_of r.code 0 s (line_bytes (lines_ctc r.device)) s b

-- ---- fresh: the image i of the fresh device into a buffer that has exactly its length, else 7 and nothing touched
unfoldable pub fresh_code : List ℕ → List ℕ → ℕ
fresh_code i s = if length s == length i then 0 else 7

unfoldable pub fresh_state : List ℕ → List ℕ → List ℕ
fresh_state i s = if length s == length i then i else s

-- ---- "the lengths", by number: 0 and 1 the state of a Z8036, of version 2 and of version 1, 2 of a Z8536, 3 of a CTC; 4 the answer of the
-- first two, 5 of a CTC, 6 of the lines; 0 past them
unfoldable pub length_at : ℕ → ℕ
length_at n =
    if n == 0 then length_of layout2 else
    if n == 1 then length_of layout1 else
    if n == 2 then length_of layout3 else
    if n == 3 then length_of layout_ctc else
    if n == 4 then answer_len else
    if n == 5 then ctc_len else
    if n == 6 then lines_len else
    0
