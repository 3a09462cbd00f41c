-- Paper 02, W-209: the Z8536, a Z8036's record behind four addresses, and a pointer to its registers.
-- Assumes nothing.
use Rattle.std.specs.Prelude.{ℕ, ◌%◌, Bool, true, false, not, ◌&&◌, ◌||◌, ltb, leb, if◌then◌else◌, ◌==◌}
use Rattle.rules.specs.declared.Event.{Event}
use Rattle.rules.specs.declared.Device.{Device}
use Rattle.rules.specs.declared.Answer.{Answer}
use Rattle.rules.specs.declared.Outcome.{Outcome}
use Rattle.rules.specs.Record.{register_count, fresh_of}
use Rattle.rules.specs.Registers.{reset}
use Rattle.rules.specs.Sound.{only, sound_of}
use Rattle.rules.specs.Events.{is_w, is_r, unknown, too_large, code_of, effect, answer_of, unsound_answer, event_of}
use Rattle.z8536.specs.declared.Z8536.{Z8536}

-- ---- the record
-- "Reset clears pointer and state."
abbrev pub fresh_z8536 : Z8536
fresh_z8536 = record { core = fresh_of; pointer = 0; pointed = false }

-- so they are clear while RESET is 1
unfoldable pub reset_clear : Z8536 → Bool
reset_clear z = only (reset z.core) (z.pointer == 0 && not z.pointed)

-- "Otherwise it is a version 2 device."; a pointer is an address of the 48
unfoldable pub sound_z8536 : Z8536 → Bool
sound_z8536 z = sound_of z.core && z.core.version == 2 && ltb z.pointer register_count && reset_clear z

-- ---- the addresses
-- W and R have one; document 002: "These two lines are used to select the register involved in the CPU transaction"
abbrev pub accesses : Event → Bool
accesses e = is_w e || is_r e

abbrev pub controls : Event → Bool
controls e = accesses e && e.a == 3

-- "Address 0 is Port C, 1 Port B, 2 Port A, 3 control." A control access goes to the register pointed to; "While RESET is 1 control
-- accesses go to register 00."
unfoldable pub register_of : Z8536 → ℕ → ℕ
register_of z a =
    if a == 0 then 0x0F else
    if a == 1 then 0x0E else
    if a == 2 then 0x0D else
    if reset z.core then 0x00 else
    z.pointer

-- the Z8036 event at that register
unfoldable pub at_register : Z8536 → Event → Event
at_register z e = if accesses e then record { kind = e.kind; a = register_of z e.a; b = e.b; c = e.c } else e

-- ---- the pointer
-- "A control write sets a pointer", where none is just set: then "the next control access goes to that register"
unfoldable pub points : Z8536 → Event → Bool
points z e = is_w e && e.a == 3 && not z.pointed && not (reset z.core)

-- "from its low six bits"
abbrev pub pointer_of : Event → ℕ
pointer_of e = e.b % 64

-- "the next control access goes to that register and the pointer state returns"; "A control access refused with 3, 4, 10 or 11 also
-- ends the pointer state."
unfoldable pub ends : Event → ℕ → Bool
ends e code = controls e && (code == 0 || code == 3 || code == 4 || code == 10 || code == 11)

-- the record after an event of which this came in the core; "Reset clears pointer and state."
unfoldable pub after_core : Z8536 → Event → Outcome Device Answer → Z8536
after_core z e o =
    if reset o.device then record { core = o.device; pointer = 0; pointed = false } else
    record { core = o.device; pointer = z.pointer; pointed = z.pointed && not (ends e o.answer.code) }

-- ---- the refusals
-- "2 for an address above 3"
unfoldable pub no_address : Event → Bool
no_address e = accesses e && ltb 3 e.a

-- "and .. for a pointer above 47"
unfoldable pub no_pointer : Event → Bool
no_pointer e = leb register_count (pointer_of e)

-- in their order, "after 5 and never under RESET"; then those of the Z8036 event at that register
unfoldable pub code_z8536 : Z8536 → Event → ℕ
code_z8536 z e =
    if not (sound_z8536 z) then 9 else
    if unknown e then 1 else
    if no_address e then 2 else
    if too_large e then 5 else
    if points z e then (if no_pointer e then 2 else 0) else
    code_of z.core (at_register z e)

-- ---- the event
-- an answer with nothing done in the core: its lines as they stand
unfoldable pub stands : ℕ → Z8536 → Outcome Z8536 Answer
stands code z = record { device = z; answer = answer_of code (effect z.core 0) }

-- a control write that "sets a pointer .. and steps nothing"
unfoldable pub pointing : Z8536 → Event → Outcome Z8536 Answer
pointing z e =
    if ltb 255 e.b then stands 5 z else
    if no_pointer e then stands 2 z else
    stands 0 (record { core = z.core; pointer = pointer_of e; pointed = true })

-- "each access answers as the Z8036 event at that register", and so does any other event
unfoldable pub accessed : Z8536 → Event → Outcome Z8536 Answer
accessed z e =
    let o = event_of z.core (at_register z e) in
    record { device = after_core z e o; answer = o.answer }

unfoldable pub event_z8536 : Z8536 → Event → Outcome Z8536 Answer
event_z8536 z e =
    if not (sound_z8536 z) then record { device = z; answer = unsound_answer } else
    if no_address e then stands 2 z else
    if points z e then pointing z e else
    accessed z e
