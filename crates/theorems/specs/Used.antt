-- Paper 01, "Events and their answers": "numbers a kind doesn't use are ignored": which numbers each kind uses.
-- Assumes nothing.
use Rattle.std.specs.Prelude.{ℕ, ◌||◌, if◌then◌else◌}
use Rattle.rules.specs.declared.Event.{Event}
use Rattle.rules.specs.Events.{is_x, is_w, is_p, is_k, unknown}

-- an event by its four numbers
abbrev pub of : ℕ → ℕ → ℕ → ℕ → Event
of kind a b c = record { kind = kind; a = a; b = b; c = c }

-- the event with 0 for the numbers that its kind does not use: "X .. W address byte. R address. P a b c .. T n .. K .. E v"
unfoldable pub used_of : Event → Event
used_of e =
    of e.kind (if is_x e || is_k e || unknown e then 0 else e.a) (if is_w e || is_p e then e.b else 0) (if is_p e then e.c else 0)
