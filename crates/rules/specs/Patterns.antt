-- Paper 01, "Patterns".
-- Assumes nothing.
use Rattle.std.specs.Prelude.{ℕ, ◌/◌, ◌%◌, Bool, false, not, ◌&&◌, ◌||◌, if◌then◌else◌, ◌==◌}
use Rattle.rules.specs.declared.Pattern.{Pattern}
use Rattle.basics.specs.Byte.{bit, differs, rises, every, any}

-- "Mask 0, transition 0: bit off"
unfoldable pub on_bit : Bool → Bool → Bool
on_bit mask transition = mask || transition

-- "0, 1: any edge; 1, 0: level equals polarity; 1, 1: polarity 1 rise, 0 fall."
unfoldable pub hit_bit : Bool → Bool → Bool → Bool → Bool → Bool
hit_bit mask transition polarity before after =
    if mask
    then (if transition then (if polarity then rises before after else rises after before) else not (differs after polarity))
    else (if transition then differs before after else false)

unfoldable pub on_at : Pattern → ℕ → Bool
on_at p k = on_bit (bit p.mask k) (bit p.transition k)

unfoldable pub hit_at : Pattern → ℕ → ℕ → ℕ → Bool
hit_at p before after k = hit_bit (bit p.mask k) (bit p.transition k) (bit p.polarity k) (bit before k) (bit after k)

-- "AND (20H/28H D2-D1 = 01) needs every bit that is on, and at least one; OR (10) needs any."
unfoldable pub and_match : Pattern → ℕ → ℕ → Bool
and_match p before after = any (on_at p) && every (λ k. not (on_at p k) || hit_at p before after k)

unfoldable pub or_match : Pattern → ℕ → ℕ → Bool
or_match p before after = any (hit_at p before after)

abbrev pub is_and : Pattern → Bool
is_and p = p.mode / 2 % 4 == 1

abbrev pub is_or : Pattern → Bool
is_or p = p.mode / 2 % 4 == 2

-- paper 02, W-211: "OR with priority-encoded vector" is 11
abbrev pub is_priority : Pattern → Bool
is_priority p = p.mode / 2 % 4 == 3

-- "Disabled port or mode 00: no match."
unfoldable pub match_of : Bool → Pattern → ℕ → ℕ → Bool
match_of enabled p before after =
    enabled && ((is_and p && and_match p before after) || ((is_or p || is_priority p) && or_match p before after))

-- what a match is to the port's source: "No-match to match is a port event.", which a standing IP keeps as the hidden error "only if IOE";
-- W-211: "IP is set while any match stands, at every step", and "IOE has no effect". pmf is the last step's match.
unfoldable pub event_by : Pattern → Bool → Bool → Bool
event_by p pmf matches = matches && (is_priority p || not pmf)

unfoldable pub hides_by : Pattern → Bool
hides_by p = p.ioe && not (is_priority p)

-- W-211: "Bit 7 is the highest": the number of the highest bit at which f holds, "0 if none"
unfoldable pub highest_of : (ℕ → Bool) → ℕ
highest_of f =
    if f 7 then 7 else if f 6 then 6 else if f 5 then 5 else if f 4 then 4 else if f 3 then 3 else if f 2 then 2 else if f 1 then 1 else 0

-- "the number of the highest matching bit", from the levels as they stand; of a disabled port none matches
unfoldable pub highest_match : Bool → Pattern → ℕ → ℕ
highest_match enabled p seen = highest_of (λ k. enabled && hit_at p seen seen k)
