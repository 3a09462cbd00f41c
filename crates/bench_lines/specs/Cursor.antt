-- A line read field by field, from a place on: of the code, and not of the issue.
-- Assumes nothing.
use Rattle.std.specs.Prelude.{ℕ, ◌+◌, ◌-◌, ◌≤◌, Option, Some, None, List, [], ◌∷◌, ◌≡◌, ltb, length, take, drop, if◌then◌else◌}
use Rattle.bench_lines.specs.Fields.{fields_from, unmeasured, illegible}
use Rattle.bench_lines.specs.declared.fields.Says.{Says}
use Rattle.bench_lines.specs.declared.fields.Says.TheVariants.{Number, Unmeasured, Unreadable}

-- a number, and what a field says, as the definitions number them
abbrev pub number_read : Option ℕ → ℕ
number_read None = illegible
number_read (Some n) = n

abbrev pub number_said : Says → ℕ
number_said (Number n) = n
number_said Unmeasured = unmeasured
number_said Unreadable = illegible

-- the fields from a place on, where there are more
abbrev pub fields_left : List ℕ → Option ℕ → List (List ℕ)
fields_left w None = []
fields_left w (Some at) = fields_from [] (drop at w)

-- the place after a space at a place; where the line ends there, none
abbrev pub after_space : List ℕ → ℕ → Option ℕ
after_space w e = if ltb e (length w) then Some (e + 1) else None

-- the field that begins at a place ends before e: a space stands there, or the line ends
pub record Ends (w : List ℕ) (at e : ℕ) : Type 0 where
  pub from : at ≤ e
  pub within : e ≤ length w
  pub fields : fields_from [] (drop at w) ≡ take (e - at) (drop at w) ∷ fields_left w (after_space w e)
