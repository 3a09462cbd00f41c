-- "the fields that differ by name in words".
-- Assumes nothing.
use Rattle.std.specs.Prelude.{ℕ, List, if◌then◌else◌, ◌==◌}
use Rattle.texts.specs.Spelled.{spelled}

-- the name of the field at place i
unfoldable pub name_of : ℕ → List ℕ
name_of i =
    if i == 0 then spelled "code" else
    if i == 1 then spelled "value" else
    if i == 2 then spelled "pins A" else
    if i == 3 then spelled "pins B" else
    if i == 4 then spelled "pins C" else
    if i == 5 then spelled "INT" else
    if i == 6 then spelled "IEO" else
    if i == 7 then spelled "terminal counts of CT1" else
    if i == 8 then spelled "terminal counts of CT2" else
    if i == 9 then spelled "terminal counts of CT3" else
    if i == 10 then spelled "lost terminal counts of CT1" else
    if i == 11 then spelled "lost terminal counts of CT2" else
    spelled "lost terminal counts of CT3"
