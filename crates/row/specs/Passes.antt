-- The passes along a row. That the two come to the definitions of `rows` is proved in `proofs/Comes`.
-- Assumes nothing.
use Rattle.std.specs.Prelude.{List, [], ◌∷◌}
use Rattle.std.specs.List.{fold}
use Rattle.rules.specs.declared.Device.{Device}
use Rattle.rules.specs.Record.{fresh_of}
use Rattle.row_visit.specs.declared.Pass.{Pass}
use Rattle.row_visit.specs.Visits.{looked_of, acted_of}

-- the pass that looks: what has gone along the row
abbrev pub look_along : List Device → Pass → Pass
look_along ds s = fold (λ t d. looked_of d t) s ds

-- the pass that acts: what has gone along the row
abbrev pub pass_along : List Device → Pass → Pass
pass_along [] s = s
pass_along (d ∷ ds) s = pass_along ds (acted_of d s).pass

-- and the row after it
abbrev pub row_along : List Device → Pass → List Device
row_along [] s = []
row_along (d ∷ ds) s = (acted_of d s).device ∷ row_along ds (acted_of d s).pass

-- what stands past the end of a row
unfoldable pub absent : Device
absent = fresh_of
