use Rattle.row_visit.proofs.Parts.{part-first, part-later}
use mathlib.Core.Path.{sym, ◌∙◌}
use Rattle.row_visit.proofs.acts.part.Goals as goal

pub returns-then-place-eq0 : goal.returns-then-place-eq0
returns-then-place-eq0 c = c.touched-r.ensures ∙ sym (part-first _ _ _ _ _ c.if-place-eq0.true)

pub returns : goal.returns
returns c = (simp (c.joined.ensures, c.touched-r.ensures)) ∙ sym (part-later _ _ _ _ _ c.if-place-eq0.false)
