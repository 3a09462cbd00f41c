use Rattle.std.proofs.Common.{ℕ, suc, ◌<◌, ◌≤◌, ◌∙◌, sym, ap, length, slice_set, arith}
use native.Mathlib.Numerals.{add-one}
use Rattle.row_visit.specs.declared.Seen.{Seen}
use Rattle.row.proofs.Along.{later-pass, later-row, pass_step, row_step, pass-end, row-end}
use Rattle.row.proofs.act.Goals as goal

pub loop-d-preserved : goal.loop-d-preserved
loop-d-preserved c =
    let l = c.loop-d in
    let e = add-one l.d-index in
    let v = c.acted-v.ensures in
    let within : l.d-index < length l.row = omega arith in (
      ap (λ (k : ℕ). later-pass k (slice_set l.row l.d-index c.acted-v.result.device) c.acted-v.result.pass) e
          ∙ ap (λ (r : Seen). later-pass (suc l.d-index) (slice_set l.row l.d-index r.device) r.pass) v ∙ pass_step l.d-index l.row l.t _ within ∙ l.invariant.0,
      ap (λ (k : ℕ). later-row k (slice_set l.row l.d-index c.acted-v.result.device) c.acted-v.result.pass) e
          ∙ ap (λ (r : Seen). later-row (suc l.d-index) (slice_set l.row l.d-index r.device) r.pass) v ∙ row_step l.d-index l.row l.t _ within ∙ l.invariant.1,
    )

pub returns : goal.returns
returns c =
    let l = c.loop-d in
    let done : length l.row ≤ l.d-index = omega arith in
    (sym (pass-end l.d-index l.row l.t done) ∙ l.invariant.0, sym (row-end l.d-index l.row l.t done) ∙ l.invariant.1)
