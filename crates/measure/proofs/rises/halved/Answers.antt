use Rattle.std.proofs.Common.{ℕ, ◌+◌, ◌-◌, ◌/◌, sym, ap, ◌∙◌, subst, arith}
use Rattle.rules.specs.declared.Ran.{Ran}
use Rattle.rules.specs.Record.{source_at}
use Rattle.measure.specs.Rise.{Between}
use Rattle.measure.proofs.Search.{in-first, in-second}
use Rattle.measure.proofs.rises.halved.Goals as goal

pub returns-then-there-i : goal.returns-then-there-i
returns-then-there-i c =
    let k = c.args.k in
    let s = c.args.s in
    let many = c.requires.0 in (
      λ d n b.
          in-first k d n s (s.left / 2) b (omega (arith, many)) (omega arith)
          (ap (λ (r : Ran). (source_at r.device k).ip) (sym c.run.ensures)
          ∙ ap (λ (i : ℕ). (source_at c.run.result.device i).ip) (sym c.index-i.ensures.same) ∙ c.if-there-i.true),
      omega (arith, many),
    )

pub returns : goal.returns
returns c =
    let k = c.args.k in
    let s = c.args.s in
    let many = c.requires.0 in (
      λ d n b.
          subst (λ (r : Ran). Between k d n (record { device = r.device; passed = s.passed + s.left / 2; left = s.left - s.left / 2 })) (sym c.run.ensures)
          (in-second k d n s (s.left / 2) b (omega (arith, many))
          (ap (λ (r : Ran). (source_at r.device k).ip) (sym c.run.ensures)
          ∙ ap (λ (i : ℕ). (source_at c.run.result.device i).ip) (sym c.index-i.ensures.same) ∙ c.if-there-i.false)),
      omega (arith, many),
    )
