-- Each text that was met carries what comes after it back to the place before it; a line feed there ends the line.
use Rattle.std.proofs.Common.{rules, ℕ, ◌<◌, get_or, Fits, w32}
use Rattle.rules.specs.declared.Answer.{Answer}
use Rattle.bench_lines.proofs.Own.{Ranged}
use Rattle.bench_lines.proofs.Agreeing.{agrees-up, agrees_at}
use Rattle.bench_lines.proofs.agreed.last.Goals as goal

ranged : (a : Answer) → a.code < 256 → a.value < 256 → a.a < 256 → a.b < 256 → ((k : ℕ) → Fits w32 (get_or a.report.terminals k 0))
    → ((k : ℕ) → Fits w32 (get_or a.report.lost k 0)) → Ranged a
ranged a c v p q t l = record { code = c; value = v; pins-a = p; pins-b = q; terminals = λ k. let h = t k in h.fits; lost = λ k. let h = l k in h.fits }

pub returns-in_default-pair : goal.returns-in_default-pair
returns-in_default-pair c =
    let g : Ranged c.args.a = ranged _ (search rules) (search rules) (search rules) (search rules) (λ k. search rules) (λ k. search rules) in
    agrees_at _ g _ _ _ _ (λ u. c.in-Some.ensures.met_first _ _ u)

pub returns-in_default-pair-2 : goal.returns-in_default-pair-2
returns-in_default-pair-2 c =
    let g : Ranged c.args.a = ranged _ (search rules) (search rules) (search rules) (search rules) (λ k. search rules) (λ k. search rules) in
    agrees_at _ g _ _ _ _ (λ u. c.in-Some.ensures.met_first _ _ (c.in-Some-pair.ensures.met _ _ u))

pub returns-in_default-pair-3 : goal.returns-in_default-pair-3
returns-in_default-pair-3 c =
    let g : Ranged c.args.a = ranged _ (search rules) (search rules) (search rules) (search rules) (λ k. search rules) (λ k. search rules) in
    agrees_at _ g _ _ _ _
    (λ u. c.in-Some.ensures.met_first _ _ (c.in-Some-pair.ensures.met _ _ (c.in-Some-pair-2.ensures.met _ _ u)))

pub returns : goal.returns
returns c =
    let g : Ranged c.args.a = ranged _ (search rules) (search rules) (search rules) (search rules) (λ k. search rules) (λ k. search rules) in
    let p = c.in-Some-pair.ensures.met in
    let q = c.in-Some-pair-2.ensures.met in
    let r = c.in-Some-pair-3.ensures.met in
    λ h f. agrees-up _ g _ _ _ (c.in-Some.ensures.met_first _ _ (p _ _ (q _ _ (r _ _ (c.tail.ensures h f)))))
