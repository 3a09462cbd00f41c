-- The answer that is laid into the buffer is written.
-- Assumes nothing.
use Rattle.std.proofs.Common.{ap, subst, rules, ◌∙◌, List, ℕ, take, replicate}
use Rattle.std.specs.Io.KnownBytes.{Appends}
use Rattle.session.specs.declared.Told.{Told}
use Rattle.session.specs.Sessions.{finished_by}
use Rattle.console.proofs.Said.{last-laid}
use Rattle.console.proofs.answer_last.Goals as goal

pub returns : goal.returns
unfolding finished_by
returns g c =
    let e =
    ap (λ (n : ℕ). take n c.finish-a.new.out) (ap (λ (x : Told). x.len) c.finish-a.ensures.value)
    ∙ ap (λ (l : List ℕ). take (finished_by c.args.s (replicate 4096 0)).len l) c.finish-a.ensures.out_after ∙ last-laid c.args.s (replicate 4096 0) (search rules) in (
      ap (λ (x : Told). x.device) c.finish-a.ensures.value,
      subst (Appends (g.W.Write.contents c.args.answers.now) (g.W.Write.contents c.write_all.new.self)) e c.in_ok-write_all.ensures.bytes,
    )
