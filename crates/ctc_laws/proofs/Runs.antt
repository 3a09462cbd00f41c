-- Calls of a CTC one after the other: a list cut anywhere is its first part and then the rest, and what leaves sound records as they are
-- may be done at every cut.
-- Assumes nothing.
use mathlib.Core.Path.{◌≡◌}
use mathlib.Core.Bool.{true}
use mathlib.Core.List.{List, ◌∷◌, ◌++◌, flatten}
use Rattle.basics.proofs.Runs.{cut-course, unseen as general-unseen}
use Rattle.ctc_rules.specs.declared.Ctc.{Ctc}
use Rattle.ctc_rules.specs.Record.{FourChannels}
use Rattle.ctc_rules.specs.Sound.{sound_ctc}
use Rattle.ctc_laws.specs.Runs.{CtcCall, next_ctc, answer_ctc, run_ctc, followed_ctc, cut_ctc}
use Rattle.ctc_laws.proofs.Soundness.{Good, call-good}

-- ---- cut anywhere
pub cut-run : (d : Ctc) (l m : List CtcCall) → run_ctc d (l ++ m) ≡ followed_ctc (run_ctc d l) m
cut-run = cut-course next_ctc answer_ctc

-- ---- what leaves the sound records of the device's shape as they are is not seen, at whatever cuts it is done
pub unseen : (f : Ctc → Ctc) → ((d : Ctc) → FourChannels d → sound_ctc d ≡ true → f d ≡ d)
    → (d : Ctc) (l : List CtcCall) (ls : List (List CtcCall)) → FourChannels d → sound_ctc d ≡ true → cut_ctc f d l ls ≡ run_ctc d (flatten (l ∷ ls))
unseen f leaves d l ls h s = general-unseen next_ctc answer_ctc Good call-good f (λ d g. leaves d g.0 g.1) d l ls (h, s)
