-- Events of a Z8536 one after the other: a list cut anywhere is its first part and then the rest, and what leaves sound records as they are
-- may be done at every cut.
-- Assumes nothing.
use mathlib.Core.Path.{◌≡◌}
use mathlib.Core.Bool.{true}
use mathlib.Core.List.{List, ◌∷◌, ◌++◌, flatten}
use Rattle.basics.proofs.Runs.{cut-answers as general-answers, cut_record as general-record, cut-course, unseen as general-unseen}
use Rattle.rules.specs.declared.Event.{Event}
use Rattle.rules.specs.Record.{Shaped}
use Rattle.z8536.specs.declared.Z8536.{Z8536}
use Rattle.z8536.specs.Z8536.{sound_z8536}
use Rattle.z8536.specs.Runs.{next_z8536, answer_z8536, answers_z8536, record_z8536, run_z8536, followed_z8536, cut_z8536}
use Rattle.z8536.proofs.Soundness.{Good, event-good}

-- ---- cut anywhere
pub cut-answers : (z : Z8536) (l m : List Event) → answers_z8536 z (l ++ m) ≡ answers_z8536 z l ++ answers_z8536 (record_z8536 z l) m
cut-answers = general-answers next_z8536 answer_z8536

pub cut_record : (z : Z8536) (l m : List Event) → record_z8536 z (l ++ m) ≡ record_z8536 (record_z8536 z l) m
cut_record = general-record next_z8536

pub cut-run : (z : Z8536) (l m : List Event) → run_z8536 z (l ++ m) ≡ followed_z8536 (run_z8536 z l) m
cut-run = cut-course next_z8536 answer_z8536

-- ---- what leaves the sound records of the device's shape as they are is not seen, at whatever cuts it is done
pub unseen : (f : Z8536 → Z8536) → ((z : Z8536) → Shaped z.core → sound_z8536 z ≡ true → f z ≡ z)
    → (z : Z8536) (l : List Event) (ls : List (List Event)) → Shaped z.core → sound_z8536 z ≡ true
    → cut_z8536 f z l ls ≡ run_z8536 z (flatten (l ∷ ls))
unseen f leaves z l ls h s = general-unseen next_z8536 answer_z8536 Good event-good f (λ z g. leaves z g.0 g.1) z l ls (h, s)
