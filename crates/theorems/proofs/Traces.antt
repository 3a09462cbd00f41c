-- Events one after the other: a list cut anywhere is its first part and then the rest; what every event keeps, a list keeps; and
-- what leaves sound records as they are may be done at every cut.
-- Assumes nothing.
use mathlib.Core.Path.{◌≡◌}
use mathlib.Core.Bool.{true}
use mathlib.Core.List.{List, ◌∷◌, ◌++◌, flatten}
use Rattle.basics.proofs.Runs.{list-kept, cut-answers as general-answers, cut_record as general-record, cut-course, unseen as general-unseen}
use Rattle.rules.specs.declared.Device.{Device}
use Rattle.rules.specs.declared.Event.{Event}
use Rattle.rules.specs.Record.{Shaped}
use Rattle.rules.specs.Sound.{sound_of}
use Rattle.theorems.specs.Traces.{next_of, answer_to, answers_of, record_after, traced_of, followed_by, cut_by}
use Rattle.theorems.proofs.Soundness.{Good, event-good, list-good}
use Rattle.theorems.proofs.Shapes.{event-shaped}

-- ---- cut anywhere
pub cut-answers : (d : Device) (l m : List Event) → answers_of d (l ++ m) ≡ answers_of d l ++ answers_of (record_after d l) m
cut-answers = general-answers next_of answer_to

pub cut_record : (d : Device) (l m : List Event) → record_after d (l ++ m) ≡ record_after (record_after d l) m
cut_record = general-record next_of

pub cut-trace : (d : Device) (l m : List Event) → traced_of d (l ++ m) ≡ followed_by (traced_of d l) m
cut-trace = cut-course next_of answer_to

-- ---- kept by all
pub list-sound : (d : Device) (l : List Event) → Shaped d → sound_of d ≡ true → sound_of (record_after d l) ≡ true
list-sound d l h s = (list-good d l (h, s)).1

pub list-shaped : (d : Device) (l : List Event) → Shaped d → Shaped (record_after d l)
list-shaped = list-kept next_of Shaped (λ d e h. event-shaped d h e)

-- ---- what leaves the sound records of the device's shape as they are is not seen, at whatever cuts it is done
pub unseen : (f : Device → Device) → ((d : Device) → Shaped d → sound_of d ≡ true → f d ≡ d)
    → (d : Device) (l : List Event) (ls : List (List Event)) → Shaped d → sound_of d ≡ true → cut_by f d l ls ≡ traced_of d (flatten (l ∷ ls))
unseen f leaves d l ls h s = general-unseen next_of answer_to Good event-good f (λ d g. leaves d g.0 g.1) d l ls (h, s)
