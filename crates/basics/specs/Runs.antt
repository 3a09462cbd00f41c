-- Events one after the other, each in the record that the one before it left: of any records, events and answers, given the record after an
-- event and its answer.
-- Assumes nothing.
use Rattle.std.specs.Prelude.{List, [], ◌∷◌, ◌++◌}

-- the answers in order, and the record at the end
pub record Course (A D : Type 0) : Type 0 where
  pub answers : List A
  pub device : D

module _ {D E : Type 0} (after : D → E → D) where
  unfoldable pub record_through : D → List E → D
  record_through d [] = d
  record_through d (e ∷ l) = record_through (after d e) l

  module _ {A : Type 0} (answer : D → E → A) where
    unfoldable pub answers_through : D → List E → List A
    answers_through d [] = []
    answers_through d (e ∷ l) = answer d e ∷ answers_through (after d e) l

    -- both
    abbrev pub course_of : D → List E → Course A D
    course_of d l = record { answers = answers_through d l; device = record_through d l }

    -- a course, and then more events
    abbrev pub course_on : Course A D → List E → Course A D
    course_on t l = record { answers = t.answers ++ answers_through t.device l; device = record_through t.device l }

    -- a list of events cut into a first part and others, where f is done to the record at each cut (a save and its restore)
    unfoldable pub course_cut : (D → D) → D → List E → List (List E) → Course A D
    course_cut f d l [] = course_of d l
    course_cut f d l (m ∷ ms) =
        let rest = course_cut f (f (record_through d l)) m ms in
        record { answers = answers_through d l ++ rest.answers; device = rest.device }
