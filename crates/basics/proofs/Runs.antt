-- Events one after the other: what every event keeps, a list keeps; a list cut anywhere is its first part and then the rest; and what leaves
-- the records that are kept as they are may be done at every cut.
-- Assumes nothing.
use mathlib.Core.Path.{◌≡◌, refl, sym, ap, ◌∙◌}
use mathlib.Core.List.{List, [], ◌∷◌, ◌++◌, flatten, append-nil}
use Rattle.basics.specs.Runs.{Course, record_through, answers_through, course_of, course_on, course_cut}

module _ {D E : Type 0} (after : D → E → D) where
  -- ---- kept by all
  module _ (P : D → Type 0) (kept : (d : D) (e : E) → P d → P (after d e)) where
    pub list-kept : (d : D) (l : List E) → P d → P (record_through after d l)
    unfolding record_through
    list-kept d [] h = h
    list-kept d (e ∷ l) h = list-kept (after d e) l (kept d e h)

  -- ---- cut anywhere
  pub cut_record : (d : D) (l m : List E) → record_through after d (l ++ m) ≡ record_through after (record_through after d l) m
  unfolding record_through
  cut_record d [] m = refl
  cut_record d (e ∷ l) m = cut_record (after d e) l m

  module _ {A : Type 0} (answer : D → E → A) where
    pub cut-answers : (d : D) (l m : List E)
        → answers_through after answer d (l ++ m) ≡ answers_through after answer d l ++ answers_through after answer (record_through after d l) m
    unfolding answers_through record_through
    cut-answers d [] m = refl
    cut-answers d (e ∷ l) m = ap (λ (r : List A). answer d e ∷ r) (cut-answers (after d e) l m)

    pub cut-course : (d : D) (l m : List E) → course_of after answer d (l ++ m) ≡ course_on after answer (course_of after answer d l) m
    cut-course d l m = λ i. record { answers = cut-answers d l m i; device = cut_record d l m i }

    -- ---- what leaves the records with P as they are is not seen, at whatever cuts it is done
    module _ (P : D → Type 0) (kept : (d : D) (e : E) → P d → P (after d e)) (f : D → D) (leaves : (d : D) → P d → f d ≡ d) where
      pub unseen : (d : D) (l : List E) (ls : List (List E)) → P d
          → course_cut after answer f d l ls ≡ course_of after answer d (flatten (l ∷ ls))
      unfolding course_cut flatten
      unseen d l [] h = ap (course_of after answer d) (sym (append-nil l))
      unseen d l (m ∷ ms) h =
          let e = record_through after d l in
          let k = list-kept P kept d l h in
          ap (λ (x : D). onto (course_cut after answer f x m ms)) (leaves e k) ∙ ap onto (unseen e m ms k) ∙ sym (cut-course d l (flatten (m ∷ ms)))
        where
          onto : Course A D → Course A D
          onto t = record { answers = answers_through after answer d l ++ t.answers; device = t.device }
