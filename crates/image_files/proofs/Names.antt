-- No name is two of the three names that stand for a fresh device.
-- Assumes nothing.
use Rattle.std.proofs.Common.{ℕ, List, [], ◌∷◌, Bool, true, false, ◌&&◌, nat_eq, Some, ◌≡◌, refl, sym, ap, ◌∙◌}
use Rattle.std.proofs.lemmas.Bool.{true≢false}
use Rattle.image.specs.Image.{agree}
use Rattle.image.proofs.Agree.{same}
use Rattle.texts.specs.Spelled.{spelled}
use Rattle.std.specs.Cmp.Lexicographic.{pointwise}
use Rattle.rules.specs.Record.{fresh_of}
use Rattle.z8536.specs.Z8536.{fresh_z8536}
use Rattle.chip.specs.Chips.{of_z8036, of_z8536}
use Rattle.ctc_rules.specs.Record.{fresh_ctc}
use Rattle.image_files.specs.declared.held.Held.{Held}
use Rattle.image_files.specs.Files.{is_dash, is_dash_z8536, is_dash_ctc, fresh_named}

apart : (p a b : List ℕ) → agree p a ≡ true → agree p b ≡ true → agree a b ≡ false → ⊥
apart p a b h g n = true≢false (sym g ∙ ap (λ (q : List ℕ). agree q b) (same p a h) ∙ n)

false-from : (b : Bool) → (b ≡ true → ⊥) → b ≡ false
false-from true h = absurd (h refl)
false-from false h = refl

other-1 : agree (spelled "-") (spelled "-z8536") ≡ false
unfolding agree spelled
other-1 = refl

other-2 : agree (spelled "-") (spelled "-ctc") ≡ false
unfolding agree spelled
other-2 = refl

other-3 : agree (spelled "-z8536") (spelled "-ctc") ≡ false
unfolding agree spelled
other-3 = refl

module _ (p : List ℕ) where
  pub not-z8036-z8536 : is_dash p ≡ true → is_dash_z8536 p ≡ true → ⊥
  not-z8036-z8536 h g = apart p (spelled "-") (spelled "-z8536") h g other-1

  pub not-z8036-ctc : is_dash p ≡ true → is_dash_ctc p ≡ true → ⊥
  not-z8036-ctc h g = apart p (spelled "-") (spelled "-ctc") h g other-2

  pub not-z8536-ctc : is_dash_z8536 p ≡ true → is_dash_ctc p ≡ true → ⊥
  not-z8536-ctc h g = apart p (spelled "-z8536") (spelled "-ctc") h g other-3

  pub z8036_named : is_dash p ≡ true → fresh_named p ≡ Some (Held.Chip (of_z8036 fresh_of))
  z8036_named h = simp h

  pub z8536_named : is_dash_z8536 p ≡ true → fresh_named p ≡ Some (Held.Chip (of_z8536 fresh_z8536))
  z8536_named h = simp (false-from (is_dash p) (λ g. not-z8036-z8536 g h), h)

  pub ctc_named : is_dash_ctc p ≡ true → fresh_named p ≡ Some (Held.Ctc fresh_ctc)
  ctc_named h = simp (false-from (is_dash p) (λ g. not-z8036-ctc g h), false-from (is_dash_z8536 p) (λ g. not-z8536-ctc g h), h)

-- the library's test of two slices
pub same_is : (a b : List ℕ) → pointwise nat_eq a b ≡ agree a b
unfolding agree
same_is [] [] = refl
same_is [] (y ∷ b) = refl
same_is (x ∷ a) [] = refl
same_is (x ∷ a) (y ∷ b) = ap (λ (t : Bool). nat_eq x y && t) (same_is a b)
