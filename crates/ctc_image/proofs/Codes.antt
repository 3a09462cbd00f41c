-- When save and restore of a CTC give each of their codes, both ways, and what they leave when they refuse: 9 and 7 of save; 7, 8, 7, 9 of restore.
-- Assumes nothing.
use Prim.Native.Nat.{ℕ, ◌<◌, ◌≤◌}
use mathlib.Core.Path.{◌≡◌, refl, sym, ap, ◌∙◌}
use mathlib.Core.Bool.{Bool, true, false, not, ◌&&◌, cond}
use mathlib.Core.List.{List, ◌++◌}
use mathlib.Core.Logic.{◌↔◌, ◌≢◌, ◌⊎◌, inl, inr, ⊎_elim}
use native.Mathlib.Omega.{arith}
use borrow.Author.Tests.{eqb-true, eqb-false, eq-eqb, ne_eqb, ltb-true, ltb-false, lt-ltb, le-ltb}
use lib.Dec.{eqb, ltb}
use lib.ListN.{length, take, drop}
use lib.Seq.{drop_at}
use Rattle.bodies.specs.Layout.{contents_of}
use Rattle.image.specs.Image.{agree}
use Rattle.image.proofs.Agree.{same, alike, unlike, differ}
use Rattle.image.proofs.Codes.{is-9, is-7, is-0, restores, told-7, told-8, told-9, told-0}
use Rattle.rules.specs.Record.{fresh_of}
use Rattle.ctc_rules.specs.declared.Ctc.{Ctc}
use Rattle.ctc_rules.specs.Record.{fresh_ctc}
use Rattle.ctc_rules.specs.Sound.{sound_ctc}
use Rattle.image.specs.declared.Restored.{Restored}
use Rattle.ctc_image.specs.Layout.{layout_ctc, channel_bytes, channels_body, rest_body, image_ctc, ctc_in, clear_image}
use Rattle.ctc_image.specs.Image.{save_code_ctc, saved_ctc, refused_ctc, accepted_ctc, restored_ctc}

-- "41 bytes"
pub image-length : (d : Ctc) → length (image_ctc d) ≡ 41
unfolding image_ctc channels_body channel_bytes rest_body
image-length d = refl

-- ---- save, for a buffer of n bytes
module _ (d : Ctc) (n : ℕ) where
  pub save-9 : (save_code_ctc d n ≡ 9) ↔ (sound_ctc d ≡ false)
  unfolding save_code_ctc
  save-9 = (is-9 (sound_ctc d) (ltb n 41), λ h. simp h)

  pub save-7 : (save_code_ctc d n ≡ 7) ↔ (sound_ctc d ≡ true) × (n < 41)
  unfolding save_code_ctc
  save-7 = (
    λ h. let p = is-7 (sound_ctc d) (ltb n 41) h in (p.0, ltb-true n 41 p.1),
    λ h. simp (h.0, lt-ltb n 41 h.1),
  )

  pub save-0 : (save_code_ctc d n ≡ 0) ↔ (sound_ctc d ≡ true) × (41 ≤ n)
  unfolding save_code_ctc
  save-0 = (
    λ h. let p = is-0 (sound_ctc d) (ltb n 41) h in (p.0, ltb-false n 41 p.1),
    λ h. simp (h.0, le-ltb n 41 h.1),
  )

-- ---- the buffer: the image over its first bytes, or nothing at all
module _ (d : Ctc) (e : List ℕ) where
  pub saved-whole : save_code_ctc d (length e) ≡ 0 → saved_ctc d e ≡ image_ctc d ++ drop 41 e
  unfolding saved_ctc
  saved-whole h = simp (eq-eqb _ _ h)

  -- a refused save leaves every byte of its buffer
  pub untouched : (save_code_ctc d (length e) ≡ 0 → ⊥) → saved_ctc d e ≡ e
  unfolding saved_ctc
  untouched h = simp (ne_eqb _ _ h)

  past : (ok : Bool) → drop 41 (cond ok (image_ctc d ++ drop 41 e) e) ≡ drop 41 e
  past true = drop_at (image_ctc d) (drop 41 e) 41 (image-length d)
  past false = refl

  -- past the image it is as it was, whatever the code
  pub saved-rest : drop 41 (saved_ctc d e) ≡ drop 41 e
  unfolding saved_ctc
  saved-rest = past (eqb (save_code_ctc d (length e)) 0)

-- ---- restore, by whether an image is shorter than its table, its table, its length, and its bodies
abbrev restores_ctc : Bool → Bool → Bool → Bool → Ctc → Restored Ctc
restores_ctc short table long good d =
    cond short (refused_ctc 7)
    (cond (not table) (refused_ctc 8) (cond (not long) (refused_ctc 7) (cond (not good) (refused_ctc 9) (record { code = 0; device = d }))))

-- the codes are those of the Z8036
code-as : (s t l g : Bool) (d : Ctc) → (restores_ctc s t l g d).code ≡ (restores s t l g fresh_of).code
code-as true t l g d = refl
code-as false true true true d = refl
code-as false true true false d = refl
code-as false true false g d = refl
code-as false false l g d = refl

failed : (s t l g : Bool) (d : Ctc) → ((restores_ctc s t l g d).code ≡ 0 → ⊥) → (restores_ctc s t l g d).device ≡ fresh_ctc
failed true t l g d h = refl
failed false true true true d h = absurd (h refl)
failed false true true false d h = refl
failed false true false g d h = refl
failed false false l g d h = refl

module _ (s : List ℕ) where
  -- whether its bodies keep the soundness rules, and have no unused bit set
  abbrev pub good_bodies : Bool
  good_bodies = clear_image s && sound_ctc (ctc_in s)

  abbrev short : Bool
  short = ltb (length s) 10

  abbrev table : Bool
  table = agree (take 10 s) (contents_of layout_ctc)

  abbrev long : Bool
  long = eqb (length s) 41

  answered : restored_ctc s ≡ restores_ctc short table long good_bodies (ctc_in s)
  unfolding restored_ctc accepted_ctc
  answered = refl

  code_is : (restored_ctc s).code ≡ (restores short table long good_bodies fresh_of).code
  code_is = ap (λ (r : Restored Ctc). r.code) answered ∙ code-as short table long good_bodies (ctc_in s)

  enough : length s ≡ 41 → short ≡ false
  enough n = le-ltb (length s) 10 (omega arith)

  pub restore-7 : ((restored_ctc s).code ≡ 7) ↔ ((length s < 10) ⊎ ((10 ≤ length s) × (take 10 s ≡ contents_of layout_ctc) × (length s ≢ 41)))
  restore-7 = (
    λ h.
        ⊎_elim (λ e. inl (ltb-true _ _ e)) (λ e. inr (ltb-false _ _ e.0, same _ _ e.1, eqb-false _ _ e.2))
        (told-7 short table long good_bodies fresh_of (sym code_is ∙ h)),
    ⊎_elim (λ e. code_is ∙ simp (lt-ltb _ _ e)) (λ e. code_is ∙ simp (le-ltb _ _ e.0, alike _ _ e.1, ne_eqb _ _ e.2)),
  )

  pub restore-8 : ((restored_ctc s).code ≡ 8) ↔ (10 ≤ length s) × (take 10 s ≢ contents_of layout_ctc)
  restore-8 = (
    λ h. let p = told-8 short table long good_bodies fresh_of (sym code_is ∙ h) in (ltb-false _ _ p.0, differ _ _ p.1),
    λ h. code_is ∙ simp (le-ltb _ _ h.0, unlike _ _ h.1),
  )

  pub restore-9 : ((restored_ctc s).code ≡ 9) ↔ (take 10 s ≡ contents_of layout_ctc) × (length s ≡ 41) × (good_bodies ≡ false)
  restore-9 = (
    λ h. let p = told-9 short table long good_bodies fresh_of (sym code_is ∙ h) in (same _ _ p.0, eqb-true _ _ p.1, p.2),
    λ h. code_is ∙ simp (enough h.1, alike _ _ h.0, eq-eqb _ _ h.1, h.2),
  )

  pub restore-0 : ((restored_ctc s).code ≡ 0) ↔ (take 10 s ≡ contents_of layout_ctc) × (length s ≡ 41) × (good_bodies ≡ true)
  restore-0 = (
    λ h. let p = told-0 short table long good_bodies fresh_of (sym code_is ∙ h) in (same _ _ p.0, eqb-true _ _ p.1, p.2),
    λ h. code_is ∙ simp (enough h.1, alike _ _ h.0, eq-eqb _ _ h.1, h.2),
  )

  -- a refused restore gives the fresh device, an accepted one the record that its bodies tell
  pub refused-fresh : ((restored_ctc s).code ≡ 0 → ⊥) → (restored_ctc s).device ≡ fresh_ctc
  refused-fresh h =
      ap (λ (r : Restored Ctc). r.device) answered
      ∙ failed short table long good_bodies (ctc_in s) (λ e. h (ap (λ (r : Restored Ctc). r.code) answered ∙ e))

  pub accepted-told : (restored_ctc s).code ≡ 0 → (restored_ctc s).device ≡ ctc_in s
  accepted-told h =
      let p = restore-0.0 h in
      ap (λ (r : Restored Ctc). r.device) answered ∙ simp (enough p.1, alike _ _ p.0, eq-eqb _ _ p.1, p.2)
