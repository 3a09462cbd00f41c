-- When save and restore give each of their codes, both ways: paper 01, "Events and their answers", codes 7, 8 and 9; and paper 02,
-- W-205: restore's 7, 8, 7, 9, of an image of either version.
-- Assumes nothing.
use Prim.Native.Nat.{ℕ, ◌<◌, ◌≤◌}
use mathlib.Core.Path.{◌≡◌, refl}
use mathlib.Core.Bool.{Bool, true, false, not, ◌&&◌, cond}
use mathlib.Core.List.{List}
use mathlib.Core.Logic.{◌↔◌, ◌≢◌, ◌⊎◌, inl, inr, ⊎_elim}
use native.Mathlib.Omega.{arith}
use borrow.Author.Tests.{eqb-true, eqb-false, eq-eqb, ne_eqb, ltb-true, ltb-false, lt-ltb, le-ltb}
use lib.Dec.{eqb, ltb}
use lib.ListN.{length, take}
use Rattle.rules.specs.declared.Device.{Device}
use Rattle.rules.specs.Sound.{sound_of}
use Rattle.bodies.specs.Layout.{Layout, layout_of, layout_in, contents_len, length_of, contents_of}
use Rattle.bodies.specs.Taken.{device_in, clear_in}
use Rattle.image.specs.declared.Restored.{Restored}
use Rattle.image.specs.Image.{agree, save_code, refused, accepted_of, restored_in, restored_of}
use Rattle.image.proofs.Agree.{same, alike, unlike, differ}

-- ---- save, of a record and a buffer of n bytes: by whether the record is sound and whether the buffer is short
abbrev pub saves : Bool → Bool → ℕ
saves sound short = cond (not sound) 9 (cond short 7 0)

pub is-9 : (s l : Bool) → saves s l ≡ 9 → s ≡ false
is-9 true true h = absurd (omega arith)
is-9 true false h = absurd (omega arith)
is-9 false l h = refl

pub is-7 : (s l : Bool) → saves s l ≡ 7 → (s ≡ true) × (l ≡ true)
is-7 true true h = (refl, refl)
is-7 true false h = absurd (omega arith)
is-7 false l h = absurd (omega arith)

pub is-0 : (s l : Bool) → saves s l ≡ 0 → (s ≡ true) × (l ≡ false)
is-0 true true h = absurd (omega arith)
is-0 true false h = (refl, refl)
is-0 false l h = absurd (omega arith)

module _ (d : Device) (n : ℕ) where
  -- "record .. break the soundness rules"
  pub save-9 : (save_code d n ≡ 9) ↔ (sound_of d ≡ false)
  unfolding save_code
  save-9 = (is-9 (sound_of d) (ltb n (length_of (layout_of d))), λ h. simp h)

  -- "save buffer under 84 bytes", of version 2 under 96: "save's 7 goes by that length"
  pub save-7 : (save_code d n ≡ 7) ↔ (sound_of d ≡ true) × (n < length_of (layout_of d))
  unfolding save_code
  save-7 = (
    λ h. let p = is-7 (sound_of d) (ltb n (length_of (layout_of d))) h in (p.0, ltb-true n (length_of (layout_of d)) p.1),
    λ h. simp (h.0, lt-ltb n (length_of (layout_of d)) h.1),
  )

  pub save-0 : (save_code d n ≡ 0) ↔ (sound_of d ≡ true) × (length_of (layout_of d) ≤ n)
  unfolding save_code
  save-0 = (
    λ h. let p = is-0 (sound_of d) (ltb n (length_of (layout_of d))) h in (p.0, ltb-false n (length_of (layout_of d)) p.1),
    λ h. simp (h.0, le-ltb n (length_of (layout_of d)) h.1),
  )

-- ---- restore, of an image: by whether it is shorter than its contents, its contents, its length, and its bodies
abbrev pub restores : Bool → Bool → Bool → Bool → Device → Restored Device
restores short table long good d =
    cond short (refused 7)
    (cond (not table) (refused 8) (cond (not long) (refused 7) (cond (not good) (refused 9) (record { code = 0; device = d }))))

pub told-7 : (s t l g : Bool) (d : Device) → (restores s t l g d).code ≡ 7 → (s ≡ true) ⊎ ((s ≡ false) × (t ≡ true) × (l ≡ false))
told-7 true t l g d h = inl refl
told-7 false true true true d h = absurd (omega arith)
told-7 false true true false d h = absurd (omega arith)
told-7 false true false g d h = inr (refl, refl, refl)
told-7 false false l g d h = absurd (omega arith)

pub told-8 : (s t l g : Bool) (d : Device) → (restores s t l g d).code ≡ 8 → (s ≡ false) × (t ≡ false)
told-8 true t l g d h = absurd (omega arith)
told-8 false true true true d h = absurd (omega arith)
told-8 false true true false d h = absurd (omega arith)
told-8 false true false g d h = absurd (omega arith)
told-8 false false l g d h = (refl, refl)

pub told-9 : (s t l g : Bool) (d : Device) → (restores s t l g d).code ≡ 9 → (t ≡ true) × (l ≡ true) × (g ≡ false)
told-9 true t l g d h = absurd (omega arith)
told-9 false true true true d h = absurd (omega arith)
told-9 false true true false d h = (refl, refl, refl)
told-9 false true false g d h = absurd (omega arith)
told-9 false false l g d h = absurd (omega arith)

pub told-0 : (s t l g : Bool) (d : Device) → (restores s t l g d).code ≡ 0 → (t ≡ true) × (l ≡ true) × (g ≡ true)
told-0 true t l g d h = absurd (omega arith)
told-0 false true true true d h = (refl, refl, refl)
told-0 false true true false d h = absurd (omega arith)
told-0 false true false g d h = absurd (omega arith)
told-0 false false l g d h = absurd (omega arith)

module _ (s : List ℕ) where
  -- its version's layout, its first bytes, the record of its bodies, and whether they keep the soundness rules
  abbrev layout : Layout
  layout = layout_in s

  abbrev pub first_bytes : List ℕ
  first_bytes = take (contents_len layout) s

  abbrev pub told : Device
  told = device_in layout s

  abbrev pub good_bodies : Bool
  good_bodies = clear_in layout s && sound_of told

  abbrev pub short : Bool
  short = ltb (length s) (contents_len layout)

  abbrev pub table : Bool
  table = agree first_bytes (contents_of layout)

  abbrev pub long : Bool
  long = eqb (length s) (length_of layout)

  -- one of its version's length is not shorter than its contents
  pub enough : length s ≡ length_of layout → short ≡ false
  enough n = le-ltb (length s) (contents_len layout) (omega arith)

  -- "7 for an image shorter than its version's table", and after 8 "7 for a length other than the version's"
  pub restore-7 : ((restored_of s).code ≡ 7) ↔ ((length s < contents_len layout)
      ⊎ ((contents_len layout ≤ length s) × (first_bytes ≡ contents_of layout) × (length s ≢ length_of layout)))
  unfolding restored_of restored_in accepted_of
  restore-7 = (
    λ h.
        ⊎_elim (λ e. inl (ltb-true _ _ e)) (λ e. inr (ltb-false _ _ e.0, same _ _ e.1, eqb-false _ _ e.2))
        (told-7 short table long good_bodies told h),
    ⊎_elim (λ e. simp (lt-ltb _ _ e)) (λ e. simp (le-ltb _ _ e.0, alike _ _ e.1, ne_eqb _ _ e.2)),
  )

  -- "then 8": "image's first 18 bytes differ from the table", of version 2 its first 22
  pub restore-8 : ((restored_of s).code ≡ 8) ↔ (contents_len layout ≤ length s) × (first_bytes ≢ contents_of layout)
  unfolding restored_of restored_in accepted_of
  restore-8 = (
    λ h. let p = told-8 short table long good_bodies told h in (ltb-false _ _ p.0, differ _ _ p.1),
    λ h. simp (le-ltb _ _ h.0, unlike _ _ h.1),
  )

  -- "then 9": "bodies break the soundness rules"
  pub restore-9 : ((restored_of s).code ≡ 9) ↔ (first_bytes ≡ contents_of layout) × (length s ≡ length_of layout) × (good_bodies ≡ false)
  unfolding restored_of restored_in accepted_of
  restore-9 = (
    λ h. let p = told-9 short table long good_bodies told h in (same _ _ p.0, eqb-true _ _ p.1, p.2),
    λ h. simp (enough h.1, alike _ _ h.0, eq-eqb _ _ h.1, h.2),
  )

  pub restore-0 : ((restored_of s).code ≡ 0) ↔ (first_bytes ≡ contents_of layout) × (length s ≡ length_of layout) × (good_bodies ≡ true)
  unfolding restored_of restored_in accepted_of
  restore-0 = (
    λ h. let p = told-0 short table long good_bodies told h in (same _ _ p.0, eqb-true _ _ p.1, p.2),
    λ h. simp (enough h.1, alike _ _ h.0, eq-eqb _ _ h.1, h.2),
  )
