-- Paper 02, W-209: when restore gives a Z8536 each of its codes, both ways: 7, 8, 7, 9 as for the Z8036, of an image whose first byte is
-- 03; any other is refused, and so is one with 03 by the Z8036.
-- Assumes nothing.
use Prim.Native.Nat.{ℕ, ◌<◌, ◌≤◌}
use mathlib.Core.Path.{◌≡◌, refl, sym, ap, subst, ◌∙◌}
use mathlib.Core.Bool.{Bool, true, false, not, ◌&&◌, cond, false≢true}
use mathlib.Core.List.{List}
use mathlib.Core.Logic.{◌↔◌, ◌≢◌, ◌⊎◌, inl, inr, ⊎_elim}
use native.Mathlib.Omega.{arith}
use borrow.Author.Tests.{eqb-true, eqb-false, eq-eqb, ne_eqb, ltb-true, ltb-false, lt-ltb, le-ltb}
use lib.Dec.{eqb, ltb, lit<}
use lib.ListN.{length, get_or, take}
use lib.Seq.{get_or-take}
use Rattle.rules.specs.Record.{fresh_of}
use Rattle.rules.specs.Sound.{sound_of}
use Rattle.z8536.specs.declared.Z8536.{Z8536}
use Rattle.z8536.specs.Z8536.{fresh_z8536, sound_z8536}
use Rattle.z8536.proofs.Parts.{parts}
use Rattle.bodies.specs.Layout.{Layout, layout1, layout3, layout_in, contents_len, contents_of, body_in}
use Rattle.bodies.specs.Taken.{pointer_in, pointed_in, pointer_clear, device_in, clear_in}
use Rattle.image.specs.declared.Restored.{Restored}
use Rattle.image.specs.Image.{agree, accepted_of, restored_in, restored_of}
use Rattle.image.specs.Pointed.{refused_z8536, other_code, with_pointer, restored_z8536}
use Rattle.image.proofs.Agree.{same, alike, unlike, differ}
use Rattle.image.proofs.Codes.{restores, told-7, told-8, told-9, told-0}
use Rattle.image.proofs.Codes.{restore-0 as core-0}

-- by whether an image is shorter than its contents, its contents, its length, and its six bodies
abbrev restores_z8536 : Bool → Bool → Bool → Bool → Z8536 → Restored Z8536
restores_z8536 short table long good z =
    cond short (refused_z8536 7)
    (cond (not table) (refused_z8536 8) (cond (not long) (refused_z8536 7) (cond (not good) (refused_z8536 9) (record { code = 0; device = z }))))

-- the codes are those of the Z8036
code-as : (s t l g : Bool) (z : Z8536) → (restores_z8536 s t l g z).code ≡ (restores s t l g fresh_of).code
code-as true t l g z = refl
code-as false true true true z = refl
code-as false true true false z = refl
code-as false true false g z = refl
code-as false false l g z = refl

failed : (s t l g : Bool) (z : Z8536) → ((restores_z8536 s t l g z).code ≡ 0 → ⊥) → (restores_z8536 s t l g z).device ≡ fresh_z8536
failed true t l g z h = refl
failed false true true true z h = absurd (h refl)
failed false true true false z h = refl
failed false true false g z h = refl
failed false false l g z h = refl

abbrev others : Bool → ℕ
others short = cond short 7 8

if-7 : (t : Bool) → others t ≡ 7 → t ≡ true
if-7 true h = refl
if-7 false h = absurd (omega arith)

if-8 : (t : Bool) → others t ≡ 8 → t ≡ false
if-8 true h = absurd (omega arith)
if-8 false h = refl

if-else : (t : Bool) (n : ℕ) → others t ≡ n → n ≢ 7 → n ≢ 8 → ⊥
if-else true n h g k = g (sym h)
if-else false n h g k = k (sym h)

module _ (s : List ℕ) where
  abbrev sixth : List ℕ
  sixth = body_in layout3 6 s

  -- the record of its bodies, and whether they keep the soundness rules
  abbrev pub told : Z8536
  told = record { core = device_in layout3 s; pointer = pointer_in sixth; pointed = pointed_in sixth }

  abbrev pub good_bodies : Bool
  good_bodies = clear_in layout3 s && pointer_clear sixth && sound_z8536 told

  abbrev short : Bool
  short = ltb (length s) 26

  abbrev table : Bool
  table = agree (take 26 s) (contents_of layout3)

  abbrev long : Bool
  long = eqb (length s) 102

  -- a core that is not sound, so neither is the whole
  by_parts : (t u l c o p k : Bool) → sound_of told.core ≡ o → pointer_clear sixth ≡ p → sound_z8536 told ≡ k
      → with_pointer (restores t u l (c && o) told.core) sixth ≡ restores_z8536 t u l (c && p && k) told
  unfolding with_pointer
  by_parts true u l c o p k ho hp hk = refl
  by_parts false false l c o p k ho hp hk = refl
  by_parts false true false c o p k ho hp hk = refl
  by_parts false true true false o p k ho hp hk = refl
  by_parts false true true true true p k ho hp hk = simp (hp, hk)
  by_parts false true true true false true true ho hp hk = absurd (false≢true (sym ho ∙ (parts told hk).core))
  by_parts false true true true false true false ho hp hk = refl
  by_parts false true true true false false k ho hp hk = refl

  whole : with_pointer (restored_in layout3 s) sixth ≡ restores_z8536 short table long good_bodies told
  unfolding restored_in accepted_of
  whole = by_parts short table long (clear_in layout3 s) (sound_of told.core) (pointer_clear sixth) (sound_z8536 told) refl refl refl

  -- ---- "an unknown first byte counts as version 1"
  module _ (other : get_or s 0 0 ≢ 3) where
    pub other-refused : restored_z8536 s ≡ refused_z8536 (other_code s)
    unfolding restored_z8536
    other-refused = simp (ne_eqb (get_or s 0 0) 3 other)

    other-code : (restored_z8536 s).code ≡ other_code s
    other-code = ap (λ (r : Restored Z8536). r.code) other-refused

    -- "7 for an image shorter than its version's table .., then 8"
    pub other-7 : ((restored_z8536 s).code ≡ 7) ↔ (length s < 18)
    unfolding other_code
    other-7 = (λ h. ltb-true _ _ (if-7 (ltb (length s) 18) (sym other-code ∙ h)), λ h. other-code ∙ simp (lt-ltb (length s) 18 h))

    pub other-8 : ((restored_z8536 s).code ≡ 8) ↔ (18 ≤ length s)
    unfolding other_code
    other-8 = (λ h. ltb-false _ _ (if-8 (ltb (length s) 18) (sym other-code ∙ h)), λ h. other-code ∙ simp (le-ltb (length s) 18 h))

  -- ---- "first bytes 03 and 06"
  module _ (first : get_or s 0 0 ≡ 3) where
    pub answered : restored_z8536 s ≡ restores_z8536 short table long good_bodies told
    unfolding restored_z8536
    answered = (simp (eq-eqb (get_or s 0 0) 3 first)) ∙ whole

    code_is : (restored_z8536 s).code ≡ (restores short table long good_bodies fresh_of).code
    code_is = ap (λ (r : Restored Z8536). r.code) answered ∙ code-as short table long good_bodies told

    pub restore-7 : ((restored_z8536 s).code ≡ 7) ↔ ((length s < 26) ⊎ ((26 ≤ length s) × (take 26 s ≡ contents_of layout3) × (length s ≢ 102)))
    restore-7 = (
      λ h.
          ⊎_elim (λ e. inl (ltb-true _ _ e)) (λ e. inr (ltb-false _ _ e.0, same _ _ e.1, eqb-false _ _ e.2))
          (told-7 short table long good_bodies fresh_of (sym code_is ∙ h)),
      ⊎_elim (λ e. code_is ∙ simp (lt-ltb _ _ e)) (λ e. code_is ∙ simp (le-ltb _ _ e.0, alike _ _ e.1, ne_eqb _ _ e.2)),
    )

    pub restore-8 : ((restored_z8536 s).code ≡ 8) ↔ (26 ≤ length s) × (take 26 s ≢ contents_of layout3)
    restore-8 = (
      λ h. let p = told-8 short table long good_bodies fresh_of (sym code_is ∙ h) in (ltb-false _ _ p.0, differ _ _ p.1),
      λ h. code_is ∙ simp (le-ltb _ _ h.0, unlike _ _ h.1),
    )

  -- the table begins with 03
  begins : take 26 s ≡ contents_of layout3 → get_or s 0 0 ≡ 3
  begins t = sym (get_or-take 26 s 0 0 (lit< tt)) ∙ ap (λ (l : List ℕ). get_or l 0 0) t

  enough : length s ≡ 102 → short ≡ false
  enough n = le-ltb (length s) 26 (omega arith)

  -- no other code is one of another first byte
  starts : (n : ℕ) → (restored_z8536 s).code ≡ n → n ≢ 7 → n ≢ 8 → (t : Bool) → eqb (get_or s 0 0) 3 ≡ t → get_or s 0 0 ≡ 3
  unfolding other_code
  starts n h g k true e = eqb-true _ _ e
  starts n h g k false e = absurd (if-else (ltb (length s) 18) n (sym (other-code (eqb-false _ _ e)) ∙ h) g k)

  pub restore-9 : ((restored_z8536 s).code ≡ 9) ↔ (take 26 s ≡ contents_of layout3) × (length s ≡ 102) × (good_bodies ≡ false)
  restore-9 = (
    λ h.
        let first = starts 9 h (λ e. omega arith) (λ e. omega arith) _ refl in
        let p = told-9 short table long good_bodies fresh_of (sym (code_is first) ∙ h) in (same _ _ p.0, eqb-true _ _ p.1, p.2),
    λ h. code_is (begins h.0) ∙ simp (enough h.1, alike _ _ h.0, eq-eqb _ _ h.1, h.2),
  )

  pub restore-0 : ((restored_z8536 s).code ≡ 0) ↔ (take 26 s ≡ contents_of layout3) × (length s ≡ 102) × (good_bodies ≡ true)
  restore-0 = (
    λ h.
        let first = starts 0 h (λ e. omega arith) (λ e. omega arith) _ refl in
        let p = told-0 short table long good_bodies fresh_of (sym (code_is first) ∙ h) in (same _ _ p.0, eqb-true _ _ p.1, p.2),
    λ h. code_is (begins h.0) ∙ simp (enough h.1, alike _ _ h.0, eq-eqb _ _ h.1, h.2),
  )

  pub accepted-told : (restored_z8536 s).code ≡ 0 → (restored_z8536 s).device ≡ told
  accepted-told h =
      let p = restore-0.0 h in
      ap (λ (r : Restored Z8536). r.device) (answered (begins p.0)) ∙ simp (enough p.1, alike _ _ p.0, eq-eqb _ _ p.1, p.2)

  -- "A refused restore gives the fresh device."
  fresh-by : ((restored_z8536 s).code ≢ 0) → (t : Bool) → eqb (get_or s 0 0) 3 ≡ t → (restored_z8536 s).device ≡ fresh_z8536
  fresh-by h true e =
      let is = answered (eqb-true _ _ e) in
      ap (λ (r : Restored Z8536). r.device) is
      ∙ failed short table long good_bodies told (λ c. h (ap (λ (r : Restored Z8536). r.code) is ∙ c))
  fresh-by h false e = ap (λ (r : Restored Z8536). r.device) (other-refused (eqb-false _ _ e))

  pub refused-fresh : (restored_z8536 s).code ≢ 0 → (restored_z8536 s).device ≡ fresh_z8536
  refused-fresh h = fresh-by h _ refl

  -- the Z8036 refuses an image with that first byte
  unknown-first : get_or s 0 0 ≡ 3 → layout_in s ≡ layout1
  unfolding layout_in
  unknown-first first = simp (ne_eqb (get_or s 0 0) 2 (λ e. omega arith))

  pub z8036-refuses : get_or s 0 0 ≡ 3 → (restored_of s).code ≢ 0
  z8036-refuses first h =
      let t = subst (λ (l : Layout). take (contents_len l) s ≡ contents_of l) (unknown-first first) ((core-0 s).0 h).0 in
      let one = sym (get_or-take 18 s 0 0 (lit< tt)) ∙ ap (λ (l : List ℕ). get_or l 0 0) t in
      omega (arith, one)
