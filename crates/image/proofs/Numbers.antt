-- An image by its numbers is the image in its layout: the contents, byte for byte, and where each body stands.
-- Assumes nothing.
use Rattle.std.specs.Prelude.{◌==◌, Ok, Err}
use Prim.Native.Nat.{ℕ}
use mathlib.Core.Path.{◌≡◌, refl, ap, ◌∙◌}
use mathlib.Core.Bool.{true}
use mathlib.Core.List.{List, [], ◌∷◌}
use lib.Dec.{lit<}
use lib.ListN.{get_or, drop}
use lib.Seq.{get_or-take, get_or-drop}
use Rattle.bodies.specs.Layout.{layout1, layout2, layout3, contents_of, body_in}
use Rattle.bodies.specs.Taken.{device_in, clear_in}
use Rattle.rules.specs.declared.Device.{Device}
use Rattle.rules.specs.declared.refusal.Refusal.{Refusal}
use Rattle.rules.specs.declared.refusal.Refusal.TheVariants.{Unknown, NoRegister, ReadOnly, Later, TooLarge, NoRequester, Length, Contents, Unsound, NoRoom, NoByte, TooLong, NoDevice}
use Rattle.rules.specs.Refusals.{refusal_number}
use Rattle.rules.specs.Record.{fresh_of}
use Rattle.z8536.specs.Z8536.{fresh_z8536}
use Rattle.image.specs.declared.Restored.{Restored}
use Rattle.image.specs.Pointed.{with_pointer, restored_z8536}
use Rattle.image.specs.Image.{restored_from, fifth_len, restored_in, restored_by}

pub by-1 : (s : List ℕ) → restored_by 1 (contents_of layout1) 0 s ≡ restored_in layout1 s
unfolding restored_by restored_in fifth_len device_in clear_in
by-1 s = refl

pub by_2 : (s : List ℕ) → restored_by 2 (contents_of layout2) 0 s ≡ restored_in layout2 s
unfolding restored_by restored_in fifth_len device_in clear_in
by_2 s = refl

-- the Z8536's has two bytes more, of its sixth body
pub by-3 : (s : List ℕ) → restored_by 2 (contents_of layout3) 2 s ≡ restored_in layout3 s
unfolding restored_by restored_in fifth_len device_in clear_in
by-3 s = refl

-- the sixth body is read at 100 and 101
sixth-0 : (s : List ℕ) → get_or (body_in layout3 6 s) 0 0 ≡ get_or s 100 0
sixth-0 s = get_or-take 2 (drop 100 s) 0 0 (lit< tt) ∙ get_or-drop 100 s 0 0

sixth-1 : (s : List ℕ) → get_or (body_in layout3 6 s) 1 0 ≡ get_or s 101 0
sixth-1 s = get_or-take 2 (drop 100 s) 1 0 (lit< tt) ∙ get_or-drop 100 s 1 0

pub sixth-read : (r : Restored Device) (s : List ℕ) → with_pointer r (get_or s 100 0 ∷ get_or s 101 0 ∷ []) ≡ with_pointer r (body_in layout3 6 s)
unfolding with_pointer
sixth-read r s = simp (sixth-0, sixth-1)

-- an image whose first byte is 03, and of which a core was read, or refused with r
module _ (s : List ℕ) (h : (get_or s 0 0 == 3) ≡ true) where
  pub begins-3 : with_pointer (restored_in layout3 s) (body_in layout3 6 s) ≡ restored_z8536 s
  unfolding restored_z8536
  begins-3 = simp h

  pub core-read : (core : Device) → restored_from (Ok core) fresh_of ≡ restored_by 2 (contents_of layout3) 2 s
      → with_pointer (record { code = 0; device = core }) (get_or s 100 0 ∷ get_or s 101 0 ∷ []) ≡ restored_z8536 s
  unfolding restored_from
  core-read core k =
      ap (λ (r : Restored Device). with_pointer r (get_or s 100 0 ∷ get_or s 101 0 ∷ [])) (k ∙ by-3 s) ∙ sixth-read (restored_in layout3 s) s ∙ begins-3

  pub core-refused : (r : Refusal) → restored_from (Err r) fresh_of ≡ restored_by 2 (contents_of layout3) 2 s
      → restored_from (Err r) fresh_z8536 ≡ restored_z8536 s
  unfolding restored_from with_pointer refusal_number
  core-refused r k = passed r ∙ ap (λ (t : Restored Device). with_pointer t (body_in layout3 6 s)) (k ∙ by-3 s) ∙ begins-3
    where
      passed : (r : Refusal) → restored_from (Err r) fresh_z8536 ≡ with_pointer (restored_from (Err r) fresh_of) (body_in layout3 6 s)
      passed Unknown = refl
      passed NoRegister = refl
      passed ReadOnly = refl
      passed Later = refl
      passed TooLarge = refl
      passed NoRequester = refl
      passed Length = refl
      passed Contents = refl
      passed Unsound = refl
      passed NoRoom = refl
      passed NoByte = refl
      passed TooLong = refl
      passed NoDevice = refl
