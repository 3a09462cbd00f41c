-- Save and restore of a CTC undo each other: no prescaler, count, flag, IP or IUS is lost on the way. `FourChannels` is what every record of
-- the struct has, and `Bytes` what every slice of bytes has.
-- Assumes nothing.
use Prim.Native.Nat.{ℕ, ◌+◌, ◌*◌, ◌<◌}
use mathlib.Core.Path.{◌≡◌, refl, sym, ap, ap₂, ◌∙◌}
use mathlib.Core.Bool.{Bool, true, false, cond}
use mathlib.Core.List.{List, [], ◌∷◌, ◌++◌}
use native.Mathlib.Omega.{arith}
use borrow.Author.Tests.{eq-eqb, le-ltb}
use lib.Dec.{eqb, ltb}
use lib.ListN.{length, get_or, take, drop}
use lib.Seq.{take_at, take_all}
use Rattle.basics.proofs.Tests.{both, triple, each}
use Rattle.bodies.specs.Layout.{contents_of, body_in}
use Rattle.bodies.specs.Taken.{Bytes, byte_at}
use Rattle.bodies.proofs.Bytes.{pulse-0, pulse-1, pulse-2, pulse-clear, pulse-made, line_clear, made_of}
use Rattle.bodies.proofs.Entries.{bytes-part, part_length, together}
use Rattle.bodies.proofs.Lists.{elements}
use Rattle.image.proofs.Agree.{alike}
use Rattle.ctc_rules.specs.declared.Channel.{Channel}
use Rattle.ctc_rules.specs.declared.Ctc.{Ctc}
use Rattle.ctc_rules.specs.Record.{FourChannels, four_of, channel_at}
use Rattle.ctc_rules.specs.Sound.{sound_ctc}
use Rattle.image.specs.declared.Restored.{Restored}
use Rattle.ctc_image.specs.Layout.{layout_ctc, channel_bytes, channels_body, rest_body, image_ctc, channel_byte, channel_in, told_ctc, channel_clear, clear_ctc, ctc_in, clear_image}
use Rattle.ctc_image.specs.Image.{save_code_ctc, saved_ctc, accepted_ctc, restored_ctc}
use Rattle.ctc_image.proofs.Codes.{image-length, save-0, saved-whole, restore-0, accepted-told}

-- ---- out and in
one : (b : Bool) → eqb (cond b 1 0) 1 ≡ b
one true = refl
one false = refl

-- four channels are their four places
four : (l : List Channel) (d : Ctc) → d.channels ≡ l → length l ≡ 4 → four_of (channel_at d) ≡ d.channels
four [] d e n = absurd (omega arith)
four (a ∷ []) d e n = absurd (omega arith)
four (a ∷ b ∷ []) d e n = absurd (omega arith)
four (a ∷ b ∷ c ∷ []) d e n = absurd (omega arith)
four (a ∷ b ∷ c ∷ x ∷ []) d e n = simp e
four (a ∷ b ∷ c ∷ x ∷ y ∷ l) d e n = absurd (omega arith)

module _ (d : Ctc) where
  read-1 : body_in layout_ctc 1 (image_ctc d) ≡ channels_body d
  unfolding image_ctc channels_body channel_bytes rest_body
  read-1 = refl

  read-2 : body_in layout_ctc 2 (image_ctc d) ≡ rest_body d
  unfolding image_ctc channels_body channel_bytes rest_body
  read-2 = refl

  image-contents : take 10 (image_ctc d) ≡ contents_of layout_ctc
  unfolding image_ctc
  image-contents = refl

  told : FourChannels d → told_ctc (channels_body d) (rest_body d) ≡ d
  unfolding told_ctc channel_in channels_body channel_bytes rest_body
  told f =
      (simp (pulse-0, pulse-1, pulse-2, one))
      ∙ ap (λ (l : List Channel). record { channels = l; vector = d.vector; levels = d.levels; iei = d.iei }) (four d.channels d refl f)

  clear : clear_ctc (channels_body d) (rest_body d) ≡ true
  unfolding clear_ctc channel_clear channels_body channel_bytes rest_body
  clear = simp (pulse-clear, line_clear)

  -- a sound record's image restores to that very record
  pub restored-image : FourChannels d → sound_ctc d ≡ true → restored_ctc (image_ctc d) ≡ record { code = 0; device = d }
  unfolding restored_ctc accepted_ctc
  restored-image f s =
      let n = image-length d in
      simp (
        le-ltb (length (image_ctc d)) 10 (omega arith),
        alike _ (contents_of layout_ctc) image-contents,
        eq-eqb (length (image_ctc d)) 41 n,
        read-1,
        read-2,
        clear,
        told f,
        s,
      )

  -- restoring what save wrote gives code 0 and that very record
  pub restored-saved : (e : List ℕ) → FourChannels d → save_code_ctc d (length e) ≡ 0
      → restored_ctc (take 41 (saved_ctc d e)) ≡ record { code = 0; device = d }
  restored-saved e f h =
      ap (λ (b : List ℕ). restored_ctc (take 41 b)) (saved-whole d e h)
      ∙ ap restored_ctc (take_at (image_ctc d) (drop 41 e) 41 (image-length d)) ∙ restored-image f ((save-0 d (length e)).0 h).0

-- two sound records that have one image are equal
pub one-record : (d e : Ctc) → FourChannels d → sound_ctc d ≡ true → FourChannels e → sound_ctc e ≡ true → image_ctc d ≡ image_ctc e → d ≡ e
one-record d e f s g t h = ap (λ (r : Restored Ctc). r.device) (sym (restored-image d f s) ∙ ap restored_ctc h ∙ restored-image e g t)

-- ---- in and out
state-made : (x : ℕ) → x < 256 → ltb x 2 ≡ true → cond (eqb x 1) 1 0 ≡ x
state-made = made_of (λ x. ltb x 2) (λ x. cond (eqb x 1) 1 0) tt

-- the seven bytes of a channel
abbrev seven : List ℕ → ℕ → List ℕ
seven b i =
    channel_byte b i 0 ∷ channel_byte b i 1 ∷ channel_byte b i 2 ∷ channel_byte b i 3 ∷ channel_byte b i 4 ∷ channel_byte b i 5 ∷ channel_byte b i 6 ∷ []

channel-written : (b : List ℕ) (i : ℕ) → Bytes b → channel_clear b i ≡ true → channel_bytes (channel_in b i) ≡ seven b i
unfolding channel_bytes channel_in channel_clear
channel-written b i h c =
    let p = triple (ltb (channel_byte b i 4) 8) (ltb (channel_byte b i 5) 2) (ltb (channel_byte b i 6) 2) c in
    simp (
      pulse-made (channel_byte b i 4) (h (4 + 7 * i)) p.0,
      state-made (channel_byte b i 5) (h (5 + 7 * i)) p.1,
      state-made (channel_byte b i 6) (h (6 + 7 * i)) p.2,
    )

module _ (b l : List ℕ) (c : clear_ctc b l ≡ true) where
  clears : (i : ℕ) → get_or (channel_clear b 0 ∷ channel_clear b 1 ∷ channel_clear b 2 ∷ channel_clear b 3 ∷ ltb (byte_at l 2) 2 ∷ []) i true ≡ true
  unfolding clear_ctc
  clears i = each (channel_clear b 0 ∷ channel_clear b 1 ∷ channel_clear b 2 ∷ channel_clear b 3 ∷ ltb (byte_at l 2) 2 ∷ []) c i

  channels-written : length b ≡ 28 → Bytes b → channels_body (told_ctc b l) ≡ b
  unfolding channels_body told_ctc
  channels-written n h =
      (simp (channel-written b 0 h (clears 0), channel-written b 1 h (clears 1), channel-written b 2 h (clears 2), channel-written b 3 h (clears 3)))
      ∙ elements b 28 n

  lines-written : length l ≡ 3 → Bytes l → rest_body (told_ctc b l) ≡ l
  unfolding rest_body told_ctc
  lines-written n h = (simp (state-made (byte_at l 2) (h 2) (clears 4))) ∙ elements l 3 n

module _ (s : List ℕ) (h : (restored_ctc s).code ≡ 0) where
  met : (take 10 s ≡ contents_of layout_ctc) × (length s ≡ 41) × (clear_image s ≡ true) × (sound_ctc (ctc_in s) ≡ true)
  met =
      let p = (restore-0 s).0 h in
      let q = both (clear_image s) (sound_ctc (ctc_in s)) p.2 in (p.0, p.1, q.0, q.1)

  -- an accepted image's record is sound, and one that the struct holds
  pub accepted-sound : sound_ctc (restored_ctc s).device ≡ true
  accepted-sound = ap sound_ctc (accepted-told s h) ∙ met.3

  pub accepted-four : FourChannels (restored_ctc s).device
  unfolding told_ctc
  accepted-four = ap (λ (d : Ctc). length d.channels) (accepted-told s h)

  -- an accepted image is, byte for byte, what saving its record writes
  pub accepted-written : Bytes s → image_ctc (restored_ctc s).device ≡ s
  unfolding image_ctc
  accepted-written b =
      let first = body_in layout_ctc 1 s in
      let second = body_in layout_ctc 2 s in
      let long-1 = part_length 10 28 s (omega (arith, met.1)) in
      let long-2 = part_length 38 3 s (omega (arith, met.1)) in
      let written-1 = channels-written first second met.2 long-1 (bytes-part 10 28 s b) in
      let written_2 = lines-written first second met.2 long-2 (bytes-part 38 3 s b) in
      ap image_ctc (accepted-told s h)
      ∙ ap₂ (λ (i j : List ℕ). contents_of layout_ctc ++ (i ++ (j ++ []))) written-1 written_2
      ∙ ap (λ (t : List ℕ). t ++ (first ++ (second ++ []))) (sym met.0)
      ∙ together 10 layout_ctc.entries s ∙ take_all 41 s (omega (arith, met.1))
