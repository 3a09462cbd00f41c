-- The whole image from its bodies, in either layout: where each stands, and what they tell together.
-- Assumes nothing.
use Rattle.std.specs.Prelude.{◌==◌}
use Prim.Native.Nat.{ℕ, ◌+◌, ◌≤◌}
use mathlib.Core.Path.{◌≡◌, refl, sym, ap, ap₂, subst, ◌∙◌}
use mathlib.Core.Bool.{Bool, true, false, ◌&&◌}
use mathlib.Core.List.{List, [], ◌∷◌, ◌++◌}
use mathlib.Core.Logic.{◌⊎◌, inl, inr}
use native.Mathlib.Omega.{arith}
use lib.ListN.{length, get_or, take, length-append}
use lib.Seq.{take_all, take_at}
use Rattle.rules.specs.declared.Counter.{Counter}
use Rattle.rules.specs.declared.Source.{Source}
use Rattle.rules.specs.declared.Port.{Port}
use Rattle.rules.specs.declared.Pattern.{Pattern}
use Rattle.rules.specs.declared.Transfer.{Transfer}
use Rattle.rules.specs.declared.Device.{Device}
use Rattle.rules.specs.With.{device, with_transfers, with_counters, with_sources, with_lines}
use Rattle.rules.specs.Record.{Shaped, bare, blank, vacant, silent, idle, quiet}
use Rattle.rules.specs.Interrupts.{first_of, first, served, pending, requests, requester, int_of, ieo_of, place_of, lines_of, relined}
use Rattle.rules.specs.Registers.{kind_of, kind_in, port_kind}
use Rattle.rules.specs.Access.{port_command, counter_command, read_of}
use Rattle.bodies.specs.Layout.{Layout, layout1, layout2, layout_of, layout_in, contents_len, offset_of, size_of, length_of, contents_of, body_in}
use Rattle.bodies.specs.declared.Bodies.{Bodies}
use Rattle.bodies.specs.Written.{saved_byte, registers_from, registers_body, flags_of, counts_body, hidden_of, pins_body, lines_body, transfers_body, bodies_of, body_of, bodies_from, image_of}
use Rattle.bodies.specs.Taken.{Bytes, registers_in, counts_in, pins_in, lines_in, transfers_in, record_in, device_in}
use Rattle.bodies.specs.Taken.{registers_clear, counts_clear, pins_clear, lines_clear, transfers_clear, unused_clear, states_agree, clear_in}
use Rattle.basics.proofs.Tests.{by-test}
use Rattle.basics.proofs.Lists.{two, three, five}
use Rattle.bodies.proofs.Bytes.{sextet}
use Rattle.bodies.proofs.Lists.{ap₃}
use Rattle.bodies.proofs.Entries.{Sized, body_among, bodies-length, found, bytes-part, part_length, parts_from, together}
use Rattle.bodies.proofs.RegistersLaw.{registers_told, registers-read, registers-written, registers-clear, states-agree}
use Rattle.bodies.proofs.CountsLaw.{counts_told, counts-read, counts-written, counts-clear, counts-apart}
use Rattle.bodies.proofs.PinsLaw.{pins_told, pins-read, pins-written, pins-clear, pins-apart-1, pins-apart-2}
use Rattle.bodies.proofs.LinesLaw.{lines_told, lines-read, lines-written, lines_clear_lem, lines-apart-1, lines-apart-2, lines-apart-3}
use Rattle.bodies.proofs.TransfersLaw.{Tells, transfers-tell, nothing-told, transfers_told, transfers-read, transfers-clear, transfers-written}

-- ---- what holds in both layouts holds in that of any record, and of any image
pub of-record : (P : Layout → Type 0) → P layout1 → P layout2 → (d : Device) → P (layout_of d)
unfolding layout_of
of-record P a b d = by-test P (d.version == 1) layout1 layout2 (λ h. a) (λ h. b)

pub of_image : (P : Layout → Type 0) → P layout1 → P layout2 → (s : List ℕ) → P (layout_in s)
unfolding layout_in
of_image P a b s = by-test P (get_or s 0 0 == 2) layout2 layout1 (λ h. b) (λ h. a)

-- ---- an image has its layout's length, the contents first, and each body at its place
module _ (d : Device) where
  abbrev layout : Layout
  layout = layout_of d

  contents-long : length (contents_of layout) ≡ contents_len layout
  contents-long = of-record (λ l. length (contents_of l) ≡ contents_len l) refl refl d

  sized : Sized (body_of d) layout.entries
  unfolding registers_body registers_from counts_body pins_body lines_body transfers_body
  sized = of-record (λ l. Sized (body_of d) l.entries) (refl, (refl, (refl, (refl, tt)))) (refl, (refl, (refl, (refl, (refl, tt))))) d

  pub image-length : length (image_of d) ≡ length_of layout
  unfolding image_of
  image-length =
      length-append (contents_of layout) (bodies_from (body_of d) layout.entries) ∙ ap₂ ◌+◌ contents-long (bodies-length (body_of d) layout.entries sized)

  pub image-contents : take (contents_len layout) (image_of d) ≡ contents_of layout
  unfolding image_of
  image-contents = take_at (contents_of layout) (bodies_from (body_of d) layout.entries) (contents_len layout) contents-long

  -- the first byte tells the layout
  pub image-layout : layout_in (image_of d) ≡ layout
  unfolding image_of layout_in
  image-layout = of-record (λ l. layout_in (contents_of l ++ bodies_from (body_of d) l.entries) ≡ l) refl refl d

  placed : (id : ℕ) → body_in layout id (image_of d) ≡ body_among (body_of d) layout.entries id
  unfolding image_of
  placed id = found (body_of d) (contents_of layout) (contents_len layout) layout.entries id contents-long sized

  pub body-1 : body_in layout 1 (image_of d) ≡ registers_body d
  body-1 = placed 1 ∙ of-record (λ l. body_among (body_of d) l.entries 1 ≡ registers_body d) refl refl d

  pub body-2 : body_in layout 2 (image_of d) ≡ counts_body d
  body-2 = placed 2 ∙ of-record (λ l. body_among (body_of d) l.entries 2 ≡ counts_body d) refl refl d

  pub body-3 : body_in layout 3 (image_of d) ≡ pins_body d
  body-3 = placed 3 ∙ of-record (λ l. body_among (body_of d) l.entries 3 ≡ pins_body d) refl refl d

  pub body-4 : body_in layout 4 (image_of d) ≡ lines_body d
  body-4 = placed 4 ∙ of-record (λ l. body_among (body_of d) l.entries 4 ≡ lines_body d) refl refl d

-- one behind the other, as they are laid
pub image-laid-1 : (d : Device) → layout_of d ≡ layout1 → contents_of layout1 ++ registers_body d ++ counts_body d ++ pins_body d ++ lines_body d ≡ image_of d
unfolding image_of registers_body registers_from counts_body pins_body lines_body
image-laid-1 d e = simp e

pub image-laid-2 : (d : Device) → layout_of d ≡ layout2
    → contents_of layout2 ++ registers_body d ++ counts_body d ++ pins_body d ++ lines_body d ++ transfers_body d ≡ image_of d
unfolding image_of registers_body registers_from counts_body pins_body lines_body transfers_body
image-laid-2 d e = simp e

-- ---- the records that an image tells whole: of version 2, or of version 1 and without anything held by a handshake
abbrev pub Versioned : Device → Type 0
Versioned d = (d.version ≡ 2) ⊎ ((d.version ≡ 1) × (d.transfers ≡ vacant ∷ vacant ∷ []))

-- its version is the layout's, and the fifth body, empty in version 1, tells what the ports hold
pub version-told : (d : Device) → Versioned d → (layout_of d).version ≡ d.version
unfolding layout_of
version-told d (inl e) = simp e
version-told d (inr e) = simp e.0

abbrev Fifth : Device → List ℕ → Type 0
Fifth d b = (transfers_clear b ≡ true) × Tells b d

fifth-among : (d : Device) → Versioned d → Fifth d (body_among (body_of d) (layout_of d).entries 5)
unfolding layout_of
fifth-among d (inl e) = simp e (transfers-clear d, transfers-tell d)
fifth-among d (inr e) = simp e.0 (refl, nothing-told d e.1)

fifth : (d : Device) → Versioned d → Fifth d (body_in (layout_of d) 5 (image_of d))
fifth d v = subst (Fifth d) (sym (placed d 5)) (fifth-among d v)

-- ---- what was written is clear, and is read back
pub image-clear : (d : Device) → Versioned d → clear_in (layout_of d) (image_of d) ≡ true
unfolding clear_in unused_clear
image-clear d v =
    let t = fifth d v in
    ap₂ ◌&&◌
    (ap₂ ◌&&◌
    (ap₂ ◌&&◌
    (ap₃ (λ (a b c : Bool). a && b && c)
    (ap registers_clear (body-1 d) ∙ registers-clear d) (ap counts_clear (body-2 d) ∙ counts-clear d) (ap pins_clear (body-3 d) ∙ pins-clear d))
    (ap lines_clear (body-4 d) ∙ lines_clear_lem d))
    t.0)
    (ap (λ (b : List ℕ). states_agree b (body_in (layout_of d) 5 (image_of d))) (body-1 d) ∙ states-agree d (body_in (layout_of d) 5 (image_of d)) t.1)

-- a record without its stored lines, which are worked out from the rest
abbrev unlit : Device → Device
unlit d = with_lines d (silent false)

blind : (d : Device) → relined (unlit d) ≡ relined d
unfolding relined lines_of int_of ieo_of place_of requester first first_of requests pending served
blind d = refl

-- they stand in no body
unwritten : (d : Device) → bodies_of (relined d) ≡ bodies_of d
unfolding relined registers_body registers_from saved_byte read_of kind_of kind_in port_kind port_command counter_command counts_body flags_of pins_body hidden_of lines_body transfers_body
unwritten d = refl

-- the bodies and the version tell the whole record but its stored lines
all_told : (d : Device) → Shaped d → transfers_told (lines_told (pins_told (counts_told (registers_told d.version d) d) d) d) d ≡ unlit d
all_told d f =
    let told = transfers_told (lines_told (pins_told (counts_told (registers_told d.version d) d) d) d) d in
    ap₃ (λ (vs : List ℕ) (ps : List Port) (qs : List Pattern).
    device d.version d.master d.config vs ps qs told.transfers told.counters told.sources d.iei d.phase (silent false))
    (sym (three 0 d.vectors f.vectors)) (sym (three (bare 0) d.ports f.ports)) (sym (two blank d.patterns f.patterns))
    ∙ ap₃ (λ (ts : List Transfer) (cs : List Counter) (ss : List Source). with_sources (with_counters (with_transfers (unlit d) ts) cs) ss)
    (sym (two vacant d.transfers f.transfers)) (sym (three idle d.counters f.counters)) (sym (five quiet d.sources f.sources))

-- so it is read back with its lines worked out
pub read_back : (d : Device) → Shaped d → Versioned d → device_in (layout_of d) (image_of d) ≡ relined d
unfolding device_in record_in
read_back d f v =
    let b = body_in (layout_of d) 5 (image_of d) in
    let n = d.version in
    (simp (version-told d v, body-1 d, body-2 d, body-3 d, body-4 d))
    ∙ ap relined
    (ap (λ (r : Device). transfers_in (lines_in (pins_in (counts_in r (counts_body d)) (pins_body d)) (lines_body d)) b) (registers-read n d)
    ∙ ap (λ (r : Device). transfers_in (lines_in (pins_in r (pins_body d)) (lines_body d)) b) (counts-read (registers_told n d) d)
    ∙ ap (λ (r : Device). transfers_in (lines_in r (lines_body d)) b) (pins-read (counts_told (registers_told n d) d) d)
    ∙ ap (λ (r : Device). transfers_in r b) (lines-read (pins_told (counts_told (registers_told n d) d) d) d)
    ∙ transfers-read b (lines_told (pins_told (counts_told (registers_told n d) d) d) d) d (fifth d v).1
    ∙ all_told d f)
    ∙ blind d

-- a record that was read has the lengths of the struct
pub shaped : (l : Layout) (s : List ℕ) → Shaped (device_in l s)
unfolding device_in record_in relined transfers_in lines_in pins_in counts_in registers_in
shaped l s = record { vectors = refl; ports = refl; patterns = refl; transfers = refl; counters = refl; sources = refl }

-- ---- what was read is written back: each body of its length
module _ (l : Layout) (s : List ℕ) (h : Bytes s) (c : clear_in l s ≡ true) where
  abbrev body : ℕ → List ℕ
  body id = body_in l id s

  clear : (registers_clear (body 1) ≡ true) × (counts_clear (body 2) ≡ true) × (pins_clear (body 3) ≡ true) × (lines_clear (body 4) ≡ true)
      × (transfers_clear (body 5) ≡ true) × (states_agree (body 1) (body 5) ≡ true)
  unfolding clear_in unused_clear
  clear =
      sextet (registers_clear (body 1)) (counts_clear (body 2)) (pins_clear (body 3)) (lines_clear (body 4)) (transfers_clear (body 5))
      (states_agree (body 1) (body 5)) c

  bytes : (id : ℕ) → Bytes (body id)
  bytes id = bytes-part (offset_of l id) (size_of l id) s h

  -- the record after bodies 1 and 5, then 2, then 3: the others touch nothing of body 5
  abbrev told-1 : Device
  told-1 = transfers_in (registers_in l.version (body 1)) (body 5)

  abbrev told-2 : Device
  told-2 = counts_in told-1 (body 2)

  abbrev told-3 : Device
  told-3 = pins_in told-2 (body 3)

  abbrev told-4 : Device
  told-4 = lines_in told-3 (body 4)

  in_order : device_in l s ≡ relined told-4
  unfolding device_in record_in transfers_in lines_in pins_in counts_in
  in_order = refl

  -- whose lines, worked out, stand in none of them
  told : bodies_of (device_in l s) ≡ bodies_of told-4
  told = ap bodies_of in_order ∙ unwritten told-4

  kept-1 : length (body 1) ≡ 48 → registers_body (device_in l s) ≡ body 1
  kept-1 n =
      ap (λ (b : Bodies). b.registers) told ∙ lines-apart-1 told-3 (body 4) ∙ pins-apart-1 told-2 (body 3) ∙ counts-apart told-1 (body 2)
      ∙ registers-written l.version (body 1) (body 5) clear.0 clear.5 n (bytes 1)

  kept-2 : length (body 2) ≡ 9 → counts_body (device_in l s) ≡ body 2
  kept-2 n =
      ap (λ (b : Bodies). b.counts) told ∙ lines-apart-2 told-3 (body 4) ∙ pins-apart-2 told-2 (body 3)
      ∙ counts-written told-1 (body 2) n (bytes 2) clear.1

  kept-3 : length (body 3) ≡ 7 → pins_body (device_in l s) ≡ body 3
  kept-3 n = ap (λ (b : Bodies). b.pins) told ∙ lines-apart-3 told-3 (body 4) ∙ pins-written told-2 (body 3) n (bytes 3) clear.2

  kept-4 : length (body 4) ≡ 2 → lines_body (device_in l s) ≡ body 4
  kept-4 n = ap (λ (b : Bodies). b.lines) told ∙ lines-written told-3 (body 4) n (bytes 4) clear.3

  kept-5 : length (body 5) ≡ 8 → transfers_body (device_in l s) ≡ body 5
  unfolding device_in record_in
  kept-5 n = ap (λ (b : Bodies). b.transfers) (unwritten _) ∙ transfers-written _ (body 5) n (bytes 5) clear.4

  -- a body that stands in the image is whole
  whole : (id : ℕ) → offset_of l id + size_of l id ≤ length s → length (body id) ≡ size_of l id
  whole id fit = part_length (offset_of l id) (size_of l id) s fit

-- ---- all of them, in each layout
abbrev Kept : List ℕ → Layout → Type 0
Kept s l = clear_in l s ≡ true → length s ≡ length_of l → bodies_from (body_of (device_in l s)) l.entries ≡ parts_from (contents_len l) l.entries s

kept-old : (s : List ℕ) → Bytes s → Kept s layout1
kept-old s h c n =
    let at = whole layout1 s h c in
    simp (
      kept-1 layout1 s h c (at 1 (omega arith)),
      kept-2 layout1 s h c (at 2 (omega arith)),
      kept-3 layout1 s h c (at 3 (omega arith)),
      kept-4 layout1 s h c (at 4 (omega arith)),
    )

kept_new : (s : List ℕ) → Bytes s → Kept s layout2
kept_new s h c n =
    let at = whole layout2 s h c in
    simp (
      kept-1 layout2 s h c (at 1 (omega arith)),
      kept-2 layout2 s h c (at 2 (omega arith)),
      kept-3 layout2 s h c (at 3 (omega arith)),
      kept-4 layout2 s h c (at 4 (omega arith)),
      kept-5 layout2 s h c (at 5 (omega arith)),
    )

-- the record that is read has the version of the image, so it is written in that layout
layout-kept : (s : List ℕ) → layout_of (device_in (layout_in s) s) ≡ layout_in s
unfolding layout_of device_in record_in relined transfers_in lines_in pins_in counts_in registers_in
layout-kept s = of_image (λ l. layout_of (device_in l s) ≡ l) refl refl s

pub written_back : (s : List ℕ) → length s ≡ length_of (layout_in s) → Bytes s → clear_in (layout_in s) s ≡ true
    → take (contents_len (layout_in s)) s ≡ contents_of (layout_in s) → image_of (device_in (layout_in s) s) ≡ s
unfolding image_of
written_back s n h c t =
    let l = layout_in s in
    let d = device_in l s in
    ap (λ (k : Layout). contents_of k ++ bodies_from (body_of d) k.entries) (layout-kept s)
    ∙ ap₂ ◌++◌ (sym t) (of_image (Kept s) (kept-old s h) (kept_new s h) s c n)
    ∙ together (contents_len l) l.entries s
    ∙ take_all (length_of l) s (omega arith)
