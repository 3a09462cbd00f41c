-- What an event leaves of the devices before and after those that it reaches: the ones before all of them stay wholly as they are; and of K
-- "its IEO falls", so IEI of every later device falls in the same event.
-- Assumes nothing.
use Prim.Native.Nat.{ℕ, zero, suc, ◌≤◌, ◌<◌}
use mathlib.Core.Path.{◌≡◌, refl, sym, ap, ◌∙◌}
use mathlib.Core.Bool.{Bool, true, false, not, ◌&&◌, So, or-true, false≢true}
use mathlib.Core.List.{List}
use native.Mathlib.Omega.{arith}
use lib.Dec.{eqb, ltb, lit<}
use lib.ListN.{length, get_or-eq_default}
use lib.Seq.{get_or-set_same}
use borrow.Author.Tests.{eqb-true, eqb-false, eq-eqb, ne_eqb, ltb-true, ltb-false}
use Rattle.rules.specs.declared.Device.{Device}
use Rattle.rules.specs.declared.Source.{Source}
use Rattle.rules.specs.declared.Lines.{Lines}
use Rattle.rules.specs.declared.Event.{Event}
use Rattle.rules.specs.With.{with_ius, with_iei}
use Rattle.rules.specs.Record.{source_at, quiet}
use Rattle.rules.specs.Registers.{mie}
use Rattle.rules.specs.Interrupts.{first_of, first, served, pending, requests, requester, int_of, ieo_of, lines_of, relined, acknowledged}
use Rattle.rules.specs.Sound.{sound_of}
use Rattle.rules.specs.Events.{is_k, acknowledge_effect, effect_of, relit, outcome_of, event_of}
use Rattle.basics.proofs.Tests.{left, right, triple, not_so, never, by-test}
use Rattle.theorems.proofs.Stored.{sound-lines}
use Rattle.rows.specs.declared.RowEvent.{RowEvent}
use Rattle.rows.specs.Rows.{first_requesting, reached, reaches, row_code, iei_from, reached_by, row_after}
use Rattle.row_laws.specs.Desk.{Board, device_at, own_effect, iei_after, took_before}
use Rattle.row_laws.proofs.Along.{places}
use Rattle.row_laws.proofs.After.{length-kept}
use Rattle.row_laws.proofs.First.{takes-by, k-accepted}
use Rattle.row_laws.proofs.Refusals.{k-reached}
use Rattle.row_laws.proofs.Soundness.{chain-kept}
use Rattle.row_laws.proofs.Itself.{joined-own, first-iei, by_itself}
use Rattle.row_laws.proofs.Whom.{k-reaches, takes}

-- ---- K at a sound device that requests
-- the first of the five
found-by : (f : ℕ → Bool) → eqb (first f) 5 ≡ false → (first f < 5) × (f (first f) ≡ true)
unfolding first first_of
found-by f =
    let P : ℕ → Type 0 = λ n. eqb n 5 ≡ false → (n < 5) × (f n ≡ true) in
    by-test P (f 0) 0 _ (λ t _. (lit< tt, t))
    (λ _.
    by-test P (f 1) 1 _ (λ t _. (lit< tt, t))
    (λ _.
    by-test P (f 2) 2 _ (λ t _. (lit< tt, t))
    (λ _. by-test P (f 3) 3 _ (λ t _. (lit< tt, t)) (λ _. by-test P (f 4) 4 5 (λ t _. (lit< tt, t)) (λ _ q. never q refl)))))

-- its source is one of the device's
in-sources : (d : Device) (k : ℕ) (v : Bool) → ltb k (length d.sources) ≡ v → requests d k ≡ true → k < length d.sources
unfolding requests pending
in-sources d k true l r = ltb-true k (length d.sources) l
in-sources d k false l r =
    let q = get_or-eq_default d.sources quiet (ltb-false k (length d.sources) l) in
    let a = left (mie d && d.iei && ((source_at d k).ie && (source_at d k).ip)) (not (served d k)) r in
    let b = left (source_at d k).ie (source_at d k).ip (right (mie d && d.iei) ((source_at d k).ie && (source_at d k).ip) a) in
    absurd (false≢true (sym (ap (λ (s : Source). s.ie) q) ∙ b))

served-any : (d : Device) (k : ℕ) → k < 5 → (source_at d k).ius ≡ true → served d 4 ≡ true
unfolding served
served-any d zero h q = simp (q, or-true)
served-any d (suc zero) h q = simp (q, or-true)
served-any d (suc (suc zero)) h q = simp (q, or-true)
served-any d (suc (suc (suc zero))) h q = simp (q, or-true)
served-any d (suc (suc (suc (suc zero)))) h q = simp q
served-any d (suc (suc (suc (suc (suc k))))) h q = absurd (omega arith)

acknowledged-served : (d : Device) → eqb (requester d) 5 ≡ false → served (acknowledged d) 4 ≡ true
unfolding acknowledged requester
acknowledged-served d q =
    let k = requester d in
    let p = found-by (requests d) q in
    let l = in-sources d k _ refl p.1 in
    served-any (acknowledged d) k p.0 (ap (λ (s : Source). s.ius) (get_or-set_same d.sources k (with_ius (source_at d k) true) quiet l))

-- the record of the device that takes it
k-record : (d : Device) (e : Event) → is_k e ≡ true → sound_of d ≡ true → d.lines.int ≡ true → (event_of d e).device ≡ relined (acknowledged d)
unfolding event_of effect_of acknowledge_effect relit outcome_of
k-record d e k s q = simp (k-accepted d e k s q, eqb-true e.kind 5 k)

requesting : (d : Device) → sound_of d ≡ true → d.lines.int ≡ true → eqb (requester d) 5 ≡ false
unfolding lines_of int_of
requesting d s q = not_so (eqb (requester d) 5) (sym (ap (λ (l : Lines). l.int) (sound-lines d s)) ∙ q)

-- with an IUS anywhere, or IEI 0, IEO is 0
served-blind : (d : Device) (v : Bool) → served (with_iei d v) 4 ≡ served d 4
unfolding served
served-blind d v = refl

one-low : (a b c : Bool) → b ≡ true → (a && not b && c) ≡ false
one-low true true c q = refl
one-low true false c q = absurd (false≢true q)
one-low false b c q = refl

served-low : (high : Bool) (d : Device) → served d 4 ≡ true → (iei_from high d).lines.ieo ≡ false
unfolding iei_from relined lines_of ieo_of
served-low high d q = one-low high (served (with_iei d high) 4) _ (served-blind d high ∙ q)

iei-low : (high : Bool) (d : Device) → high ≡ false → (iei_from high d).lines.ieo ≡ false
unfolding iei_from relined lines_of ieo_of
iei-low true d q = absurd (false≢true (sym q))
iei-low false d q = refl

relined-served : (d : Device) → served (relined d) 4 ≡ served d 4
unfolding relined served
relined-served d = refl

k-served : (d : Device) (e : Event) → is_k e ≡ true → sound_of d ≡ true → d.lines.int ≡ true → served (event_of d e).device 4 ≡ true
k-served d e k s q =
    ap (λ (x : Device). served x 4) (k-record d e k s q) ∙ relined-served (acknowledged d) ∙ acknowledged-served d (requesting d s q)

module _ (ds : List Device) (e : RowEvent) (b : Board ds) where
  -- ---- before all that the event reaches
  front : (i : ℕ) → i < length ds → reaches ds e i ≡ false → iei_after ds e i ≡ (device_at ds i).iei → device_at (row_after ds e) i ≡ device_at ds i
  unfolding reached_by
  front i h r q =
      by_itself ds e b i h ∙ (λ j. iei_from (q j) (reached_by (r j) e.event (device_at ds i)).device)
      ∙ joined-own (device_at ds i) (sound-lines (device_at ds i) ((places ds b.sound).sound i))

  pub earlier-kept : (i : ℕ) → i < length ds → ((j : ℕ) → j ≤ i → reaches ds e j ≡ false) → device_at (row_after ds e) i ≡ device_at ds i
  unfolding reached_by
  earlier-kept zero h none =
      front 0 h (none 0 (omega arith)) (first-iei ds e b h ∙ ap (λ (v : Bool). (reached_by v e.event (device_at ds 0)).device.iei) (none 0 (omega arith)))
  earlier-kept (suc i) h none =
      let p = earlier-kept i (omega arith) (λ j l. none j (omega arith)) in
      front (suc i) h (none (suc i) (omega arith))
      (chain-kept ds e b.sound i (rw (length-kept ds e) h) ∙ ap (λ (d : Device). d.lines.ieo) p ∙ sym ((places ds b.sound).iei i h))

  -- ---- after the device that takes the acknowledge
  module _ (k : is_k e.event ≡ true) (i : ℕ) (h : i < length ds) (t : So (reaches ds e i)) where
    int-1 : (device_at ds i).lines.int ≡ true
    int-1 = ((takes ds e i b h k).0 t).0

    -- its IEO is 0
    pub taker-ieo : (device_at (row_after ds e) i).lines.ieo ≡ false
    unfolding reached_by
    taker-ieo =
        ap (λ (d : Device). d.lines.ieo) (by_itself ds e b i h ∙ (λ j. iei_from (iei_after ds e i) (reached_by (t j) e.event (device_at ds i)).device))
        ∙ served-low (iei_after ds e i) (event_of (device_at ds i) e.event).device
        (k-served (device_at ds i) e.event k ((places ds b.sound).sound i) int-1)

    -- and so is IEI of every later device
    by_near : (j : ℕ) (v : Bool) → eqb i j ≡ v → suc j < length ds → i < suc j → (i < j → iei_after ds e j ≡ false) → iei_after ds e (suc j) ≡ false
    by_near j true q l m f =
        chain-kept ds e b.sound j (rw (length-kept ds e) l) ∙ ap (λ (n : ℕ). (device_at (row_after ds e) n).lines.ieo) (sym (eqb-true i j q)) ∙ taker-ieo
    by_near j false q l m f =
        let n = eqb-false i j q in
        chain-kept ds e b.sound j (rw (length-kept ds e) l) ∙ ap (λ (d : Device). d.lines.ieo) (by_itself ds e b j (omega arith))
        ∙ iei-low (iei_after ds e j) (own_effect ds e j).device (f (omega arith))

    pub later-fall : (j : ℕ) → i < j → j < length ds → iei_after ds e j ≡ false
    later-fall zero m l = absurd (omega arith)
    later-fall (suc j) m l = by_near j _ refl l m (λ n. later-fall j n (omega arith))

-- ---- IEI of the device that takes it stays 1
int-iei : (d : Device) → sound_of d ≡ true → d.lines.int ≡ true → d.iei ≡ true
unfolding requests requester
int-iei d s q =
    let k = requester d in
    let r = (found-by (requests d) (requesting d s q)).1 in
    right (mie d) d.iei (left (mie d && d.iei) (pending d k) (left (mie d && d.iei && pending d k) (not (served d k)) r))

k-iei : (d : Device) (e : Event) → is_k e ≡ true → sound_of d ≡ true → d.lines.int ≡ true → (event_of d e).device.iei ≡ d.iei
unfolding relined acknowledged
k-iei d e k s q = ap (λ (x : Device). x.iei) (k-record d e k s q)

stays : (ds : List Device) (e : RowEvent) (b : Board ds) (i : ℕ) → i < length ds → is_k e.event ≡ true → So (reaches ds e i) → iei_after ds e i ≡ (device_at ds i).iei
unfolding reached_by
stays ds e b zero h k t =
    first-iei ds e b h ∙ ap (λ (v : Bool). (reached_by v e.event (device_at ds 0)).device.iei) t
    ∙ k-iei (device_at ds 0) e.event k ((places ds b.sound).sound 0) (int-1 ds e b k 0 h t)
stays ds e b (suc i) h k t =
    let p = eqb-true (suc i) (first_requesting ds) (sym (k-reaches ds e (suc i) k) ∙ t) in
    let none : (j : ℕ) → j ≤ i → reaches ds e j ≡ false = λ j l. k-reaches ds e j k ∙ ne_eqb j (first_requesting ds) (λ q. omega arith) in
    chain-kept ds e b.sound i (rw (length-kept ds e) h) ∙ ap (λ (d : Device). d.lines.ieo) (earlier-kept ds e b i (omega arith) none)
    ∙ sym ((places ds b.sound).iei i h)

module _ (ds : List Device) (e : RowEvent) (b : Board ds) (i : ℕ) (h : i < length ds) (k : is_k e.event ≡ true) where
  pub taker-iei : So (reaches ds e i) → iei_after ds e i ≡ true
  taker-iei t = stays ds e b i h k t ∙ int-iei (device_at ds i) ((places ds b.sound).sound i) (int-1 ds e b k i h t)

  -- where a device requests and does not take it, an earlier one did, and IEI is 0
  passed-by : (v : Bool) → ltb (first_requesting ds) i ≡ v → (device_at ds i).lines.int ≡ true → reaches ds e i ≡ false → iei_after ds e i ≡ false
  passed-by true l q r =
      let f = first_requesting ds in
      let m = ltb-true f i l in
      later-fall ds e b k f (omega arith) (k-reaches ds e f k ∙ eq-eqb f f refl) i m h
  passed-by false l q r = absurd (false≢true (sym r ∙ k-reaches ds e i k ∙ takes-by ds i h ∙ (simp (q, l))))

  pub passed_over : (device_at ds i).lines.int ≡ true → reaches ds e i ≡ false → iei_after ds e i ≡ false
  passed_over q r = passed-by _ refl q r

-- ---- where an earlier device took the acknowledge, IEI is 0 after it
pub took-falls : (ds : List Device) (e : RowEvent) (i : ℕ) → Board ds → i < length ds → took_before ds e i ≡ true → iei_after ds e i ≡ false
unfolding took_before
took-falls ds e i b h q =
    let t = triple (is_k e.event) (ltb (reached ds e) i) (eqb (row_code ds e) 0) q in
    let f = first_requesting ds in
    let k = t.0 in
    let l = ltb-true f i (sym (ap (λ (n : ℕ). ltb n i) (k-reached ds e k)) ∙ t.1) in
    later-fall ds e b k f (omega arith) (k-reaches ds e f k ∙ eq-eqb f f refl) i l h
