-- Paper 02, W-212: "The desk needs this, in a sound row of one to eight: a device's record and answers depend on earlier devices only
-- through IEI and through whether one of them took the acknowledge, and on later devices not at all."
-- Assumes nothing.
use Prim.Native.Nat.{ℕ, zero, suc, ◌<◌}
use mathlib.Core.Path.{◌≡◌, refl, sym, ap, ◌∙◌}
use mathlib.Core.List.{List, [], ◌∷◌}
use native.Mathlib.Omega.{arith}
use lib.ListN.{length}
use Rattle.rules.specs.declared.Device.{Device}
use Rattle.rules.specs.declared.Effect.{Effect}
use Rattle.rules.specs.Events.{event_of}
use Rattle.basics.specs.Runs.{record_through, answers_through}
use Rattle.basics.specs.Byte.{num}
use Rattle.theorems.specs.Used.{of}
use Rattle.rows.specs.declared.RowEvent.{RowEvent}
use Rattle.rows.specs.Rows.{reaches, iei_from, shown_of, row_after}
use Rattle.rows.specs.Runs.{row_through}
use Rattle.row_laws.specs.Desk.{Board, device_at, RowShaped, own_effect, iei_after, own_of, own_answers, Alike, SameUpTo, AlikeThrough}
use Rattle.row_laws.proofs.Along.{places}
use Rattle.row_laws.proofs.After.{length-kept}
use Rattle.row_laws.proofs.Soundness.{joined_is, reached-good, row-shaped, board-kept, chain-kept}
use Rattle.row_laws.proofs.Itself.{after, own_by, by_itself, answer-itself, first-iei}
use Rattle.row_laws.proofs.Alike.{alike-reached, alike-own, first-reached}

-- ---- a device of a row is that device alone: its own event, if the event reaches it, and then E for its IEI
pub as-alone : (ds : List Device) (e : RowEvent) (i : ℕ) → RowShaped ds → Board ds → i < length ds
    → device_at (row_after ds e) i ≡ (event_of (own_effect ds e i).device (of 6 (num (iei_after ds e i)) 0 0)).device
as-alone ds e i x b h =
    by_itself ds e b i h
    ∙ joined_is (iei_after ds e i) (own_effect ds e i).device (reached-good (reaches ds e i) e.event (device_at ds i) (x i, (places ds b.sound).sound i)).1

-- ---- two sound rows of one to eight and one event: if device i is the same in both and its IEI is the same after the event, then its record
-- and its answer are the same
pub desk-iei : (ds es : List Device) (e : RowEvent) (i : ℕ) → Board ds → Board es → i < length ds → i < length es → device_at ds i ≡ device_at es i
    → iei_after ds e i ≡ iei_after es e i → (device_at (row_after ds e) i ≡ device_at (row_after es e) i) × (own_of ds e i ≡ own_of es e i)
desk-iei ds es e i b c h g same a =
    let r = alike-reached ds es e i b c h g same a in
    let o = alike-own ds es e i b c h g same r in
    let q = by_itself ds e b i h ∙ (λ j. iei_from (a j) (o j).device) ∙ sym (by_itself es e c i g) in (
      q,
      answer-itself ds e b i h ∙ (λ j. own_by (r j) (event_of (same j) e.event).answer (shown_of (after (q j) (o j).report)))
          ∙ sym (answer-itself es e c i g),
    )

-- in the words of the request: .. and an earlier device took the acknowledge in both or in neither. IEI after the event tells it already
-- (`Fall.took-falls`: it is 0), so the first suffices.
pub desk : (ds es : List Device) (e : RowEvent) (i : ℕ) → Board ds → Board es → i < length ds → i < length es → device_at ds i ≡ device_at es i
    → Alike i ds es e → (device_at (row_after ds e) i ≡ device_at (row_after es e) i) × (own_of ds e i ≡ own_of es e i)
desk ds es e i b c h g same a = desk-iei ds es e i b c h g same a.iei

-- and so for every list of events
pub desk-list : (ds es : List Device) (l : List RowEvent) (i : ℕ) → RowShaped ds → RowShaped es → Board ds → Board es → i < length ds → i < length es
    → device_at ds i ≡ device_at es i → AlikeThrough i ds es l
    → (device_at (row_through ds l) i ≡ device_at (row_through es l) i) × (own_answers i ds l ≡ own_answers i es l)
unfolding AlikeThrough record_through answers_through
desk-list ds es [] i x y b c h g same a = (same, refl)
desk-list ds es (e ∷ l) i x y b c h g same a =
    let now = desk ds es e i b c h g same a.0 in
    let rest =
    desk-list (row_after ds e) (row_after es e) l i (row-shaped ds e x) (row-shaped es e y) (board-kept ds e x b) (board-kept es e y c)
    (rw (length-kept ds e) h) (rw (length-kept es e) g) now.0 a.1 in
    (rest.0, λ j. now.1 j ∷ rest.1 j)

-- ---- "and on later devices not at all": of two rows that are the same up to device i
pub later-unseen : (ds es : List Device) (e : RowEvent) (i : ℕ) → Board ds → Board es → i < length ds → i < length es → SameUpTo i ds es
    → (device_at (row_after ds e) i ≡ device_at (row_after es e) i) × (own_of ds e i ≡ own_of es e i)
later-unseen ds es e zero b c h g same =
    let s = same 0 (omega arith) in
    let o = alike-own ds es e 0 b c h g s (first-reached ds es e h g s) in
    desk-iei ds es e 0 b c h g s (first-iei ds e b h ∙ ap (λ (r : Effect). r.device.iei) o ∙ sym (first-iei es e c g))
later-unseen ds es e (suc i) b c h g same =
    let p = (later-unseen ds es e i b c (omega arith) (omega arith) (λ j l. same j (omega arith))).0 in
    desk-iei ds es e (suc i) b c h g (same (suc i) (omega arith))
    (chain-kept ds e b.sound i (rw (length-kept ds e) h) ∙ ap (λ (d : Device). d.lines.ieo) p
    ∙ sym (chain-kept es e c.sound i (rw (length-kept es e) g)))

-- and so for every list of events
pub later-unseen-list : (ds es : List Device) (l : List RowEvent) (i : ℕ) → RowShaped ds → RowShaped es → Board ds → Board es
    → i < length ds → i < length es → SameUpTo i ds es
    → (device_at (row_through ds l) i ≡ device_at (row_through es l) i) × (own_answers i ds l ≡ own_answers i es l)
unfolding record_through answers_through
later-unseen-list ds es [] i x y b c h g same = (same i (omega arith), refl)
later-unseen-list ds es (e ∷ l) i x y b c h g same =
    let next : SameUpTo i (row_after ds e) (row_after es e) =
    λ j k. (later-unseen ds es e j b c (omega arith) (omega arith) (λ m n. same m (omega arith))).0 in
    let rest =
    later-unseen-list (row_after ds e) (row_after es e) l i (row-shaped ds e x) (row-shaped es e y) (board-kept ds e x b) (board-kept es e y c)
    (rw (length-kept ds e) h) (rw (length-kept es e) g) next in
    (rest.0, λ j. (later-unseen ds es e i b c h g same).1 j ∷ rest.1 j)
