-- Whom an event reaches in two rows: where device i is the same and its IEI is the same after the event, the event reaches it in both or in
-- neither. Of K, IEI tells: it stays 1 at the device that takes it, and is 0 after it.
-- Assumes nothing.
use Prim.Native.Nat.{ℕ, ◌<◌}
use mathlib.Core.Path.{◌≡◌, refl, sym, ◌∙◌}
use mathlib.Core.Bool.{Bool, true, false, not, ◌&&◌, ◌||◌, false≢true}
use mathlib.Core.List.{List}
use native.Mathlib.Omega.{arith}
use lib.Dec.{eqb, ltb}
use lib.ListN.{length}
use borrow.Author.Tests.{le-ltb}
use Rattle.rules.specs.declared.Device.{Device}
use Rattle.rules.specs.Events.{is_t, is_k}
use Rattle.rows.specs.declared.RowEvent.{RowEvent}
use Rattle.rows.specs.Rows.{names, first_requesting, reached, reaches, reached_by}
use Rattle.row_laws.specs.Desk.{Board, device_at, own_effect, iei_after}
use Rattle.row_laws.proofs.First.{takes-by}
use Rattle.row_laws.proofs.Whom.{k-reaches, takes}
use Rattle.row_laws.proofs.Fall.{taker-iei, passed_over}

-- by the kind, if K reaches it in both or in neither
by_kind : (ds es : List Device) (e : RowEvent) (i : ℕ) (n k : Bool) → names e.event ≡ n → is_k e.event ≡ k
    → (is_k e.event ≡ true → eqb i (first_requesting ds) ≡ eqb i (first_requesting es)) → eqb i (reached ds e) ≡ eqb i (reached es e)
unfolding reached
by_kind ds es e i true k p q f = simp p
by_kind ds es e i false true p q f = simp (p, q) (f q)
by_kind ds es e i false false p q f = simp (p, q)

module _ (ds es : List Device) (e : RowEvent) (i : ℕ) (b : Board ds) (c : Board es) (h : i < length ds) (g : i < length es)
    (same : device_at ds i ≡ device_at es i) where
  k-by : (v w : Bool) → reaches ds e i ≡ v → reaches es e i ≡ w → is_k e.event ≡ true → iei_after ds e i ≡ iei_after es e i → v ≡ w
  k-by true true p q k a = refl
  k-by true false p q k a =
      let int = ((takes ds e i b h k).0 p).0 in
      absurd (false≢true (sym (passed_over es e c i g k (rw (sym same) int) q) ∙ sym a ∙ taker-iei ds e b i h k p))
  k-by false true p q k a =
      let int = ((takes es e i c g k).0 q).0 in
      absurd (false≢true (sym (passed_over ds e b i h k (rw same int) p) ∙ a ∙ taker-iei es e c i g k q))
  k-by false false p q k a = refl

  pub alike-reached : iei_after ds e i ≡ iei_after es e i → eqb i (reached ds e) ≡ eqb i (reached es e)
  alike-reached a = by_kind ds es e i _ _ refl refl (λ k. sym (k-reaches ds e i k) ∙ k-by _ _ refl refl k a ∙ k-reaches es e i k)

  -- so it does the same to it
  pub alike-own : eqb i (reached ds e) ≡ eqb i (reached es e) → own_effect ds e i ≡ own_effect es e i
  unfolding reaches
  alike-own r = λ j. reached_by (is_t e.event || r j) e.event (same j)

-- the first device is reached in both or in neither
pub first-reached : (ds es : List Device) (e : RowEvent) → 0 < length ds → 0 < length es → device_at ds 0 ≡ device_at es 0
    → eqb 0 (reached ds e) ≡ eqb 0 (reached es e)
first-reached ds es e h g same =
    let low : (n : ℕ) → ltb n 0 ≡ false = λ n. le-ltb n 0 (omega arith) in
    by_kind ds es e 0 _ _ refl refl
    (λ k. takes-by ds 0 h ∙ (λ j. (same j).lines.int && not ((low (first_requesting ds) ∙ sym (low (first_requesting es))) j)) ∙ sym (takes-by es 0 g))
