-- Paper 02, W-212, whom an event reaches: "E reaches only the first. T goes to all. W, R, P and X name a device. K goes to the first device
-- that requests."
-- Assumes nothing.
use Prim.Native.Nat.{ℕ, ◌<◌}
use mathlib.Core.Path.{◌≡◌, refl, sym, ◌∙◌}
use mathlib.Core.Bool.{Bool, true, false, not, So}
use mathlib.Core.List.{List}
use mathlib.Core.Logic.{◌↔◌}
use native.Mathlib.Omega.{arith}
use lib.Dec.{eqb, ltb}
use lib.ListN.{length}
use borrow.Author.Tests.{eqb-true, le-ltb}
use Rattle.rules.specs.declared.Device.{Device}
use Rattle.rules.specs.Events.{is_t, is_k, is_e}
use Rattle.basics.proofs.Tests.{left, so-both, so-not, never}
use Rattle.rows.specs.declared.RowEvent.{RowEvent}
use Rattle.rows.specs.Rows.{names, first_requesting, reached, reaches, row_code}
use Rattle.row_laws.specs.Desk.{Board, device_at}
use Rattle.row_laws.proofs.Along.{places}
use Rattle.row_laws.proofs.First.{first-le, takes-by, earlier-int, no-earlier, k-accepted}
use Rattle.row_laws.proofs.Refusals.{k-reached}
use Rattle.row_laws.proofs.Itself.{code-reached}

module _ (ds : List Device) (e : RowEvent) (i : ℕ) where
  -- "E reaches only the first."
  pub e-first : is_e e.event ≡ true → reaches ds e i ≡ eqb i 0
  unfolding reaches reached names
  e-first q = simp (eqb-true e.event.kind 6 q)

  -- "T goes to all."
  pub t-all : is_t e.event ≡ true → reaches ds e i ≡ true
  unfolding reaches
  t-all q = simp q

  -- "W, R, P and X name a device."
  named_by : (v : Bool) → is_t e.event ≡ v → names e.event ≡ true → reaches ds e i ≡ eqb i e.device
  unfolding reaches reached names
  named_by true t n = let f : names e.event ≡ false = simp (eqb-true e.event.kind 4 t) in never f n
  named_by false t n = simp (t, n)

  pub named : names e.event ≡ true → reaches ds e i ≡ eqb i e.device
  named n = named_by _ refl n

-- ---- "K goes to the first device that requests."
pub k-reaches : (ds : List Device) (e : RowEvent) (i : ℕ) → is_k e.event ≡ true → reaches ds e i ≡ eqb i (first_requesting ds)
unfolding reaches
k-reaches ds e i k = simp (k-reached ds e k, eqb-true e.event.kind 5 k)

module _ (ds : List Device) (e : RowEvent) (i : ℕ) (b : Board ds) (h : i < length ds) (k : is_k e.event ≡ true) where
  -- device i takes it exactly if its INT is 1 and that of no earlier one
  pub takes : So (reaches ds e i) ↔ (((device_at ds i).lines.int ≡ true) × ((j : ℕ) → j < i → (device_at ds j).lines.int ≡ false))
  takes =
      let f = first_requesting ds in
      let int = (device_at ds i).lines.int in
      let t = k-reaches ds e i k ∙ takes-by ds i h in (
        λ r.
            let q = eqb-true i f (sym (k-reaches ds e i k) ∙ r) in (
              left int (not (ltb f i)) (sym t ∙ r),
              λ j l. earlier-int ds j (omega arith) (omega arith),
            ),
        λ p. t ∙ so-both p.0 (so-not (le-ltb f i (no-earlier ds i (omega arith) p.1))),
      )

  -- and then K is accepted
  pub taken : So (reaches ds e i) → row_code ds e ≡ 0
  taken r = code-reached ds e b i h r ∙ k-accepted (device_at ds i) e.event k ((places ds b.sound).sound i) (takes.0 r).0

-- none takes it exactly if no INT is 1
pub idle : (ds : List Device) (e : RowEvent) → is_k e.event ≡ true
    → (reached ds e ≡ length ds) ↔ ((j : ℕ) → j < length ds → (device_at ds j).lines.int ≡ false)
idle ds e k =
    let r = k-reached ds e k in (
      λ q j l. earlier-int ds j l (omega (arith, r)),
      λ none. let l = no-earlier ds (length ds) (omega arith) none in omega (arith, r, first-le ds),
    )
