-- Paper 02, W-212: "the first device that requests", and K at it.
-- Assumes nothing.
use Prim.Native.Nat.{ℕ, zero, suc, ◌≤◌, ◌<◌}
use mathlib.Core.Path.{◌≡◌, refl, sym, ap, ◌∙◌}
use mathlib.Core.Bool.{Bool, true, false, not, ◌&&◌, cond, and-false, and-true, true≢false}
use mathlib.Core.List.{List, [], ◌∷◌}
use native.Mathlib.Omega.{arith}
use lib.Dec.{eqb, ltb, leb-suc-suc, eqb-suc-suc, eqb-zero-suc, eqb-suc-zero}
use lib.ListN.{length}
use borrow.Author.Tests.{eqb-true, eq-eqb, ne_eqb, lt-ltb, le-ltb, ltb-true, ltb-false}
use Rattle.rules.specs.declared.Device.{Device}
use Rattle.rules.specs.declared.Event.{Event}
use Rattle.rules.specs.declared.Lines.{Lines}
use Rattle.rules.specs.Interrupts.{requester, int_of, lines_of}
use Rattle.rules.specs.Sound.{sound_of}
use Rattle.rules.specs.Events.{is_k, unknown, no_register, too_large, held, no_byte, no_room, code_of}
use Rattle.basics.proofs.Tests.{left}
use Rattle.theorems.specs.Used.{of}
use Rattle.theorems.proofs.Stored.{sound-lines}
use Rattle.rows.specs.Rows.{first_requesting}
use Rattle.row_laws.specs.Desk.{device_at}

-- ---- the first that requests
cond-le : (v : Bool) (f n : ℕ) → f ≤ n → cond v 0 (suc f) ≤ suc n
cond-le true f n h = omega arith
cond-le false f n h = omega arith

pub first-le : (ds : List Device) → first_requesting ds ≤ length ds
unfolding first_requesting
first-le [] = omega arith
first-le (d ∷ ds) = cond-le d.lines.int (first_requesting ds) (length ds) (first-le ds)

-- it is device i exactly if INT of device i is 1 and the first is not before it
here : (v : Bool) (f : ℕ) → eqb 0 (cond v 0 (suc f)) ≡ (v && not (ltb (cond v 0 (suc f)) 0))
here true f = refl
here false f = eqb-zero-suc f

there : (v w : Bool) (i f : ℕ) → eqb i f ≡ (w && not (ltb f i)) → eqb (suc i) (cond v 0 (suc f)) ≡ (w && not (ltb (cond v 0 (suc f)) (suc i)))
there true w i f q = eqb-suc-zero i ∙ sym (ap (λ (b : Bool). w && not b) (lt-ltb 0 (suc i) (omega arith)) ∙ and-false w)
there false w i f q = eqb-suc-suc i f ∙ q ∙ ap (λ (b : Bool). w && not b) (sym (leb-suc-suc (suc f) i))

pub takes-by : (ds : List Device) (i : ℕ) → i < length ds
    → eqb i (first_requesting ds) ≡ ((device_at ds i).lines.int && not (ltb (first_requesting ds) i))
unfolding first_requesting
takes-by [] i h = absurd (omega arith)
takes-by (d ∷ ds) zero h = here d.lines.int (first_requesting ds)
takes-by (d ∷ ds) (suc i) h = there d.lines.int (device_at ds i).lines.int i (first_requesting ds) (takes-by ds i (omega arith))

-- so its INT is 1
pub first-int : (ds : List Device) → first_requesting ds < length ds → (device_at ds (first_requesting ds)).lines.int ≡ true
first-int ds h = let f = first_requesting ds in left (device_at ds f).lines.int (not (ltb f f)) (sym (takes-by ds f h) ∙ eq-eqb f f refl)

-- and of every earlier device 0
pub earlier-int : (ds : List Device) (j : ℕ) → j < length ds → j < first_requesting ds → (device_at ds j).lines.int ≡ false
earlier-int ds j l h =
    let f = first_requesting ds in
    sym (ap (λ (b : Bool). (device_at ds j).lines.int && not b) (le-ltb f j (omega arith)) ∙ and-true (device_at ds j).lines.int)
    ∙ sym (takes-by ds j l) ∙ ne_eqb j f (λ q. omega arith)

-- the first is not before i exactly if no device before i has INT 1
by-lt : (v : Bool) (f i : ℕ) → ltb f i ≡ v → (f < i → ⊥) → i ≤ f
by-lt true f i q k = absurd (k (ltb-true f i q))
by-lt false f i q k = ltb-false f i q

pub no-earlier : (ds : List Device) (i : ℕ) → i ≤ length ds → ((j : ℕ) → j < i → (device_at ds j).lines.int ≡ false) → i ≤ first_requesting ds
no-earlier ds i h none =
    by-lt _ (first_requesting ds) i refl (λ l. true≢false (sym (first-int ds (omega arith)) ∙ none (first_requesting ds) l))

-- ---- K at a sound device: refused with 6 exactly if it does not request
k-code : (d : Device) (a b c : ℕ) → sound_of d ≡ true → code_of d (of 5 a b c) ≡ cond (eqb (requester d) 5) 6 0
unfolding code_of unknown no_register too_large held no_byte no_room
k-code d a b c s = simp (s, and-false)

of-requester : (v : Bool) → not v ≡ true → ◌≡◌ {A = ℕ} (cond v 6 0) 0
of-requester true h = absurd (true≢false (sym h))
of-requester false h = refl

pub k-accepted : (d : Device) (e : Event) → is_k e ≡ true → sound_of d ≡ true → d.lines.int ≡ true → code_of d e ≡ 0
unfolding lines_of int_of
k-accepted d e k s q =
    ap (λ (n : ℕ). code_of d (of n e.a e.b e.c)) (eqb-true e.kind 5 k) ∙ k-code d e.a e.b e.c s
    ∙ of-requester (eqb (requester d) 5) (sym (ap (λ (l : Lines). l.int) (sound-lines d s)) ∙ q)
