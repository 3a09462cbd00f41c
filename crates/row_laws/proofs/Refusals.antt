-- Paper 02, W-212: what a refusal leaves of a row, and when each code is given: "any event on another row gets 9 and changes nothing";
-- "Refusals: 13 for an empty row, more than eight, or a device number past the end, first after 9."
-- Assumes nothing.
use Prim.Native.Nat.{ℕ, ◌≤◌, ◌<◌}
use mathlib.Core.Path.{◌≡◌, refl, sym, ◌∙◌}
use mathlib.Core.Bool.{Bool, true, false, not, ◌&&◌, ◌||◌, cond, So, false≢true, or-true}
use mathlib.Core.List.{List, [], map}
use mathlib.Core.Logic.{◌↔◌}
use native.Mathlib.Omega.{arith}
use lib.Dec.{eqb, ltb}
use lib.ListN.{length}
use borrow.Author.Tests.{eqb-true, eqb-false, ne_eqb, lt-ltb, le-ltb}
use Rattle.rules.specs.declared.Device.{Device}
use Rattle.rules.specs.declared.Event.{Event}
use Rattle.rules.specs.Registers.{read_only, later}
use Rattle.rules.specs.Interrupts.{requester}
use Rattle.rules.specs.Sound.{sound_of}
use Rattle.rules.specs.Events.{is_w, is_k, unknown, no_register, too_large, held, no_byte, no_room, code_of, effect}
use Rattle.basics.proofs.Tests.{left, right, not_so, never, by-test}
use Rattle.theorems.proofs.Refusals.{code-9 as device-9, code-6 as device-6}
use Rattle.rows.specs.declared.RowEvent.{RowEvent}
use Rattle.rows.specs.declared.RowAnswer.{RowAnswer}
use Rattle.rows.specs.Rows.{each_sound, chained, row_sound, names, first_requesting, reached, misfits, past_end, row_code}
use Rattle.rows.specs.Rows.{eight_of, shown_of, dark_answer, row_answer, row_after}
use Rattle.row_laws.specs.Desk.{device_at}
use Rattle.row_laws.proofs.Along.{places}
use Rattle.row_laws.proofs.After.{refused}
use Rattle.row_laws.proofs.First.{first-le, first-int, k-accepted}

-- ---- the code by its tests, in their order
abbrev chain : Bool → Bool → Bool → ℕ → ℕ
chain s m k c = cond (not s) 9 (cond m 13 (cond k 6 c))

at_9 : (s m k : Bool) (c : ℕ) → (So s → c ≡ 9 → ⊥) → (chain s m k c ≡ 9) ↔ So (not s)
at_9 false m k c h = (λ _. refl, λ _. refl)
at_9 true true k c h = (λ q. absurd (omega arith), λ q. absurd (false≢true q))
at_9 true false true c h = (λ q. absurd (omega arith), λ q. absurd (false≢true q))
at_9 true false false c h = (λ q. absurd (h refl q), λ q. absurd (false≢true q))

at-13 : (s m k : Bool) (c : ℕ) → (c ≡ 13 → ⊥) → (chain s m k c ≡ 13) ↔ So (s && m)
at-13 false m k c h = (λ q. absurd (omega arith), λ q. absurd (false≢true q))
at-13 true true k c h = (λ _. refl, λ _. refl)
at-13 true false true c h = (λ q. absurd (omega arith), λ q. absurd (false≢true q))
at-13 true false false c h = (λ q. absurd (h q), λ q. absurd (false≢true q))

at-6 : (s m k : Bool) (c : ℕ) → (So s → So (not m) → So (not k) → c ≡ 6 → ⊥) → (chain s m k c ≡ 6) ↔ So (s && not m && k)
at-6 false m k c h = (λ q. absurd (omega arith), λ q. absurd (false≢true q))
at-6 true true k c h = (λ q. absurd (omega arith), λ q. absurd (false≢true q))
at-6 true false true c h = (λ _. refl, λ _. refl)
at-6 true false false c h = (λ q. absurd (h refl refl refl q), λ q. absurd (false≢true q))

at_other : (s m k : Bool) (c n : ℕ) → (n ≡ 9 → ⊥) → (n ≡ 13 → ⊥) → (n ≡ 6 → ⊥) → (chain s m k c ≡ n) ↔ (So (s && not m && not k) × (c ≡ n))
at_other false m k c n a b d = (λ q. absurd (a (sym q)), λ q. absurd (false≢true q.0))
at_other true true k c n a b d = (λ q. absurd (b (sym q)), λ q. absurd (false≢true q.0))
at_other true false true c n a b d = (λ q. absurd (d (sym q)), λ q. absurd (false≢true q.0))
at_other true false false c n a b d = (λ q. (refl, q), λ q. q.1)

-- no device gives 13
no-13 : (d : Device) (e : Event) → code_of d e ≡ 13 → ⊥
unfolding code_of
no-13 d e =
    let P : ℕ → Type 0 = λ n. n ≡ 13 → ⊥ in
    by-test P (not (sound_of d)) 9 _ (λ _ q. omega arith)
    (λ _.
    by-test P (unknown e) 1 _ (λ _ q. omega arith)
    (λ _.
    by-test P (no_register e) 2 _ (λ _ q. omega arith)
    (λ _.
    by-test P (too_large e) 5 _ (λ _ q. omega arith)
    (λ _.
    by-test P (held d e) 0 _ (λ _ q. omega arith)
    (λ _.
    by-test P (is_w e && read_only e.a) 3 _ (λ _ q. omega arith)
    (λ _.
    by-test P (no_byte d e) 11 _ (λ _ q. omega arith)
    (λ _.
    by-test P (no_room d e) 10 _ (λ _ q. omega arith)
    (λ _.
    by-test P (is_w e && later d e.a e.b) 4 _ (λ _ q. omega arith)
    (λ _. by-test P (is_k e && eqb (requester d) 5) 6 0 (λ _ q. omega arith) (λ _ q. omega arith))))))))))

-- K names no device
pub k-names : (e : Event) → is_k e ≡ true → names e ≡ false
unfolding names
k-names e k = simp (eqb-true e.kind 5 k)

pub k-reached : (ds : List Device) (e : RowEvent) → is_k e.event ≡ true → reached ds e ≡ first_requesting ds
unfolding reached
k-reached ds e k = simp (k-names e.event k, k)

by_le : (a b : ℕ) → a ≤ b → (a ≡ b → ⊥) → a < b
by_le a b h n = omega arith

module _ (ds : List Device) (e : RowEvent) where
  -- the two tests after 9, and the device that the event reaches
  abbrev misfit : Bool
  misfit = misfits ds || past_end ds e

  abbrev idle : Bool
  idle = is_k e.event && eqb (reached ds e) (length ds)

  abbrev pub the_one : Device
  the_one = device_at ds (reached ds e)

  -- ---- the answer's code is the one of the order of the refusals
  pub code_is : (row_answer ds e).code ≡ row_code ds e
  unfolding row_answer
  code_is =
      by-test (λ (r : RowAnswer). r.code ≡ row_code ds e) (eqb (row_code ds e) 9 || ltb 8 (length ds)) _ _ (λ _. refl)
      (λ _. by-test (λ (r : RowAnswer). r.code ≡ row_code ds e) (eqb (row_code ds e) 0) _ _ (λ z. sym (eqb-true (row_code ds e) 0 z)) (λ _. refl))

  -- ---- "any event on another row gets 9 and changes nothing"
  pub unsound : row_sound ds ≡ false → (row_answer ds e ≡ dark_answer 9) × (row_after ds e ≡ ds)
  unfolding row_answer row_after row_code
  unsound s = (simp s, simp s)

  -- a refused event changes nothing
  pub refused-keeps : ((row_answer ds e).code ≡ 0 → ⊥) → row_after ds e ≡ ds
  refused-keeps n = refused ds e (λ z. n (code_is ∙ z))

  -- under 9, and under 13 for more than eight, all but the code is 0; under another refusal value and counts are 0 and the lines stand
  pub refused-answer : (row_code ds e ≡ 0 → ⊥) → (row_code ds e ≡ 9 → ⊥) → length ds ≤ 8
      → row_answer ds e ≡ record { code = row_code ds e; value = 0; devices = eight_of (map (λ d. shown_of (effect d 0)) ds) }
  unfolding row_answer
  refused-answer n m h = simp (ne_eqb (row_code ds e) 9 m, le-ltb 8 (length ds) h, ne_eqb (row_code ds e) 0 n)

  pub crowded-answer : 8 < length ds → row_answer ds e ≡ dark_answer (row_code ds e)
  unfolding row_answer
  crowded-answer h = simp (lt-ltb 8 (length ds) h, or-true)

  -- ---- each code is given exactly when: 9, 13, 6 where no device requests (`Whom.idle`), else the code of the device that the event reaches
  pub code-9 : (row_code ds e ≡ 9) ↔ So (not (row_sound ds))
  unfolding row_code
  code-9 =
      at_9 (row_sound ds) misfit idle (code_of the_one e.event)
      (λ s q. never (not_so (sound_of the_one) ((device-9 the_one e.event).0 q)) ((places ds s).sound (reached ds e)))

  pub code-13 : (row_code ds e ≡ 13) ↔ So (row_sound ds && (misfits ds || past_end ds e))
  unfolding row_code
  code-13 = at-13 (row_sound ds) misfit idle (code_of the_one e.event) (no-13 the_one e.event)

  -- where one requests, it is the first, and its code is not 6
  some : is_k e.event ≡ true → So (not idle) → reached ds e < length ds
  some k h =
      let n = eqb-false (reached ds e) (length ds) (not_so (eqb (reached ds e) (length ds)) (rw k at h)) in
      let r = k-reached ds e k in
      by_le (reached ds e) (length ds) (rw r (first-le ds)) n

  pub code-6 : (row_code ds e ≡ 6) ↔ So (row_sound ds && not (misfits ds || past_end ds e) && (is_k e.event && eqb (reached ds e) (length ds)))
  unfolding row_code
  code-6 =
      at-6 (row_sound ds) misfit idle (code_of the_one e.event)
      (λ s m k q.
      let t = (device-6 the_one e.event).0 q in
      let a = right (sound_of the_one) (is_k e.event) (left (sound_of the_one && is_k e.event) (eqb (requester the_one) 5) t) in
      let r = k-reached ds e a in
      let z = k-accepted the_one e.event a ((places ds s).sound (reached ds e)) (rw r (first-int ds (rw r at (some a k)))) in
      omega arith)

  pub code_other : (n : ℕ) → (n ≡ 9 → ⊥) → (n ≡ 13 → ⊥) → (n ≡ 6 → ⊥)
      → (row_code ds e ≡ n)
      ↔ (So (row_sound ds && not (misfits ds || past_end ds e) && not (is_k e.event && eqb (reached ds e) (length ds))) × (code_of the_one e.event ≡ n))
  unfolding row_code
  code_other n a b c = at_other (row_sound ds) misfit idle (code_of the_one e.event) n a b c

-- "13 for an empty row": it is sound, and any event gets 13
pub empty : (e : RowEvent) → row_code [] e ≡ 13
unfolding row_code row_sound each_sound chained misfits
empty e = refl
