-- The answer's code, what a refusal leaves, and when each code is given: paper 01, "Events and their answers".
-- Assumes nothing.
use Prim.Native.Nat.{ℕ, ◌-◌}
use mathlib.Core.Path.{◌≡◌, refl, sym, ◌∙◌}
use mathlib.Core.Bool.{Bool, true, false, not, ◌&&◌, ◌||◌, cond, So, or-true}
use mathlib.Core.List.{[], ◌∷◌}
use mathlib.Core.Logic.{◌↔◌}
use native.Mathlib.Omega.{arith}
use lib.Dec.{eqb}
use borrow.Author.Tests.{eqb-true, eqb-false, eq-eqb}
use Rattle.rules.specs.declared.Device.{Device}
use Rattle.rules.specs.declared.Event.{Event}
use Rattle.rules.specs.declared.Answer.{Answer}
use Rattle.rules.specs.declared.Outcome.{Outcome}
use Rattle.rules.specs.Report.{no_report}
use Rattle.rules.specs.Registers.{read_only, later}
use Rattle.rules.specs.Interrupts.{requester}
use Rattle.rules.specs.Sound.{sound_of}
use Rattle.rules.specs.Events.{is_w, is_k, unknown, no_register, too_large, held, no_byte, no_room, code_of, effect, effect_of, relit, answer_of, unsound_answer, outcome_of, event_of}
use Rattle.basics.proofs.Tests.{so-both, each, so-not, by-test}
use Rattle.theorems.proofs.Parts.{handshake-awake}
use Rattle.theorems.proofs.Clauses.{sound-parts}
use Rattle.theorems.proofs.Codes.{refused_read_only, refused_later, refused_idle, test-9, test-1, test-2, test-5, test-3, test-4}
use Rattle.theorems.proofs.Codes.{test-11, test-10, test-6, test-0, write_known, no-register-known, too-large-known, write_byte, later-stored, Unstored, writes, reads, acknowledges}

-- not both, and the one: not the other
alone : (a b : Bool) → So a → So (not (a && b)) → So (not b)
alone true b p h = h
alone false true p h = p
alone false false p h = refl

none : (a b : Bool) → So (not b) → So (not (a && b))
none true b h = h
none false b h = refl

-- a sound record under RESET has no output port, so no such write is held
unheld : (d : Device) (e : Event) → So (sound_of d) → Unstored d e → held d e ≡ false
unfolding held
unheld d e s w = simp (handshake-awake d (e.a - 0x0D) w.place (sound-parts d s).base (simp (w.output, or-true)))

module _ (d : Device) (e : Event) where
  -- the three ways of an event: an unsound record, an accepted event, a refusal
  pub ways : (P : Outcome Device Answer → Type 0) → (code_of d e ≡ 9 → P (record { device = d; answer = unsound_answer }))
      → (code_of d e ≡ 0 → P (outcome_of 0 (relit (effect_of d e)))) → ((code_of d e ≡ 9 → ⊥) → P (outcome_of (code_of d e) (effect d 0))) → P (event_of d e)
  unfolding event_of
  ways P f g h =
      by-test P (eqb (code_of d e) 9) (record { device = d; answer = unsound_answer })
      (cond (eqb (code_of d e) 0) (outcome_of 0 (relit (effect_of d e))) (outcome_of (code_of d e) (effect d 0))) (λ t. f (eqb-true (code_of d e) 9 t))
      (λ n.
      by-test P (eqb (code_of d e) 0) (outcome_of 0 (relit (effect_of d e))) (outcome_of (code_of d e) (effect d 0)) (λ t. g (eqb-true (code_of d e) 0 t))
      (λ _. h (eqb-false (code_of d e) 9 n)))

  -- ---- the answer's code is the one of the order of the refusals
  pub code_is : (event_of d e).answer.code ≡ code_of d e
  unfolding outcome_of answer_of
  code_is = ways (λ o. o.answer.code ≡ code_of d e) sym sym (λ _. refl)

  -- ---- "A refused event hands its record back as it came", with value 0 and nothing to report
  pub refused-keeps : ((event_of d e).answer.code ≡ 0 → ⊥) → (event_of d e).device ≡ d
  unfolding outcome_of
  refused-keeps ne = ways (λ o. o.device ≡ d) (λ _. refl) (λ z. absurd (ne (code_is ∙ z))) (λ _. refl)

  pub refused-value : ((event_of d e).answer.code ≡ 0 → ⊥) → (event_of d e).answer.value ≡ 0
  unfolding outcome_of answer_of
  refused-value ne = ways (λ o. o.answer.value ≡ 0) (λ _. refl) (λ z. absurd (ne (code_is ∙ z))) (λ _. refl)

  pub refused-report : ((event_of d e).answer.code ≡ 0 → ⊥) → (event_of d e).answer.report ≡ no_report
  unfolding outcome_of answer_of
  refused-report ne = ways (λ o. o.answer.report ≡ no_report) (λ _. refl) (λ z. absurd (ne (code_is ∙ z))) (λ _. refl)

  -- "With code 9 on an event, value, pins, lines and counts are all 0."
  pub unsound-answer : (event_of d e).answer.code ≡ 9 → (event_of d e).answer ≡ unsound_answer
  unsound-answer n =
      ways (λ o. code_of d e ≡ 9 → o.answer ≡ unsound_answer) (λ _ _. refl) (λ z q. absurd (omega arith)) (λ ne q. absurd (ne q)) (sym code_is ∙ n)

  pub unsound : sound_of d ≡ false → event_of d e ≡ record { device = d; answer = unsound_answer }
  unfolding event_of code_of
  unsound s = simp s

  -- with another refusal the lines are those of the record
  pub refused-answer : ((event_of d e).answer.code ≡ 0 → ⊥) → ((event_of d e).answer.code ≡ 9 → ⊥)
      → (event_of d e).answer ≡ answer_of (code_of d e) (effect d 0)
  unfolding outcome_of
  refused-answer ne nine =
      ways (λ o. o.answer ≡ answer_of (code_of d e) (effect d 0)) (λ n. absurd (nine (code_is ∙ n))) (λ z. absurd (ne (code_is ∙ z))) (λ _. refl)

  -- ---- each code is given exactly when: "Order: 9, 1, 2, 5, reset hold, 3, 4, 6."; 11 "after 3", 10 "after 11"
  exactly : (n : ℕ) (x : Bool) → eqb (code_of d e) n ≡ x → (code_of d e ≡ n) ↔ So x
  exactly n x p = (λ q. sym p ∙ eq-eqb (code_of d e) n q, λ s. eqb-true (code_of d e) n (p ∙ s))

  -- "record .. break the soundness rules"
  pub code-9 : (code_of d e ≡ 9) ↔ So (not (sound_of d))
  code-9 = exactly 9 _ (test-9 d e)

  -- "kind above 6"
  pub code-1 : (code_of d e ≡ 1) ↔ So (sound_of d && unknown e)
  code-1 = exactly 1 _ (test-1 d e)

  -- "W or R, address above 47"
  pub code-2 : (code_of d e ≡ 2) ↔ So (sound_of d && no_register e)
  code-2 =
      let test = exactly 2 _ (test-2 d e) in (
        λ q. let part = each (sound_of d ∷ not (unknown e) ∷ no_register e ∷ []) (test.0 q) in so-both (part 0) (part 2),
        λ s. let part = each (sound_of d ∷ no_register e ∷ []) s in test.1 (so-both (so-both (part 0) (so-not (no-register-known e (part 1)))) (part 1)),
      )

  -- "a byte, a or b above 255, c above 15, v above 1"
  pub code-5 : (code_of d e ≡ 5) ↔ So (sound_of d && not (no_register e) && too_large e)
  code-5 =
      let test = exactly 5 _ (test-5 d e) in (
        λ q.
            let part = each (sound_of d ∷ not (unknown e) ∷ not (no_register e) ∷ too_large e ∷ []) (test.0 q) in
            so-both (so-both (part 0) (part 2)) (part 3),
        λ s.
            let part = each (sound_of d ∷ not (no_register e) ∷ too_large e ∷ []) s in
            test.1 (so-both (so-both (so-both (part 0) (so-not (too-large-known e (part 2)))) (part 1)) (part 2)),
      )

  -- a write that comes to its register: of a byte to one of the 48, with no reset hold
  abbrev pub reaches : Bool
  reaches = sound_of d && is_w e && not (no_register e) && not (too_large e) && not (held d e)

  -- "W to 10H-15H or 1FH"
  pub code-3 : (code_of d e ≡ 3) ↔ So (reaches && read_only e.a)
  code-3 =
      let test = exactly 3 _ (test-3 d e) in
      let r = read_only e.a in (
        λ q.
            let part = each (sound_of d ∷ not (unknown e) ∷ not (no_register e) ∷ not (too_large e) ∷ not (held d e) ∷ refused_read_only e ∷ []) (test.0 q) in
            let write = each (is_w e ∷ r ∷ []) (part 5) in
            so-both (so-both (so-both (so-both (so-both (part 0) (write 0)) (part 2)) (part 3)) (part 4)) (write 1),
        λ s.
            let part = each (sound_of d ∷ is_w e ∷ not (no_register e) ∷ not (too_large e) ∷ not (held d e) ∷ r ∷ []) s in
            test.1 (so-both (so-both (so-both (so-both (so-both (part 0) (so-not (write_known e (part 1)))) (part 2)) (part 3)) (part 4)) (so-both (part 1) (part 5))),
      )

  -- paper 02, W-203: "11 for a data read with IRF 0"
  pub code-11 : (code_of d e ≡ 11) ↔ So (sound_of d && no_byte d e)
  code-11 =
      let test = exactly 11 _ (test-11 d e) in (
        λ q.
            let part =
            each (sound_of d ∷ not (unknown e) ∷ not (no_register e) ∷ not (too_large e) ∷ not (held d e) ∷ not (refused_read_only e) ∷ no_byte d e ∷ [])
            (test.0 q) in
            so-both (part 0) (part 6),
        λ s.
            let part = each (sound_of d ∷ no_byte d e ∷ []) s in
            let r = reads d e (part 1) in
            test.1
            (so-both
            (so-both
            (so-both (so-both (so-both (so-both (part 0) (so-not r.known)) (so-not r.register)) (so-not r.small)) (so-not r.free))
            (so-not r.readable))
            (part 1)),
      )

  -- W-206: "10 for a data write with ORE 0"
  pub code-10 : (code_of d e ≡ 10) ↔ So (sound_of d && not (too_large e) && no_room d e)
  code-10 =
      let test = exactly 10 _ (test-10 d e) in (
        λ q.
            let part =
            each
            (sound_of d ∷ not (unknown e) ∷ not (no_register e) ∷ not (too_large e) ∷ not (held d e) ∷ not (refused_read_only e) ∷ not (no_byte d e) ∷ no_room d e ∷ [])
            (test.0 q) in
            so-both (so-both (part 0) (part 3)) (part 7),
        λ s.
            let part = each (sound_of d ∷ not (too_large e) ∷ no_room d e ∷ []) s in
            let w = writes d e (part 2) in
            test.1
            (so-both
            (so-both
            (so-both
            (so-both (so-both (so-both (so-both (part 0) (so-not (write_known e w.write))) (so-not w.register)) (part 1)) (so-not (unheld d e (part 0) w)))
            (so-not w.readable))
            (so-not (write_byte d e w.write)))
            (part 2)),
      )

  -- "nothing stored"
  pub full-keeps : So (sound_of d && not (too_large e) && no_room d e) → (event_of d e).device ≡ d
  full-keeps s =
      let n = code-10.1 s in
      refused-keeps (λ z. absurd (omega (arith, sym code_is ∙ z, n)))

  -- "W of a setting left to later requests"
  pub code-4 : (code_of d e ≡ 4) ↔ So (reaches && not (read_only e.a) && later d e.a e.b)
  code-4 =
      let test = exactly 4 _ (test-4 d e) in
      let r = read_only e.a in
      let l = later d e.a e.b in (
        λ q.
            let part =
            each
            (sound_of d ∷ not (unknown e) ∷ not (no_register e) ∷ not (too_large e) ∷ not (held d e)
            ∷ not (refused_read_only e) ∷ not (no_byte d e) ∷ not (no_room d e) ∷ refused_later d e ∷ [])
            (test.0 q) in
            let write = each (is_w e ∷ l ∷ []) (part 8) in
            so-both (so-both (so-both (so-both (so-both (so-both (part 0) (write 0)) (part 2)) (part 3)) (part 4)) (alone (is_w e) r (write 0) (part 5))) (write 1),
        λ s.
            let part = each (sound_of d ∷ is_w e ∷ not (no_register e) ∷ not (too_large e) ∷ not (held d e) ∷ not r ∷ l ∷ []) s in
            test.1
            (so-both
            (so-both
            (so-both
            (so-both (so-both (so-both (so-both (so-both (part 0) (so-not (write_known e (part 1)))) (part 2)) (part 3)) (part 4)) (none (is_w e) r (part 5)))
            (so-not (write_byte d e (part 1))))
            (so-not (later-stored d e (part 6))))
            (so-both (part 1) (part 6))),
      )

  -- "K with no source requesting"
  pub code-6 : (code_of d e ≡ 6) ↔ So (sound_of d && is_k e && eqb (requester d) 5)
  code-6 =
      let test = exactly 6 _ (test-6 d e) in (
        λ q.
            let part =
            each
            (sound_of d ∷ not (unknown e) ∷ not (no_register e) ∷ not (too_large e) ∷ not (held d e)
            ∷ not (refused_read_only e) ∷ not (no_byte d e) ∷ not (no_room d e) ∷ not (refused_later d e) ∷ refused_idle d e ∷ [])
            (test.0 q) in
            let idle = each (is_k e ∷ eqb (requester d) 5 ∷ []) (part 9) in
            so-both (so-both (part 0) (idle 0)) (idle 1),
        λ s.
            let part = each (sound_of d ∷ is_k e ∷ eqb (requester d) 5 ∷ []) s in
            let k = acknowledges d e (part 1) in
            let u = k.untested in
            test.1
            (so-both
            (so-both
            (so-both
            (so-both
            (so-both
            (so-both (so-both (so-both (so-both (part 0) (so-not u.known)) (so-not u.register)) (so-not u.small)) (so-not u.free))
            (so-not u.readable))
            (so-not k.byte))
            (so-not k.room))
            (so-not k.now))
            (so-both (part 1) (part 2))),
      )

  -- "accepted": past 9, 1, 2 and 5, and then held by RESET or past 3, 11, 10, 4 and 6
  pub code-0 : (code_of d e ≡ 0)
      ↔ So (sound_of d && not (unknown e) && not (no_register e) && not (too_large e)
      && (held d e || (not (refused_read_only e) && not (no_byte d e) && not (no_room d e) && not (refused_later d e) && not (refused_idle d e))))
  code-0 = exactly 0 _ (test-0 d e)

  -- so the record is sound
  accepted-by : (v : Bool) → sound_of d ≡ v → code_of d e ≡ 0 → sound_of d ≡ true
  accepted-by true s z = s
  accepted-by false s z = absurd (omega (arith, z, code-9.1 (so-not s)))

  pub accepted-sound : code_of d e ≡ 0 → sound_of d ≡ true
  accepted-sound z = accepted-by _ refl z
