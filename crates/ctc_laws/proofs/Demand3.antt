-- Demand 3 of paper 01 for the CTC (W-213): one call for n clocks is n calls for one clock, and every cut gives the same: the record, the
-- lines, and the zero counts of the four channels.
-- Each theorem is about the event's own definition, from any record; where it is not sound every T is refused alike. The numbers that T
-- does not use may be any.
-- Assumes nothing.
use Prim.Native.Nat.{ℕ, zero, suc, ◌+◌, ◌<◌}
use mathlib.Core.Path.{◌≡◌, refl, sym, ap, ◌∙◌}
use mathlib.Core.Bool.{Bool, true, false, ◌&&◌, So, false≢true}
use mathlib.Core.List.{List, [], ◌∷◌, ◌++◌, flatten}
use native.Mathlib.Nat.{add-zero, add_assoc}
use native.Mathlib.Omega.{arith}
use lib.Dec.{eqb, lit<}
use lib.ListN.{length, get_or}
use borrow.Author.Tests.{eqb-true}
use Rattle.basics.specs.Byte.{num}
use Rattle.basics.specs.Iterate.{iterate}
use Rattle.basics.specs.Runs.{record_through, answers_through}
use Rattle.basics.proofs.Iterate.{iterate-add}
use Rattle.basics.proofs.Tests.{so-both, left, right}
use Rattle.rules.specs.declared.Event.{Event}
use Rattle.rules.specs.Events.{is_t, unknown}
use Rattle.ctc_rules.specs.declared.Ctc.{Ctc}
use Rattle.ctc_rules.specs.declared.CtcRan.{CtcRan}
use Rattle.ctc_rules.specs.declared.CtcAnswer.{CtcAnswer}
use Rattle.rules.specs.declared.Outcome.{Outcome}
use Rattle.ctc_rules.specs.Set.{set_channels}
use Rattle.ctc_rules.specs.Record.{four_of, channel_at, FourChannels}
use Rattle.ctc_rules.specs.Channels.{clock_channel}
use Rattle.ctc_rules.specs.Clocks.{no_zeros, clock_ctc, ran_ctc}
use Rattle.ctc_rules.specs.Sound.{sound_channel, sound_ctc}
use Rattle.ctc_rules.specs.Events.{no_channel, too_large_ctc, code_ctc, plain_ctc, clocks_ctc, effect_ctc, outcome_ctc, unsound_ctc, event_ctc}
use Rattle.ctc_laws.specs.Divided.{tick_channel, unticked, clocks_after}
use Rattle.ctc_laws.specs.Runs.{CtcCall, happens, ends, call_ctc, run_ctc, cut_ctc, is_tick, ticks_in, only_ticks, only_ticks1, tick_clocks, zeros_added, both_ctc, answers_one_ctc, one_ctc}
use Rattle.ctc_laws.proofs.Parts.{device-parts, sound-below}
use Rattle.ctc_laws.proofs.Divided.{clocks-by-division}
use Rattle.ctc_laws.proofs.Apart.{joined, ran-apart}
use Rattle.ctc_laws.proofs.Soundness.{ran-sound}
use Rattle.ctc_laws.proofs.Refusals.{unsound, accepted}
use Rattle.ctc_laws.proofs.Runs.{unseen}

-- ---- what T n answers: the run, or code 9
abbrev ran_outcome : CtcRan → Outcome Ctc CtcAnswer
ran_outcome s = outcome_ctc 0 (record { device = s.device; value = 0; zeros = s.zeros })

module _ (d : Ctc) (e : Event) (t : So (is_t e)) where
  taken : sound_ctc d ≡ true → code_ctc d e ≡ 0
  unfolding code_ctc unknown no_channel too_large_ctc
  taken s = let k = eqb-true e.kind 4 t in simp (s, k)

  clocks : effect_ctc d e ≡ clocks_ctc d e.a
  unfolding effect_ctc
  clocks = let k = eqb-true e.kind 4 t in simp k

  pub ran : sound_ctc d ≡ true → event_ctc d e ≡ ran_outcome (ran_ctc e.a d)
  unfolding clocks_ctc
  ran s = accepted d e (taken s) ∙ ap (outcome_ctc 0) clocks

  -- T 0 changes nothing
  pub none : e.a ≡ 0 → sound_ctc d ≡ true → event_ctc d e ≡ outcome_ctc 0 (plain_ctc d 0)
  unfolding ran_ctc iterate
  none z s = ran s ∙ ap (λ (n : ℕ). ran_outcome (ran_ctc n d)) z

-- ---- clocks with the zero counts of earlier ones added
abbrev on_top : List ℕ → CtcRan → CtcRan
on_top z s = record { device = s.device; zeros = zeros_added z s.zeros }

-- adding before a clock, or after it
added : (z : List ℕ) (s : CtcRan) → clock_ctc (on_top z s) ≡ on_top z (clock_ctc s)
unfolding clock_ctc zeros_added
added z s =
    let k : (i : ℕ) → (get_or z i 0 + get_or s.zeros i 0) + num (clock_channel (channel_at s.device i)).zero
    ≡ get_or z i 0 + (get_or s.zeros i 0 + num (clock_channel (channel_at s.device i)).zero) =
    λ i. add_assoc (get_or z i 0) (get_or s.zeros i 0) (num (clock_channel (channel_at s.device i)).zero) in
    λ j. record { device = (clock_ctc s).device; zeros = four_of (λ i. k i j) }

later : (n : ℕ) (z : List ℕ) (s : CtcRan) → iterate n clock_ctc (on_top z s) ≡ on_top z (iterate n clock_ctc s)
unfolding iterate
later zero z s = refl
later (suc n) z s = ap clock_ctc (later n z s) ∙ added z (iterate n clock_ctc s)

-- the zero counts are four
counts-four : (n : ℕ) (d : Ctc) → (ran_ctc n d).zeros ≡ zeros_added (ran_ctc n d).zeros no_zeros
unfolding ran_ctc iterate clock_ctc zeros_added
counts-four zero d = refl
counts-four (suc n) d = λ j. four_of (λ i. sym (add-zero (get_or (ran_ctc (suc n) d).zeros i 0)) j)

-- a clocks, and then b more
pub ran-add : (a b : ℕ) (d : Ctc) → ran_ctc (a + b) d ≡ on_top (ran_ctc a d).zeros (ran_ctc b (ran_ctc a d).device)
unfolding ran_ctc
ran-add a b d =
    let s = ran_ctc a d in
    iterate-add a b clock_ctc (record { device = d; zeros = no_zeros })
    ∙ ap (λ (z : List ℕ). iterate b clock_ctc (record { device = s.device; zeros = z })) (counts-four a d)
    ∙ later b s.zeros (record { device = s.device; zeros = no_zeros })

-- ---- cuts
-- an outcome, and another from the record that it left, as one
abbrev then : Outcome Ctc CtcAnswer → Outcome Ctc CtcAnswer → Outcome Ctc CtcAnswer
then o p = record { device = p.device; answer = both_ctc o.answer p.answer }

on-top : (r s : CtcRan) → ran_outcome (on_top r.zeros s) ≡ then (ran_outcome r) (ran_outcome s)
unfolding outcome_ctc
on-top r s = refl

-- "T n: n clocks."
abbrev pub tick_of : ℕ → Event
tick_of n = record { kind = 4; a = n; b = 0; c = 0 }

next : (d : Ctc) (a b : ℕ) → sound_ctc d ≡ true → event_ctc (ran_outcome (ran_ctc a d)).device (tick_of b) ≡ ran_outcome (ran_ctc b (ran_ctc a d).device)
unfolding outcome_ctc
next d a b s = ran (ran_ctc a d).device (tick_of b) refl (ran-sound a d s)

-- a T, whatever its other numbers
as-tick-by : (v : Bool) (d : Ctc) (e : Event) → So (is_t e) → sound_ctc d ≡ v → event_ctc d e ≡ event_ctc d (tick_of e.a)
as-tick-by true d e t s = ran d e t s ∙ sym (ran d (tick_of e.a) refl s)
as-tick-by false d e t s = unsound d e s ∙ sym (unsound d (tick_of e.a) s)

pub as-tick : (d : Ctc) (e : Event) → So (is_t e) → event_ctc d e ≡ event_ctc d (tick_of e.a)
as-tick d e t = as-tick-by _ d e t refl

call-tick : (d : Ctc) (x : CtcCall) → So (is_tick x) → call_ctc d x ≡ event_ctc d (tick_of (ticks_in x))
call-tick d (happens e) t = as-tick d e t
call-tick d ends t = absurd (false≢true t)

two-by : (v : Bool) (d : Ctc) (a b : ℕ) → sound_ctc d ≡ v
    → event_ctc d (tick_of (a + b)) ≡ then (event_ctc d (tick_of a)) (event_ctc (event_ctc d (tick_of a)).device (tick_of b))
unfolding zeros_added
two-by true d a b s =
    let r = ran_ctc a d in
    ran d (tick_of (a + b)) refl s ∙ ap ran_outcome (ran-add a b d) ∙ on-top r (ran_ctc b r.device)
    ∙ ap (then (ran_outcome r)) (sym (next d a b s))
    ∙ ap (λ (o : Outcome Ctc CtcAnswer). then o (event_ctc o.device (tick_of b))) (sym (ran d (tick_of a) refl s))
two-by false d a b s =
    unsound d (tick_of (a + b)) s ∙ ap (then (unsound_ctc d)) (sym (unsound d (tick_of b) s))
    ∙ ap (λ (o : Outcome Ctc CtcAnswer). then o (event_ctc o.device (tick_of b))) (sym (unsound d (tick_of a) s))

-- the clocks of a first T, and the clocks of those after it
cut_by_lem : (d : Ctc) (x : CtcCall) (l : List CtcCall) → So (is_tick x) → So (only_ticks l)
    → event_ctc d (tick_of (ticks_in x + tick_clocks l)) ≡ one_ctc (run_ctc d (x ∷ l))
unfolding only_ticks tick_clocks record_through answers_through answers_one_ctc
cut_by_lem d x [] t h = ap (λ (n : ℕ). event_ctc d (tick_of n)) (add-zero (ticks_in x)) ∙ sym (call-tick d x t)
cut_by_lem d x (y ∷ l) t h =
    two-by _ d (ticks_in x) (tick_clocks (y ∷ l)) refl
    ∙ ap (λ (o : Outcome Ctc CtcAnswer). then o (event_ctc o.device (tick_of (tick_clocks (y ∷ l))))) (sym (call-tick d x t))
    ∙ ap (then (call_ctc d x)) (cut_by_lem (call_ctc d x).device y l (left (is_tick y) (only_ticks l) h) (right (is_tick y) (only_ticks l) h))

-- T n is T's of n clocks together, one after the other, however n is cut: the record, the lines, and the zero counts added up
pub cut : (d : Ctc) (e : Event) (x : CtcCall) (l : List CtcCall) → So (is_t e) → So (only_ticks (x ∷ l)) → e.a ≡ tick_clocks (x ∷ l)
    → event_ctc d e ≡ one_ctc (run_ctc d (x ∷ l))
unfolding only_ticks tick_clocks
cut d e x l t h q =
    as-tick d e t ∙ ap (λ (n : ℕ). event_ctc d (tick_of n)) q ∙ cut_by_lem d x l (left (is_tick x) (only_ticks l) h) (right (is_tick x) (only_ticks l) h)

-- and so with anything done at any of the cuts that leaves sound records as they are (a save and its restore)
pub cut_apart : (f : Ctc → Ctc) → ((d : Ctc) → FourChannels d → sound_ctc d ≡ true → f d ≡ d)
    → (d : Ctc) (e : Event) (x : CtcCall) (l : List CtcCall) (ls : List (List CtcCall)) → FourChannels d → sound_ctc d ≡ true
    → So (is_t e) → So (only_ticks (flatten ((x ∷ l) ∷ ls))) → e.a ≡ tick_clocks (flatten ((x ∷ l) ∷ ls))
    → event_ctc d e ≡ one_ctc (cut_ctc f d (x ∷ l) ls)
unfolding flatten
cut_apart f leaves d e x l ls h s t o q = cut d e x (l ++ flatten ls) t o q ∙ ap one_ctc (sym (unseen f leaves d (x ∷ l) ls h s))

-- ---- calls that are all T 1
ones-only : (l : List CtcCall) → So (only_ticks1 l) → So (only_ticks l)
unfolding only_ticks only_ticks1
ones-only [] h = h
ones-only (x ∷ l) h =
    let t = left (is_tick x && eqb (ticks_in x) 1) (only_ticks1 l) h in
    so-both (left (is_tick x) (eqb (ticks_in x) 1) t) (ones-only l (right (is_tick x && eqb (ticks_in x) 1) (only_ticks1 l) h))

ones-clocks : (l : List CtcCall) → So (only_ticks1 l) → tick_clocks l ≡ length l
unfolding tick_clocks only_ticks1
ones-clocks [] h = refl
ones-clocks (x ∷ l) h =
    let t = left (is_tick x && eqb (ticks_in x) 1) (only_ticks1 l) h in
    let n = eqb-true (ticks_in x) 1 (right (is_tick x) (eqb (ticks_in x) 1) t) in
    omega (arith, n, ones-clocks l (right (is_tick x && eqb (ticks_in x) 1) (only_ticks1 l) h))

-- T n is n times T 1, for every n from 1 on (T 0 is `none` above)
pub many : (d : Ctc) (e : Event) (x : CtcCall) (l : List CtcCall) → So (is_t e) → So (only_ticks1 (x ∷ l)) → e.a ≡ length (x ∷ l)
    → event_ctc d e ≡ one_ctc (run_ctc d (x ∷ l))
many d e x l t h q = cut d e x l t (ones-only (x ∷ l) h) (q ∙ sym (ones-clocks (x ∷ l) h))

-- ---- T n by division, in every state: nothing is stepped
-- counts and constants are bytes
pub record Bytes (d : Ctc) : Type 0 where
  pub counts : (i : ℕ) → i < 4 → (channel_at d i).count < 256
  pub constants : (i : ℕ) → i < 4 → (channel_at d i).constant < 256

pub by-division : (n : ℕ) (d : Ctc) → FourChannels d → Bytes d → sound_ctc d ≡ true → ran_ctc n d ≡ joined d (λ i. clocks_after (channel_at d i) n)
by-division n d h b s =
    let p = device-parts d s in
    let at : (i : ℕ) → sound_channel (channel_at d i) ≡ true → i < 4 → iterate n tick_channel (unticked (channel_at d i)) ≡ clocks_after (channel_at d i) n =
    λ i f l. clocks-by-division (channel_at d i) (sound-below (channel_at d i) f) (b.counts i l) (b.constants i l) n in
    let zeroth = at 0 p.zeroth (lit< tt) in
    let first = at 1 p.first (lit< tt) in
    let second = at 2 p.second (lit< tt) in
    let third = at 3 p.third (lit< tt) in
    ran-apart n d h
    ∙ (λ j.
    record {
      device = set_channels d ((zeroth j).channel ∷ (first j).channel ∷ (second j).channel ∷ (third j).channel ∷ []);
      zeros = (zeroth j).zeros ∷ (first j).zeros ∷ (second j).zeros ∷ (third j).zeros ∷ [];
    })
