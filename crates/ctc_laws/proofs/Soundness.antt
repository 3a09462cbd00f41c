-- The fresh device is sound; every event and every end of service takes a sound record to a sound record; from the fresh device nothing is
-- ever answered with 9. And each keeps the shape of the record.
-- Assumes nothing.
use Prim.Native.Nat.{ℕ, zero, suc, ◌*◌, ◌/◌, ◌%◌}
use mathlib.Core.Path.{◌≡◌, refl, sym, ◌∙◌}
use mathlib.Core.Bool.{Bool, true, false, true≢false}
use mathlib.Core.List.{List}
use native.Mathlib.Omega.{arith}
use lib.Dec.{eqb}
use lib.ListN.{length-set}
use borrow.Author.Tests.{lt-ltb}
use Rattle.basics.specs.Byte.{bit}
use Rattle.basics.specs.Iterate.{iterate}
use Rattle.basics.proofs.Tests.{by-test, not_so}
use Rattle.basics.proofs.Runs.{list-kept}
use Rattle.rules.specs.declared.Event.{Event}
use Rattle.rules.specs.Events.{is_x, is_w, is_r, is_p, is_t, is_k}
use Rattle.ctc_rules.specs.declared.Channel.{Channel}
use Rattle.ctc_rules.specs.declared.Ctc.{Ctc}
use Rattle.ctc_rules.specs.declared.CtcRan.{CtcRan}
use Rattle.ctc_rules.specs.declared.CtcEffect.{CtcEffect}
use Rattle.ctc_rules.specs.declared.CtcAnswer.{CtcAnswer}
use Rattle.rules.specs.declared.Outcome.{Outcome}
use Rattle.ctc_rules.specs.Set.{set_ip, set_ius, set_channel}
use Rattle.ctc_rules.specs.Record.{factor_of, blank_channel, channel_at, FourChannels, reset_ctc, fresh_ctc}
use Rattle.ctc_rules.specs.Channels.{timer_runs, control_word, constant_word}
use Rattle.ctc_rules.specs.Interrupts.{requester_ctc, acknowledged_ctc, serving_ctc, released_ctc}
use Rattle.ctc_rules.specs.Clocks.{clock_ctc, ran_ctc}
use Rattle.ctc_rules.specs.Sound.{control_bits, runs_loaded, constant_loaded, counter_runs, prescaler_below, prescaler_timed, sound_channel, sound_ctc}
use Rattle.ctc_rules.specs.Events.{is_control, written_ctc, levels_ctc, clocks_ctc, effect_ctc, outcome_ctc, event_ctc, end_of_service}
use Rattle.ctc_laws.specs.Runs.{CtcCall, happens, ends, next_ctc, record_ctc, call_ctc}
use Rattle.ctc_laws.proofs.Parts.{device-parts, device-sound}
use Rattle.ctc_laws.proofs.Kept.{Fine, word-bits, count-blind, clock-fine, level-fine, control-fine, constant-fine, set-fine}
use Rattle.ctc_laws.proofs.Refusals.{ways, code_is, code-9, ended-9}

-- ---- reset
blank-fine : Fine blank_channel
unfolding sound_channel control_bits runs_loaded constant_loaded counter_runs prescaler_below prescaler_timed factor_of timer_runs
blank-fine = refl

reset-sound : (d : Ctc) → sound_ctc d ≡ true → sound_ctc (reset_ctc d) ≡ true
unfolding reset_ctc
reset-sound d s =
    device-sound (reset_ctc d)
    (record { zeroth = blank-fine; first = blank-fine; second = blank-fine; third = blank-fine; vector = refl; levels = (device-parts d s).levels })

-- the fresh device is sound, and has four channels
pub fresh-sound : sound_ctc fresh_ctc ≡ true
fresh-sound =
    device-sound fresh_ctc
    (record { zeroth = blank-fine; first = blank-fine; second = blank-fine; third = blank-fine; vector = refl; levels = refl })

pub fresh-shaped : FourChannels fresh_ctc
fresh-shaped = refl

-- ---- clocks
pub clock-sound : (s : CtcRan) → sound_ctc s.device ≡ true → sound_ctc (clock_ctc s).device ≡ true
unfolding clock_ctc
clock-sound s h =
    let k = device-parts s.device h in
    let d = s.device in
    device-sound (clock_ctc s).device
    (record {
      zeroth = clock-fine (channel_at d 0) k.zeroth;
      first = clock-fine (channel_at d 1) k.first;
      second = clock-fine (channel_at d 2) k.second;
      third = clock-fine (channel_at d 3) k.third;
      vector = k.vector;
      levels = k.levels;
    })

clocks-sound : (n : ℕ) (s : CtcRan) → sound_ctc s.device ≡ true → sound_ctc (iterate n clock_ctc s).device ≡ true
unfolding iterate
clocks-sound zero s h = h
clocks-sound (suc n) s h = clock-sound (iterate n clock_ctc s) (clocks-sound n s h)

pub ran-sound : (n : ℕ) (d : Ctc) → sound_ctc d ≡ true → sound_ctc (ran_ctc n d).device ≡ true
unfolding ran_ctc
ran-sound n d h = clocks-sound n _ h

-- ---- a word, levels, the acknowledge and the end of service
written-sound : (d : Ctc) (i b : ℕ) → sound_ctc d ≡ true → sound_ctc (written_ctc d i b) ≡ true
unfolding written_ctc
written-sound d i b s =
    by-test Sound (channel_at d i).awaits _ _ (λ _. set-fine d i (constant_word (channel_at d i) b) s (constant-fine (channel_at d i) b))
    (λ _.
    by-test Sound (is_control b) _ _ (λ _. set-fine d i (control_word (channel_at d i) b) s (control-fine (channel_at d i) b))
    (λ _. by-test Sound (eqb i 0) _ _ (λ _. vector-sound) (λ _. s)))
  where
    Sound : Ctc → Type 0
    Sound x = sound_ctc x ≡ true

    vector-sound : sound_ctc (record { channels = d.channels; vector = b / 8 * 8; levels = d.levels; iei = d.iei }) ≡ true
    vector-sound =
        let k = device-parts d s in
        device-sound _
        (record { zeroth = k.zeroth; first = k.first; second = k.second; third = k.third; vector = word-bits b; levels = k.levels })

levels_sound : (d : Ctc) (a : ℕ) → sound_ctc d ≡ true → sound_ctc (levels_ctc d a) ≡ true
unfolding levels_ctc
levels_sound d a s =
    let k = device-parts d s in
    device-sound (levels_ctc d a)
    (record {
      zeroth = level-fine (channel_at d 0) (bit d.levels 0) (bit a 0) k.zeroth;
      first = level-fine (channel_at d 1) (bit d.levels 1) (bit a 1) k.first;
      second = level-fine (channel_at d 2) (bit d.levels 2) (bit a 2) k.second;
      third = level-fine (channel_at d 3) (bit d.levels 3) (bit a 3) k.third;
      vector = k.vector;
      levels = lt-ltb (a % 16) 16 (omega arith);
    })

served-sound : (d : Ctc) (i : ℕ) (p s : Bool) → sound_ctc d ≡ true
    → sound_ctc (set_channel d i (set_ius (set_ip (channel_at d i) p) s)) ≡ true
served-sound d i p s h =
    let c = channel_at d i in
    set-fine d i (set_ius (set_ip c p) s) h (λ f. count-blind c c.count p s ∙ f)

acknowledged-sound : (d : Ctc) → sound_ctc d ≡ true → sound_ctc (acknowledged_ctc d) ≡ true
unfolding acknowledged_ctc
acknowledged-sound d h = served-sound d (requester_ctc d) false true h

released-sound : (d : Ctc) → sound_ctc d ≡ true → sound_ctc (released_ctc d) ≡ true
unfolding released_ctc
released-sound d h = served-sound d (serving_ctc d) (channel_at d (serving_ctc d)).ip false h

iei-sound : (d : Ctc) (v : Bool) → sound_ctc d ≡ true → sound_ctc (record { channels = d.channels; vector = d.vector; levels = d.levels; iei = v }) ≡ true
unfolding sound_ctc
iei-sound d v h = h

-- ---- an event, and the end of service
effect-sound : (d : Ctc) (e : Event) → sound_ctc d ≡ true → sound_ctc (effect_ctc d e).device ≡ true
unfolding effect_ctc clocks_ctc
effect-sound d e s =
    by-test Sound (is_x e) _ _ (λ _. reset-sound d s)
    (λ _.
    by-test Sound (is_w e) _ _ (λ _. written-sound d e.a e.b s)
    (λ _.
    by-test Sound (is_r e) _ _ (λ _. s)
    (λ _.
    by-test Sound (is_p e) _ _ (λ _. levels_sound d e.a s)
    (λ _.
    by-test Sound (is_t e) _ _ (λ _. ran-sound e.a d s)
    (λ _. by-test Sound (is_k e) _ _ (λ _. acknowledged-sound d s) (λ _. iei-sound d (eqb e.a 1) s))))))
  where
    Sound : CtcEffect → Type 0
    Sound r = sound_ctc r.device ≡ true

pub event-sound : (d : Ctc) (e : Event) → sound_ctc d ≡ true → sound_ctc (event_ctc d e).device ≡ true
unfolding outcome_ctc
event-sound d e s = ways d e (λ (o : Outcome Ctc CtcAnswer). sound_ctc o.device ≡ true) (λ _. s) (λ _. effect-sound d e s) (λ _ _. s)

pub ended-sound : (d : Ctc) → sound_ctc d ≡ true → sound_ctc (end_of_service d).device ≡ true
unfolding end_of_service outcome_ctc
ended-sound d s = by-test (λ (o : Outcome Ctc CtcAnswer). sound_ctc o.device ≡ true) (sound_ctc d) _ _ (λ _. released-sound d s) (λ _. s)

-- ---- the shape
set-shaped : (d : Ctc) (i : ℕ) (x : Channel) → FourChannels d → FourChannels (set_channel d i x)
set-shaped d i x h = length-set d.channels i x ∙ h

clocks-shaped : (n : ℕ) (s : CtcRan) → FourChannels s.device → FourChannels (iterate n clock_ctc s).device
unfolding iterate clock_ctc
clocks-shaped zero s h = h
clocks-shaped (suc n) s h = refl

effect-shaped : (d : Ctc) (e : Event) → FourChannels d → FourChannels (effect_ctc d e).device
unfolding effect_ctc clocks_ctc ran_ctc reset_ctc written_ctc levels_ctc acknowledged_ctc
effect-shaped d e h =
    by-test Shape (is_x e) _ _ (λ _. refl)
    (λ _.
    by-test Shape (is_w e) _ _
    (λ _.
    by-test FourChannels (channel_at d e.a).awaits _ _ (λ _. set-shaped d e.a _ h)
    (λ _. by-test FourChannels (is_control e.b) _ _ (λ _. set-shaped d e.a _ h) (λ _. by-test FourChannels (eqb e.a 0) _ _ (λ _. h) (λ _. h))))
    (λ _.
    by-test Shape (is_r e) _ _ (λ _. h)
    (λ _.
    by-test Shape (is_p e) _ _ (λ _. refl)
    (λ _.
    by-test Shape (is_t e) _ _ (λ _. clocks-shaped e.a _ h)
    (λ _. by-test Shape (is_k e) _ _ (λ _. set-shaped d (requester_ctc d) _ h) (λ _. h))))))
  where
    Shape : CtcEffect → Type 0
    Shape r = FourChannels r.device

pub event-shaped : (d : Ctc) (e : Event) → FourChannels d → FourChannels (event_ctc d e).device
unfolding outcome_ctc
event-shaped d e h = ways d e (λ (o : Outcome Ctc CtcAnswer). FourChannels o.device) (λ _. h) (λ _. effect-shaped d e h) (λ _ _. h)

pub ended-shaped : (d : Ctc) → FourChannels d → FourChannels (end_of_service d).device
unfolding end_of_service outcome_ctc released_ctc
ended-shaped d h = by-test (λ (o : Outcome Ctc CtcAnswer). FourChannels o.device) (sound_ctc d) _ _ (λ _. set-shaped d (serving_ctc d) _ h) (λ _. h)

-- ---- any calls, one after the other
abbrev pub Good : Ctc → Type 0
Good d = FourChannels d × (sound_ctc d ≡ true)

pub call-good : (d : Ctc) (x : CtcCall) → Good d → Good (next_ctc d x)
call-good d (happens e) g = (event-shaped d e g.0, event-sound d e g.1)
call-good d ends g = (ended-shaped d g.0, ended-sound d g.1)

pub list-good : (d : Ctc) (l : List CtcCall) → Good d → Good (record_ctc d l)
list-good = list-kept next_ctc Good call-good

-- so from the fresh device no call comes to code 9
pub never-unsound : (l : List CtcCall) (x : CtcCall) → (call_ctc (record_ctc fresh_ctc l) x).answer.code ≡ 9 → ⊥
never-unsound l (happens e) n =
    let d = record_ctc fresh_ctc l in
    true≢false (sym (list-good fresh_ctc l (fresh-shaped, fresh-sound)).1 ∙ not_so (sound_ctc d) ((code-9 d e).0 (sym (code_is d e) ∙ n)))
never-unsound l ends n =
    let d = record_ctc fresh_ctc l in
    true≢false (sym (list-good fresh_ctc l (fresh-shaped, fresh-sound)).1 ∙ not_so (sound_ctc d) ((ended-9 d).0 n))
