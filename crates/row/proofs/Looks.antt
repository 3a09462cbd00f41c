-- The pass that looks finds whether the row is sound, how many devices there are, whether the device that the
-- event reaches came by, and its code.
-- Assumes nothing.
use Rattle.std.specs.Prelude.{if◌then◌else◌, ◌==◌}
use mathlib.Core.Path.{◌≡◌, refl, sym, ◌∙◌, ap, subst}
use Prim.Native.Nat.{ℕ, zero, suc, ◌+◌, ◌≤◌, ◌<◌}
use native.Mathlib.Omega.{arith}
use mathlib.Core.Bool.{Bool, true, false, not, ◌&&◌, ◌||◌, beq}
use mathlib.Core.Logic.{◌⊎◌, inl, inr}
use Rattle.std.proofs.Math.Bool.{and_assoc, and-true, and-false}
use mathlib.Core.List.{List, [], ◌∷◌}
use lib.Dec.{ltb, leb}
use lib.ListN.{length, get_or}
use borrow.Author.Tests.{ltb-true, ltb-false, eqb-true, eqb-false, lt-ltb, le-ltb, le-leb, lt-leb, eq-eqb, ne_eqb}
use Rattle.rules.specs.declared.Device.{Device}
use Rattle.rules.specs.declared.Event.{Event}
use Rattle.rules.specs.Record.{fresh_of}
use Rattle.rules.specs.Events.{is_k, code_of}
use Rattle.rules.specs.Sound.{sound_of}
use Rattle.rows.specs.declared.RowEvent.{RowEvent}
use Rattle.rows.specs.declared.RowAnswer.{RowAnswer}
use Rattle.rows.specs.Rows.{each_sound, chained, row_sound, names, first_requesting, reached, misfits, past_end, row_code, dark_answer}
use Rattle.row_visit.specs.declared.Pass.{Pass}
use Rattle.row_visit.specs.Visits.{to_of, pass_begun, here_of, one_fewer, next_place, onward, looking_of, follows_of, code_seen, looked_of, refused_of, verdict_of}
use Rattle.row.specs.Passes.{look_along}

-- ---- tests
-- a test comes out one way or the other
pub either : (b : Bool) → (b ≡ true) ⊎ (b ≡ false)
either true = inl refl
either false = inr refl

cross : (a b c d : Bool) → ((a && b) && (c && d)) ≡ ((a && c) && (b && d))
cross true true c d = refl
cross true false c d = sym (and-false c)
cross false b c d = refl

ltb-suc : (a b : ℕ) → ltb a b ≡ ltb (suc a) (suc b)
ltb-suc a b = by-test (either (ltb a b))
  where
    by-test : (ltb a b ≡ true) ⊎ (ltb a b ≡ false) → ltb a b ≡ ltb (suc a) (suc b)
    by-test (inl h) = let l = ltb-true a b h in h ∙ sym (lt-ltb (suc a) (suc b) (omega arith))
    by-test (inr h) = let l = ltb-false a b h in h ∙ sym (le-ltb (suc a) (suc b) (omega arith))

-- ---- the pass that looks, at some place
abbrev pub look_at : RowEvent → ℕ → Bool → ℕ → Bool → Bool → RowAnswer → Pass
look_at e t f p h o a = record { event = e; acts = false; shows = false; to = t; found = f; place = p; high = h; sound = o; answer = a }

look-event : (ds : List Device) (e : RowEvent) (t : ℕ) (f : Bool) (p : ℕ) (h o : Bool) (a : RowAnswer) → (look_along ds (look_at e t f p h o a)).event ≡ e
unfolding looked_of onward
look-event [] e t f p h o a = refl
look-event (d ∷ ds) e t f p h o a = look-event ds e _ _ _ _ _ _

-- ---- soundness
sound_from : ℕ → Bool → List Device → Bool
sound_from p h [] = true
sound_from p h (d ∷ ds) = (sound_of d && (p == 0 || beq d.iei h)) && sound_from (next_place p) d.lines.ieo ds

look-sound : (ds : List Device) (e : RowEvent) (t : ℕ) (f : Bool) (p : ℕ) (h o : Bool) (a : RowAnswer) → (look_along ds (look_at e t f p h o a)).sound ≡ (o && sound_from p h ds)
unfolding looked_of onward follows_of sound_from
look-sound [] e t f p h o a = sym (and-true o)
look-sound (d ∷ ds) e t f p h o a = look-sound ds e _ _ _ _ _ _ ∙ and_assoc o _ _

next-some : (p : ℕ) → next_place p ≡ 0 → ⊥
unfolding next_place
next-some p z = by-test (either (ltb p 9))
  where
    by-test : (ltb p 9 ≡ true) ⊎ (ltb p 9 ≡ false) → ⊥
    by-test (inl h) = let s = sym (ap (λ (b : Bool). if b then suc p else p) h) ∙ z in omega arith
    by-test (inr h) = let s = sym (ap (λ (b : Bool). if b then suc p else p) h) ∙ z in let l = ltb-false p 9 h in omega arith

later-sound : (x : Device) (ds : List Device) (p : ℕ) → (p ≡ 0 → ⊥) → sound_from p x.lines.ieo ds ≡ (each_sound ds && chained (x ∷ ds))
unfolding sound_from each_sound chained
later-sound x [] p some = refl
later-sound x (d ∷ ds) p some =
    ap (λ (b : Bool). (sound_of d && (b || beq d.iei x.lines.ieo)) && sound_from (next_place p) d.lines.ieo ds) (ne_eqb p 0 some)
    ∙ ap (λ (b : Bool). (sound_of d && beq d.iei x.lines.ieo) && b) (later-sound d ds (next_place p) (next-some p)) ∙ cross (sound_of d) _ (each_sound ds) _

whole-sound : (ds : List Device) (h : Bool) → sound_from 0 h ds ≡ row_sound ds
unfolding sound_from row_sound each_sound chained
whole-sound [] h = refl
whole-sound (d ∷ ds) h =
    ap (λ (b : Bool). (sound_of d && true) && b) (later-sound d ds (next_place 0) (next-some 0)) ∙ ap (λ (b : Bool). b && (each_sound ds && chained (d ∷ ds))) (and-true (sound_of d))
    ∙ sym (and_assoc (sound_of d) (each_sound ds) (chained (d ∷ ds)))

-- ---- how many devices
pub counted : ℕ → List Device → ℕ
counted p [] = p
counted p (d ∷ ds) = counted (next_place p) ds

look-place : (ds : List Device) (e : RowEvent) (t : ℕ) (f : Bool) (p : ℕ) (h o : Bool) (a : RowAnswer) → (look_along ds (look_at e t f p h o a)).place ≡ counted p ds
unfolding looked_of onward counted
look-place [] e t f p h o a = refl
look-place (d ∷ ds) e t f p h o a = look-place ds e _ _ _ _ _ _

pub next-below : (p : ℕ) → p < 9 → next_place p ≡ suc p
unfolding next_place
next-below p l = ap (λ (b : Bool). if b then suc p else p) (lt-ltb p 9 l)

-- either all are counted, or there are nine and more
Count : ℕ → ℕ → ℕ → Type 0
Count c p n = ((c ≡ p + n) × (p + n ≤ 9)) ⊎ ((c ≡ 9) × (9 ≤ p + n))

count-below : (ds : List Device) (p : ℕ) → p < 9 → Count (counted (suc p) ds) (suc p) (length ds) → Count (counted (next_place p) ds) p (suc (length ds))
unfolding Count
count-below ds p b (inl c) = inl (ap (λ (m : ℕ). counted m ds) (next-below p b) ∙ c.0 ∙ (omega arith), omega (arith, c.1))
count-below ds p b (inr c) = inr (ap (λ (m : ℕ). counted m ds) (next-below p b) ∙ c.0, omega (arith, c.1))

count-above : (ds : List Device) (p : ℕ) → p ≡ 9 → Count (counted 9 ds) 9 (length ds) → Count (counted (next_place 9) ds) p (suc (length ds))
unfolding Count next_place
count-above ds p z (inl c) = inr (c.0 ∙ (omega (arith, c.1)), omega arith)
count-above ds p z (inr c) = inr (c.0, omega arith)

count : (ds : List Device) (p : ℕ) → p ≤ 9 → Count (counted p ds) p (length ds)
unfolding Count counted
count [] p l = inl (omega arith, omega arith)
count (d ∷ ds) p l = by-test (either (ltb p 9)) (count ds)
  where
    by-test : (ltb p 9 ≡ true) ⊎ (ltb p 9 ≡ false) → ((m : ℕ) → m ≤ 9 → Count (counted m ds) m (length ds)) → Count (counted (next_place p) ds) p (suc (length ds))
    by-test (inl h) more = count-below ds p (ltb-true p 9 h) (more (suc p) (ltb-true p 9 h))
    by-test (inr h) more =
        let m = ltb-false p 9 h in
        let z : p ≡ 9 = omega arith in
        subst (λ (k : ℕ). Count (counted (next_place k) ds) p (suc (length ds))) (sym z) (count-above ds p z (more 9 (omega arith)))

count_none : (ds : List Device) → (counted 0 ds == 0) ≡ (length ds == 0)
unfolding Count
count_none ds = by_count (count ds 0 (omega arith))
  where
    by_count : Count (counted 0 ds) 0 (length ds) → (counted 0 ds == 0) ≡ (length ds == 0)
    by_count (inl c) = ap (λ (n : ℕ). n == 0) {x = counted 0 ds} {y = length ds} (omega (arith, c.0))
    by_count (inr c) = ap (λ (n : ℕ). n == 0) c.0 ∙ sym (ne_eqb (length ds) 0 (λ z. omega (arith, c.1)))

pub count-over : (ds : List Device) → ltb 8 (counted 0 ds) ≡ ltb 8 (length ds)
unfolding Count
count-over ds = by_count (count ds 0 (omega arith))
  where
    by_count : Count (counted 0 ds) 0 (length ds) → ltb 8 (counted 0 ds) ≡ ltb 8 (length ds)
    by_count (inl c) = ap (ltb 8) {x = counted 0 ds} {y = length ds} (omega (arith, c.0))
    by_count (inr c) = ap (ltb 8) c.0 ∙ sym (lt-ltb 8 (length ds) (omega (arith, c.1)))

-- ---- the device that the event reaches
-- how many devices come before it
unfoldable pub goal : Bool → ℕ → List Device → ℕ
goal k t ds = if k then first_requesting ds else t

-- the event reaches this device, where it has not reached one before
abbrev pub hits : Bool → ℕ → Device → Bool
hits k t d = if k then d.lines.int else t == 0

-- it is this one, or a later one
unfoldable pub Step : Bool → ℕ → Device → List Device → Type 0
Step k t d ds = ((hits k t d ≡ true) × (goal k t (d ∷ ds) ≡ 0)) ⊎ ((hits k t d ≡ false) × (goal k t (d ∷ ds) ≡ suc (goal k (one_fewer t) ds)))

pub step : (k : Bool) (t : ℕ) (d : Device) (ds : List Device) → Step k t d ds
unfolding Step goal first_requesting one_fewer
step true t d ds = by-test (either d.lines.int)
  where
    by-test : (d.lines.int ≡ true) ⊎ (d.lines.int ≡ false) → Step true t d ds
    by-test (inl h) = inl (h, ap (λ (b : Bool). if b then 0 else suc (first_requesting ds)) h)
    by-test (inr h) = inr (h, ap (λ (b : Bool). if b then 0 else suc (first_requesting ds)) h)
step false zero d ds = inl (refl, refl)
step false (suc t) d ds = inr (ne_eqb (suc t) 0 (λ z. omega arith), refl)

-- the event reaches it in the pass
here-is : (k : Bool) (t : ℕ) (f : Bool) (d : Device) → (if k then not f && d.lines.int else not f && t == 0) ≡ (not f && hits k t d)
here-is true t f d = refl
here-is false t f d = refl

look-found-kept : (ds : List Device) (e : RowEvent) (t p : ℕ) (h o : Bool) (a : RowAnswer) → (look_along ds (look_at e t true p h o a)).found ≡ true
unfolding looked_of onward
look-found-kept [] e t p h o a = refl
look-found-kept (d ∷ ds) e t p h o a = look-found-kept ds e _ _ _ _ _

look-code-kept : (ds : List Device) (e : RowEvent) (t p : ℕ) (h o : Bool) (a : RowAnswer) → (look_along ds (look_at e t true p h o a)).answer.code ≡ a.code
unfolding looked_of onward here_of code_seen
look-code-kept [] e t p h o a = refl
look-code-kept (d ∷ ds) e t p h o a =
    look-code-kept ds e _ _ _ _ _ ∙ ap (λ (b : Bool). if b then code_of d e.event else a.code) (here-is (is_k e.event) t true d)

-- the pass after a device, which the event reaches or not
abbrev look_next : RowEvent → ℕ → ℕ → Bool → Bool → RowAnswer → Device → Bool → Pass
look_next e t p h o a d b =
    look_at e (one_fewer t) b (next_place p) d.lines.ieo (o && follows_of d (look_at e t false p h o a)) (dark_answer (code_seen b d (look_at e t false p h o a)))

-- whether one came by that the event reaches
look-found : (ds : List Device) (e : RowEvent) (t p : ℕ) (h o : Bool) (a : RowAnswer) → (look_along ds (look_at e t false p h o a)).found ≡ ltb (goal (is_k e.event) t ds) (length ds)
unfolding looked_of onward here_of Step
look-found [] e t p h o a = sym (le-ltb (goal (is_k e.event) t []) 0 (omega arith))
look-found (d ∷ ds) e t p h o a = by-step (step (is_k e.event) t d ds) (look-found ds e _ _ _ _ _)
  where
    by-step : Step (is_k e.event) t d ds → (look_along ds (look_next e t p h o a d false)).found ≡ ltb (goal (is_k e.event) (one_fewer t) ds) (length ds)
        → (look_along (d ∷ ds) (look_at e t false p h o a)).found ≡ ltb (goal (is_k e.event) t (d ∷ ds)) (suc (length ds))
    by-step (inl s) later =
        ap (λ (b : Bool). (look_along ds (look_next e t p h o a d b)).found) s.0 ∙ look-found-kept ds e _ _ _ _ _
        ∙ sym (ap (λ (g : ℕ). ltb g (suc (length ds))) s.1 ∙ lt-ltb 0 (suc (length ds)) (omega arith))
    by-step (inr s) later =
        ap (λ (b : Bool). (look_along ds (look_next e t p h o a d b)).found) s.0 ∙ later ∙ ltb-suc _ (length ds) ∙ sym (ap (λ (g : ℕ). ltb g (suc (length ds))) s.1)

-- and its code
look-code : (ds : List Device) (e : RowEvent) (t p : ℕ) (h o : Bool) (a : RowAnswer) → goal (is_k e.event) t ds < length ds
    → (look_along ds (look_at e t false p h o a)).answer.code ≡ code_of (get_or ds (goal (is_k e.event) t ds) fresh_of) e.event
unfolding looked_of onward here_of code_seen Step
look-code [] e t p h o a l = absurd (omega (arith, l))
look-code (d ∷ ds) e t p h o a l = by-step (step (is_k e.event) t d ds) (look-code ds e (one_fewer t) _ _ _ _)
  where
    by-step : Step (is_k e.event) t d ds
        → (goal (is_k e.event) (one_fewer t) ds < length ds → (look_along ds (look_next e t p h o a d false)).answer.code ≡ code_of (get_or ds (goal (is_k e.event) (one_fewer t) ds) fresh_of) e.event)
        → (look_along (d ∷ ds) (look_at e t false p h o a)).answer.code ≡ code_of (get_or (d ∷ ds) (goal (is_k e.event) t (d ∷ ds)) fresh_of) e.event
    by-step (inl s) later =
        ap (λ (b : Bool). (look_along ds (look_next e t p h o a d b)).answer.code) s.0 ∙ look-code-kept ds e _ _ _ _ _
        ∙ sym (ap (λ (g : ℕ). code_of (get_or (d ∷ ds) g fresh_of) e.event) s.1)
    by-step (inr s) later =
        ap (λ (b : Bool). (look_along ds (look_next e t p h o a d b)).answer.code) s.0 ∙ later (omega (arith, l, s.1))
        ∙ sym (ap (λ (g : ℕ). code_of (get_or (d ∷ ds) g fresh_of) e.event) s.1)

-- ---- the code
-- K names no device
k-names : (e : Event) → is_k e ≡ true → names e ≡ false
unfolding names
k-names e h = ap (λ (n : ℕ). n == 1 || n == 2 || n == 3 || n == 0) (eqb-true e.kind 5 h)

-- so it is the one that is named, the first that requests, or the first
pub reached-goal : (ds : List Device) (e : RowEvent) → reached ds e ≡ goal (is_k e.event) (to_of e) ds
unfolding reached goal to_of
reached-goal ds e = by-test (either (is_k e.event))
  where
    by-test : (is_k e.event ≡ true) ⊎ (is_k e.event ≡ false) → reached ds e ≡ goal (is_k e.event) (to_of e) ds
    by-test (inl h) = simp (h, k-names e.event h)
    by-test (inr h) = simp (h)

-- K finds its device in the row, or it is past the end
first-le : (ds : List Device) → first_requesting ds ≤ length ds
unfolding first_requesting
first-le [] = omega arith
first-le (d ∷ ds) = by-test (either d.lines.int) (first-le ds)
  where
    by-test : (d.lines.int ≡ true) ⊎ (d.lines.int ≡ false) → first_requesting ds ≤ length ds → first_requesting (d ∷ ds) ≤ suc (length ds)
    by-test (inl h) l = let z = ap (λ (b : Bool). if b then 0 else suc (first_requesting ds)) h in omega arith
    by-test (inr h) l = let z = ap (λ (b : Bool). if b then 0 else suc (first_requesting ds)) h in omega arith

-- what is not before is at or after
not-before : (g n : ℕ) → leb n g ≡ not (ltb g n)
not-before g n = by-test (either (ltb g n))
  where
    by-test : (ltb g n ≡ true) ⊎ (ltb g n ≡ false) → leb n g ≡ not (ltb g n)
    by-test (inl h) = lt-leb n g (ltb-true g n h) ∙ sym (ap not h)
    by-test (inr h) = le-leb n g (ltb-false g n h) ∙ sym (ap not h)

not_within : (g n : ℕ) → g ≤ n → (g == n) ≡ not (ltb g n)
not_within g n l = by-test (either (ltb g n))
  where
    by-test : (ltb g n ≡ true) ⊎ (ltb g n ≡ false) → (g == n) ≡ not (ltb g n)
    by-test (inl h) = let m = ltb-true g n h in ne_eqb g n (λ z. omega arith) ∙ sym (ap not h)
    by-test (inr h) = let m = ltb-false g n h in eq-eqb g n (omega arith) ∙ sym (ap not h)

goal-le : (ds : List Device) (t : ℕ) → goal true t ds ≤ length ds
unfolding goal
goal-le ds t = first-le ds

past_is : (ds : List Device) (e : RowEvent) → past_end ds e ≡ (names e.event && not (ltb (goal (is_k e.event) (to_of e) ds) (length ds)))
unfolding past_end goal to_of
past_is ds e = by-test (either (is_k e.event)) (either (names e.event))
  where
    by-test : (is_k e.event ≡ true) ⊎ (is_k e.event ≡ false) → (names e.event ≡ true) ⊎ (names e.event ≡ false)
        → past_end ds e ≡ (names e.event && not (ltb (goal (is_k e.event) (to_of e) ds) (length ds)))
    by-test (inl h) n = simp (k-names e.event h)
    by-test (inr h) (inl n) = simp (h, n) (not-before e.device (length ds))
    by-test (inr h) (inr n) = simp (n)

six-is : (ds : List Device) (e : RowEvent) → (is_k e.event && reached ds e == length ds) ≡ (is_k e.event && not (ltb (goal (is_k e.event) (to_of e) ds) (length ds)))
six-is ds e = ap (λ (g : ℕ). is_k e.event && g == length ds) (reached-goal ds e) ∙ by-test (is_k e.event)
  where
    by-test : (k : Bool) → (k && goal k (to_of e) ds == length ds) ≡ (k && not (ltb (goal k (to_of e) ds) (length ds)))
    by-test true = within
      where
        within : (goal true (to_of e) ds == length ds) ≡ not (ltb (goal true (to_of e) ds) (length ds))
        within = not_within (goal true (to_of e) ds) (length ds) (goal-le ds (to_of e))
    by-test false = refl

-- the code as the tests say it
decide : Bool → Bool → Bool → Bool → Bool → Bool → ℕ → ℕ
decide sound none over named k found code =
    if not sound then 9 else
    if none || over || (named && not found) then 13 else
    if k && not found then 6 else
    code

-- where none came by that the event reaches, its code is not asked for
unasked : (sound over : Bool) (n : ℕ) (named k : Bool) (g : ℕ) (c c' : ℕ) → ltb g n ≡ false → (named ≡ false → k ≡ false → g ≡ 0)
    → decide sound (n == 0) over named k false c ≡ decide sound (n == 0) over named k false c'
unfolding decide
unasked false over n named k g c c' l z = refl
unasked true over n named k g c c' l z = by-test (either (n == 0)) named k z
  where
    by-test : ((n == 0) ≡ true) ⊎ ((n == 0) ≡ false) → (named k : Bool) → (named ≡ false → k ≡ false → g ≡ 0) → decide true (n == 0) over named k false c ≡ decide true (n == 0) over named k false c'
    by-test (inl h) named k z = simp (h)
    by-test (inr h) true k z = or-true (n == 0) over
      where
        or-true : (a b : Bool) → decide true a b true k false c ≡ decide true a b true k false c'
        or-true true b = refl
        or-true false true = refl
        or-true false false = refl
    by-test (inr h) false true z = some (n == 0) over
      where
        some : (a b : Bool) → decide true a b false true false c ≡ decide true a b false true false c'
        some true b = refl
        some false true = refl
        some false false = refl
    by-test (inr h) false false z = let m = z refl refl in let q = ltb-false g n l in absurd (eqb-false n 0 h (omega arith))

or_assoc : (a b c : Bool) → ((a || b) || c) ≡ (a || b || c)
or_assoc true true c = refl
or_assoc true false c = refl
or_assoc false true c = refl
or_assoc false false c = refl

-- what a pass says, by its parts
by_parts : (s : Pass) (e : RowEvent) (o none over f : Bool) → s.event ≡ e → s.sound ≡ o → (s.place == 0) ≡ none → ltb 8 s.place ≡ over → s.found ≡ f
    → verdict_of s ≡ decide o none over (names e.event) (is_k e.event) f s.answer.code
unfolding verdict_of refused_of decide
by_parts s e o none over f same-event same-sound same_None same_over same-found = simp (same-event, same-sound, same_None, same_over, same-found)

code_is : (ds : List Device) (e : RowEvent)
    → row_code ds e ≡ decide (row_sound ds) (length ds == 0) (ltb 8 (length ds)) (names e.event) (is_k e.event) (ltb (goal (is_k e.event) (to_of e) ds) (length ds))
    (code_of (get_or ds (goal (is_k e.event) (to_of e) ds) fresh_of) e.event)
unfolding row_code decide misfits
code_is ds e =
    ap (λ (b : Bool). shape b (is_k e.event && reached ds e == length ds) (reached ds e)) (ap (λ (b : Bool). misfits ds || b) (past_is ds e)
    ∙ or_assoc (length ds == 0) (ltb 8 (length ds)) (names e.event && not (ltb (goal (is_k e.event) (to_of e) ds) (length ds))))
    ∙ ap (λ (b : Bool). shape late b (reached ds e)) (six-is ds e) ∙ ap (λ (g : ℕ). shape late six g) (reached-goal ds e)
  where
    shape : Bool → Bool → ℕ → ℕ
    shape b c g = if not (row_sound ds) then 9 else if b then 13 else if c then 6 else code_of (get_or ds g fresh_of) e.event

    late : Bool
    late = length ds == 0 || ltb 8 (length ds) || (names e.event && not (ltb (goal (is_k e.event) (to_of e) ds) (length ds)))

    six : Bool
    six = is_k e.event && not (ltb (goal (is_k e.event) (to_of e) ds) (length ds))

-- with no device named and no K it is the first
goal-zero : (ds : List Device) (e : RowEvent) → names e.event ≡ false → is_k e.event ≡ false → goal (is_k e.event) (to_of e) ds ≡ 0
unfolding goal to_of
goal-zero ds e n k = simp (n, k)

pub verdict-is : (ds : List Device) (e : RowEvent) → verdict_of (look_along ds (looking_of e)) ≡ row_code ds e
unfolding looking_of pass_begun
verdict-is ds e = said ∙ by-test (either (ltb g (length ds))) ∙ sym (code_is ds e)
  where
    g : ℕ
    g = goal (is_k e.event) (to_of e) ds

    seen : ℕ
    seen = (look_along ds (look_at e (to_of e) false 0 true true (dark_answer 0))).answer.code

    said : verdict_of (look_along ds (look_at e (to_of e) false 0 true true (dark_answer 0)))
        ≡ decide (row_sound ds) (length ds == 0) (ltb 8 (length ds)) (names e.event) (is_k e.event) (ltb g (length ds)) seen
    said = by_parts _ e _ _ _ _ (look-event ds e _ _ _ _ _ _) (look-sound ds e _ _ _ _ _ _ ∙ whole-sound ds true)
        (ap (λ (n : ℕ). n == 0) (look-place ds e _ _ _ _ _ _) ∙ count_none ds) (ap (ltb 8) (look-place ds e _ _ _ _ _ _) ∙ count-over ds) (look-found ds e _ _ _ _ _)

    by-test : (ltb g (length ds) ≡ true) ⊎ (ltb g (length ds) ≡ false)
        → decide (row_sound ds) (length ds == 0) (ltb 8 (length ds)) (names e.event) (is_k e.event) (ltb g (length ds)) seen
        ≡ decide (row_sound ds) (length ds == 0) (ltb 8 (length ds)) (names e.event) (is_k e.event) (ltb g (length ds)) (code_of (get_or ds g fresh_of) e.event)
    by-test (inl h) =
        ap (decide (row_sound ds) (length ds == 0) (ltb 8 (length ds)) (names e.event) (is_k e.event) (ltb g (length ds))) (look-code ds e _ _ _ _ _ (ltb-true g (length ds) h))
    by-test (inr h) =
        ap (λ (f : Bool). decide (row_sound ds) (length ds == 0) (ltb 8 (length ds)) (names e.event) (is_k e.event) f seen) h
        ∙ unasked (row_sound ds) (ltb 8 (length ds)) (length ds) (names e.event) (is_k e.event) g seen _ h (goal-zero ds e)
        ∙ sym (ap (λ (f : Bool). decide (row_sound ds) (length ds == 0) (ltb 8 (length ds)) (names e.event) (is_k e.event) f (code_of (get_or ds g fresh_of) e.event)) h)

-- and how the pass ends otherwise
pub look-event-is : (ds : List Device) (e : RowEvent) → (look_along ds (looking_of e)).event ≡ e
unfolding looking_of pass_begun
look-event-is ds e = look-event ds e _ _ _ _ _ _

pub look-over-is : (ds : List Device) (e : RowEvent) → ltb 8 (look_along ds (looking_of e)).place ≡ ltb 8 (length ds)
unfolding looking_of pass_begun
look-over-is ds e = ap (ltb 8) (look-place ds e _ _ _ _ _ _) ∙ count-over ds
