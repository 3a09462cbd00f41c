-- The pass that acts, or that only shows the row: what it does to the devices and puts into the answer, device by device.
-- Assumes nothing.
use Rattle.std.specs.Prelude.{if◌then◌else◌, ◌==◌}
use mathlib.Core.Path.{◌≡◌, refl, sym, ◌∙◌, ap}
use Prim.Native.Nat.{ℕ, suc, ◌+◌, ◌≤◌, ◌<◌}
use native.Mathlib.Omega.{arith}
use mathlib.Core.Bool.{Bool, true, false, not, ◌&&◌, ◌||◌}
use mathlib.Core.Logic.{inl, inr}
use mathlib.Core.List.{List, [], ◌∷◌, map}
use lib.Dec.{ltb}
use lib.ListN.{length, get_or, set}
use borrow.Author.Tests.{lt-ltb, eq-eqb, ne_eqb}
use Rattle.rules.specs.declared.Device.{Device}
use Rattle.rules.specs.declared.Effect.{Effect}
use Rattle.rules.specs.Record.{fresh_of}
use Rattle.rules.specs.Events.{is_t, is_k, effect}
use Rattle.rows.specs.declared.RowEvent.{RowEvent}
use Rattle.rows.specs.declared.RowAnswer.{RowAnswer}
use Rattle.rows.specs.declared.Shown.{Shown}
use Rattle.rows.specs.Rows.{part_of, along_row, shown_of, eight_of}
use Rattle.row_visit.specs.declared.Pass.{Pass}
use Rattle.row_visit.specs.Visits.{here_of, one_fewer, next_place, onward, does_of, parted_of, shows_at, filled_of, acted_of}
use Rattle.row.specs.Passes.{pass_along, row_along}
use Rattle.row.proofs.Looks.{next-below, goal, Step, step}

-- the second pass, at some place
abbrev pub act_at : RowEvent → Bool → Bool → ℕ → Bool → ℕ → Bool → Bool → RowAnswer → Pass
act_at e acts shows t f p h o a = record { event = e; acts = acts; shows = shows; to = t; found = f; place = p; high = h; sound = o; answer = a }

abbrev answer : ℕ → ℕ → List Shown → RowAnswer
answer c v l = record { code = c; value = v; devices = l }

-- ---- a pass that does not act
pub rest-row : (ds : List Device) (e : RowEvent) (sh : Bool) (t : ℕ) (f : Bool) (p : ℕ) (h o : Bool) (a : RowAnswer) → row_along ds (act_at e false sh t f p h o a) ≡ ds
unfolding acted_of onward parted_of
rest-row [] e sh t f p h o a = refl
rest-row (d ∷ ds) e sh t f p h o a = ap {B = List Device} (λ l. d ∷ l) (rest-row ds e sh _ _ _ _ _ _)

nothing-taken : (b : Bool) → ◌≡◌ {A = ℕ} (if b then 0 else 0) 0
nothing-taken true = refl
nothing-taken false = refl

pub rest-answer : (ds : List Device) (e : RowEvent) (t : ℕ) (f : Bool) (p : ℕ) (h o : Bool) (c : ℕ) (l : List Shown)
    → (pass_along ds (act_at e false false t f p h o (answer c 0 l))).answer ≡ answer c 0 l
unfolding acted_of onward parted_of filled_of shows_at
rest-answer [] e t f p h o c l = refl
rest-answer (d ∷ ds) e t f p h o c l =
    ap (λ (v : ℕ). (pass_along ds (act_at e false false (one_fewer t) (f || here_of d (act_at e false false t f p h o (answer c 0 l))) (next_place p) d.lines.ieo o (answer c v l))).answer)
    (nothing-taken (here_of d (act_at e false false t f p h o (answer c 0 l)))) ∙ rest-answer ds e _ _ _ _ _ c l

-- ---- the answer's places, filled from one on
unfoldable pub placed : List Shown → ℕ → List Shown → List Shown
placed l p [] = l
placed l p (x ∷ xs) = placed (set l p x) (suc p) xs

pub show-answer : (ds : List Device) (e : RowEvent) (t : ℕ) (f : Bool) (p : ℕ) (h o : Bool) (c : ℕ) (l : List Shown) → p + length ds ≤ 8
    → (pass_along ds (act_at e false true t f p h o (answer c 0 l))).answer ≡ answer c 0 (placed l p (map (λ d. shown_of (effect d 0)) ds))
unfolding acted_of onward parted_of filled_of shows_at placed
show-answer [] e t f p h o c l m = refl
show-answer (d ∷ ds) e t f p h o c l m =
    ap (λ (v : ℕ). (pass_along ds (act_at e false true (one_fewer t) (f || here) (next_place p) d.lines.ieo o
    (answer c v (if ltb p 8 then set l p (shown_of (effect d 0)) else l)))).answer) (nothing-taken here)
    ∙ ap (λ (b : Bool). (pass_along ds (act_at e false true (one_fewer t) (f || here) (next_place p) d.lines.ieo o
    (answer c 0 (if b then set l p (shown_of (effect d 0)) else l)))).answer) (lt-ltb p 8 (omega (arith, m)))
    ∙ ap (λ (n : ℕ). (pass_along ds (act_at e false true (one_fewer t) (f || here) n d.lines.ieo o
    (answer c 0 (set l p (shown_of (effect d 0)))))).answer) (next-below p (omega (arith, m)))
    ∙ show-answer ds e _ _ (suc p) _ _ c (set l p (shown_of (effect d 0))) (omega (arith, m))
  where
    here : Bool
    here = here_of d (act_at e false true t f p h o (answer c 0 l))

-- ---- the pass that acts
-- the event reaches a device, where it has reached one before or not
abbrev reaches_here : Bool → ℕ → Bool → Device → Bool
reaches_here k t f d = if k then not f && d.lines.int else not f && t == 0

reached-before : (k : Bool) (t : ℕ) (d : Device) → reaches_here k t true d ≡ false
reached-before true t d = refl
reached-before false t d = refl

-- what becomes of each device
unfoldable pub effects_from : RowEvent → ℕ → Bool → ℕ → Bool → List Device → List Effect
effects_from e t f p h [] = []
effects_from e t f p h (d ∷ ds) =
    let r = part_of (is_t e.event || reaches_here (is_k e.event) t f d) e.event p h d in
    r ∷ effects_from e (one_fewer t) (f || reaches_here (is_k e.event) t f d) (suc p) r.device.lines.ieo ds

-- and the value
value_from : RowEvent → ℕ → Bool → ℕ → Bool → List Device → ℕ → ℕ
value_from e t f p h [] v = v
value_from e t f p h (d ∷ ds) v =
    let r = part_of (is_t e.event || reaches_here (is_k e.event) t f d) e.event p h d in
    value_from e (one_fewer t) (f || reaches_here (is_k e.event) t f d) (suc p) r.device.lines.ieo ds (if reaches_here (is_k e.event) t f d then r.value else v)

pub act-row : (ds : List Device) (e : RowEvent) (sh : Bool) (t : ℕ) (f : Bool) (p : ℕ) (h o : Bool) (a : RowAnswer) → p + length ds ≤ 8
    → row_along ds (act_at e true sh t f p h o a) ≡ map (λ r. r.device) (effects_from e t f p h ds)
unfolding acted_of onward parted_of does_of here_of effects_from
act-row [] e sh t f p h o a m = refl
act-row (d ∷ ds) e sh t f p h o a m =
    ap (λ (n : ℕ). r.device ∷ row_along ds (act_at e true sh (one_fewer t) (f || hit) n r.device.lines.ieo o (filled_of hit s r))) (next-below p (omega (arith, m)))
    ∙ ap {B = List Device} (λ l. r.device ∷ l) (act-row ds e sh _ _ (suc p) _ _ _ (omega (arith, m)))
  where
    s : Pass
    s = act_at e true sh t f p h o a

    hit : Bool
    hit = reaches_here (is_k e.event) t f d

    r : Effect
    r = part_of (is_t e.event || hit) e.event p h d

act-answer : (ds : List Device) (e : RowEvent) (t : ℕ) (f : Bool) (p : ℕ) (h o : Bool) (c v : ℕ) (l : List Shown) → p + length ds ≤ 8
    → (pass_along ds (act_at e true true t f p h o (answer c v l))).answer ≡ answer c (value_from e t f p h ds v) (placed l p (map shown_of (effects_from e t f p h ds)))
unfolding acted_of onward parted_of does_of here_of filled_of shows_at placed effects_from value_from
act-answer [] e t f p h o c v l m = refl
act-answer (d ∷ ds) e t f p h o c v l m =
    ap (λ (b : Bool). (pass_along ds (act_at e true true (one_fewer t) (f || hit) (next_place p) r.device.lines.ieo o
    (answer c (if hit then r.value else v) (if b then set l p (shown_of r) else l)))).answer) (lt-ltb p 8 (omega (arith, m)))
    ∙ ap (λ (n : ℕ). (pass_along ds (act_at e true true (one_fewer t) (f || hit) n r.device.lines.ieo o
    (answer c (if hit then r.value else v) (set l p (shown_of r))))).answer) (next-below p (omega (arith, m)))
    ∙ act-answer ds e _ _ (suc p) _ _ c _ (set l p (shown_of r)) (omega (arith, m))
  where
    hit : Bool
    hit = reaches_here (is_k e.event) t f d

    r : Effect
    r = part_of (is_t e.event || hit) e.event p h d

-- ---- whom it reaches
along-kept : (ds : List Device) (e : RowEvent) (w t p : ℕ) (h : Bool) → w < p → along_row (λ j. is_t e.event || j == w) e.event p h ds ≡ effects_from e t true p h ds
unfolding along_row effects_from
along-kept [] e w t p h l = refl
along-kept (d ∷ ds) e w t p h l =
    ap (λ (b : Bool). through (is_t e.event || b)) (ne_eqb p w (λ z. omega (arith, l)) ∙ sym (reached-before (is_k e.event) t d))
    ∙ ap (λ (x : List Effect). part_of (is_t e.event || reaches_here (is_k e.event) t true d) e.event p h d ∷ x) (along-kept ds e w (one_fewer t) (suc p) _ (omega (arith, l)))
  where
    through : Bool → List Effect
    through b = part_of b e.event p h d ∷ along_row (λ j. is_t e.event || j == w) e.event (suc p) (part_of b e.event p h d).device.lines.ieo ds

pub along-is : (ds : List Device) (e : RowEvent) (w t p : ℕ) (h : Bool) → w ≡ p + goal (is_k e.event) t ds → along_row (λ j. is_t e.event || j == w) e.event p h ds ≡ effects_from e t false p h ds
unfolding along_row effects_from Step
along-is [] e w t p h z = refl
along-is (d ∷ ds) e w t p h z = by-step (step (is_k e.event) t d ds) (λ x. along-is ds e w (one_fewer t) (suc p) x)
  where
    through : Bool → List Effect
    through b = part_of b e.event p h d ∷ along_row (λ j. is_t e.event || j == w) e.event (suc p) (part_of b e.event p h d).device.lines.ieo ds

    onwards : Bool → List Effect
    onwards b = part_of (is_t e.event || b) e.event p h d ∷ effects_from e (one_fewer t) b (suc p) (part_of (is_t e.event || b) e.event p h d).device.lines.ieo ds

    by-step : Step (is_k e.event) t d ds
        → ((x : Bool) → w ≡ suc p + goal (is_k e.event) (one_fewer t) ds → along_row (λ j. is_t e.event || j == w) e.event (suc p) x ds ≡ effects_from e (one_fewer t) false (suc p) x ds)
        → through (is_t e.event || p == w) ≡ onwards (reaches_here (is_k e.event) t false d)
    by-step (inl s) later =
        ap (λ (b : Bool). through (is_t e.event || b)) (eq-eqb p w (omega (arith, z, s.1)))
        ∙ ap (λ (x : List Effect). part_of (is_t e.event || true) e.event p h d ∷ x) (along-kept ds e w (one_fewer t) (suc p) _ (omega (arith, z, s.1)))
        ∙ sym (ap onwards s.0)
    by-step (inr s) later =
        ap (λ (b : Bool). through (is_t e.event || b)) (ne_eqb p w (λ q. omega (arith, z, s.1)))
        ∙ ap (λ (x : List Effect). part_of (is_t e.event || false) e.event p h d ∷ x) (later _ (omega (arith, z, s.1)))
        ∙ sym (ap onwards s.0)

-- ---- the value is that of the one reached
value-kept : (ds : List Device) (e : RowEvent) (t p : ℕ) (h : Bool) (v : ℕ) → value_from e t true p h ds v ≡ v
unfolding value_from
value-kept [] e t p h v = refl
value-kept (d ∷ ds) e t p h v =
    value-kept ds e _ _ _ _ ∙ ap (λ (b : Bool). if b then (part_of (is_t e.event || reaches_here (is_k e.event) t true d) e.event p h d).value else v) (reached-before (is_k e.event) t d)

value-is : (ds : List Device) (e : RowEvent) (t p : ℕ) (h : Bool)
    → value_from e t false p h ds 0 ≡ (get_or (effects_from e t false p h ds) (goal (is_k e.event) t ds) (effect fresh_of 0)).value
unfolding value_from effects_from Step
value-is [] e t p h = refl
value-is (d ∷ ds) e t p h = by-step (step (is_k e.event) t d ds) (λ x. value-is ds e (one_fewer t) (suc p) x)
  where
    r : Bool → Effect
    r b = part_of (is_t e.event || b) e.event p h d

    value : Bool → ℕ
    value b = value_from e (one_fewer t) b (suc p) (r b).device.lines.ieo ds (if b then (r b).value else 0)

    effects : Bool → List Effect
    effects b = r b ∷ effects_from e (one_fewer t) b (suc p) (r b).device.lines.ieo ds

    by-step : Step (is_k e.event) t d ds
        → ((x : Bool) → value_from e (one_fewer t) false (suc p) x ds 0 ≡ (get_or (effects_from e (one_fewer t) false (suc p) x ds) (goal (is_k e.event) (one_fewer t) ds) (effect fresh_of 0)).value)
        → value (reaches_here (is_k e.event) t false d) ≡ (get_or (effects (reaches_here (is_k e.event) t false d)) (goal (is_k e.event) t (d ∷ ds)) (effect fresh_of 0)).value
    by-step (inl s) later =
        ap value s.0 ∙ value-kept ds e _ _ _ _ ∙ sym (ap (λ (b : Bool). (get_or (effects b) (goal (is_k e.event) t (d ∷ ds)) (effect fresh_of 0)).value) s.0
        ∙ ap (λ (g : ℕ). (get_or (effects true) g (effect fresh_of 0)).value) s.1)
    by-step (inr s) later =
        ap value s.0 ∙ later _ ∙ sym (ap (λ (b : Bool). (get_or (effects b) (goal (is_k e.event) t (d ∷ ds)) (effect fresh_of 0)).value) s.0
        ∙ ap (λ (g : ℕ). (get_or (effects false) g (effect fresh_of 0)).value) s.1)

pub acted-answer : (ds : List Device) (e : RowEvent) (t : ℕ) (h o : Bool) (c : ℕ) (l : List Shown) → length ds ≤ 8
    → (pass_along ds (act_at e true true t false 0 h o (answer c 0 l))).answer
    ≡ answer c (get_or (effects_from e t false 0 h ds) (goal (is_k e.event) t ds) (effect fresh_of 0)).value (placed l 0 (map shown_of (effects_from e t false 0 h ds)))
acted-answer ds e t h o c l m =
    act-answer ds e t false 0 h o c 0 l (omega (arith, m)) ∙ ap (λ (v : ℕ). answer c v (placed l 0 (map shown_of (effects_from e t false 0 h ds)))) (value-is ds e t 0 h)

-- ---- the eight places
pub eight_is : (xs : List Shown) → length xs ≤ 8 → placed (eight_of []) 0 xs ≡ eight_of xs
unfolding placed eight_of
eight_is [] m = refl
eight_is (a ∷ []) m = refl
eight_is (a ∷ b ∷ []) m = refl
eight_is (a ∷ b ∷ c ∷ []) m = refl
eight_is (a ∷ b ∷ c ∷ d ∷ []) m = refl
eight_is (a ∷ b ∷ c ∷ d ∷ e ∷ []) m = refl
eight_is (a ∷ b ∷ c ∷ d ∷ e ∷ f ∷ []) m = refl
eight_is (a ∷ b ∷ c ∷ d ∷ e ∷ f ∷ g ∷ []) m = refl
eight_is (a ∷ b ∷ c ∷ d ∷ e ∷ f ∷ g ∷ h ∷ []) m = refl
eight_is (a ∷ b ∷ c ∷ d ∷ e ∷ f ∷ g ∷ h ∷ i ∷ xs) m = absurd (omega (arith, m))

pub effects-length : (ds : List Device) (e : RowEvent) (t : ℕ) (f : Bool) (p : ℕ) (h : Bool) → length (effects_from e t f p h ds) ≡ length ds
unfolding effects_from
effects-length [] e t f p h = refl
effects-length (d ∷ ds) e t f p h = ap suc (effects-length ds e _ _ _ _)
