-- What an event leaves of the record, by its fate: the record as it was, or another source at its place.
-- Assumes nothing.
use Prim.Native.Nat.{ℕ, ◌<◌}
use mathlib.Core.Path.{◌≡◌, refl, sym, ap, ◌∙◌}
use mathlib.Core.Bool.{Bool, true, false, not, ◌&&◌, cond, So}
use mathlib.Core.List.{List}
use lib.ListN.{get_or, length}
use lib.Seq.{get_or-set_same, get_or-set_other}
use Rattle.rules.specs.declared.Device.{Device}
use Rattle.rules.specs.declared.Source.{Source}
use Rattle.rules.specs.declared.Fate.{Fate}
use Rattle.rules.specs.declared.Fate.TheVariants.{Nothing, Taken, Kept, Lost}
use Rattle.rules.specs.Record.{source_at, quiet}
use Rattle.rules.specs.With.{with_ip, with_hidden, with_source}
use Rattle.rules.specs.Interrupts.{fate_of, after_fate, came}
use Rattle.rules.specs.Step.{event_at}
use Rattle.basics.proofs.Tests.{so-both, left, right, by-test}
use Rattle.theorems.specs.Alone.{left_by}

is-so : (a : Bool) → not a ≡ false → So a
is-so true h = refl
is-so false h = sym h

-- an event that happens came, whatever became of it
pub came-is : (hides happens : Bool) (s : Source) → came (fate_of hides happens s) ≡ happens
unfolding fate_of came
came-is hides true s =
    let k = hides && not s.err && not s.hidden in
    let P : Fate → Type 0 = λ f. came f ≡ true in
    by-test P (not s.ip) Taken (cond k Kept Lost) (λ _. refl) (λ _. by-test P k Kept Lost (λ _. refl) (λ _. refl))
came-is hides false s = refl

module _ (P : Device → Type 0) (d : Device) (k : ℕ) (hides happens : Bool) (as_it_was : P d) where
  -- whatever stands at the source's place then
  of-fate : (f : Fate) → ((s : Source) → P (with_source d k s)) → P (after_fate d k f)
  unfolding after_fate
  of-fate Nothing p = as_it_was
  of-fate Taken p = p _
  of-fate Kept p = p _
  of-fate Lost p = as_it_was

  pub by-source : ((s : Source) → P (with_source d k s)) → P (event_at d k hides happens)
  unfolding event_at
  by-source p = of-fate (fate_of hides happens (source_at d k)) p

  -- IP is set, or the hidden error where IP is and ERR is not
  abbrev source : Source
  source = source_at d k

  pub by-fate : (So happens → P (with_source d k (with_ip source true)))
      → (So happens → So (source.ip && not source.err) → P (with_source d k (with_hidden source true))) → P (event_at d k hides happens)
  unfolding event_at fate_of after_fate
  by-fate taken kept =
      let hidable = hides && not source.err in
      by-test (λ (f : Fate). P (after_fate d k f)) (not happens) Nothing _ (λ _. as_it_was)
      (λ h.
      by-test (λ (f : Fate). P (after_fate d k f)) (not source.ip) Taken _ (λ _. taken (is-so happens h))
      (λ i.
      by-test (λ (f : Fate). P (after_fate d k f)) (hidable && not source.hidden) Kept Lost
      (λ t.
      kept (is-so happens h)
      (so-both (is-so source.ip i) (right hides (not source.err) (left hidable (not source.hidden) t)))) (λ _. as_it_was)))

-- ---- at its own place the source that the fate leaves, and the others as they were
fate-here : (d : Device) (k : ℕ) (f : Fate) → k < length d.sources → source_at (after_fate d k f) k ≡ left_by f (source_at d k)
unfolding after_fate left_by
fate-here d k Nothing h = refl
fate-here d k Taken h = get_or-set_same d.sources k _ quiet h
fate-here d k Kept h = get_or-set_same d.sources k _ quiet h
fate-here d k Lost h = refl

pub event-here : (d : Device) (k : ℕ) (hides happens : Bool) → k < length d.sources
    → source_at (event_at d k hides happens) k ≡ left_by (fate_of hides happens (source_at d k)) (source_at d k)
unfolding event_at
event-here d k hides happens h = fate-here d k (fate_of hides happens (source_at d k)) h

pub event-there : (d : Device) (k j : ℕ) (hides happens : Bool) → (j ≡ k → ⊥) → source_at (event_at d k hides happens) j ≡ source_at d j
event-there d k j hides happens h =
    by-source (λ (e : Device). source_at e j ≡ source_at d j) d k hides happens refl (λ s. get_or-set_other d.sources k j s quiet h)

-- ---- what changes no source may as well be done after the event
module _ (g : Device → Device) (same : (d : Device) → (g d).sources ≡ d.sources)
    (apart : (d : Device) (k : ℕ) (s : Source) → with_source (g d) k s ≡ g (with_source d k s)) where
  pub fate-apart : (d : Device) (k : ℕ) (f : Fate) → after_fate (g d) k f ≡ g (after_fate d k f)
  unfolding after_fate
  fate-apart d k Nothing = refl
  fate-apart d k Taken = ap (λ (l : List Source). with_source (g d) k (with_ip (get_or l k quiet) true)) (same d) ∙ apart d k _
  fate-apart d k Kept = ap (λ (l : List Source). with_source (g d) k (with_hidden (get_or l k quiet) true)) (same d) ∙ apart d k _
  fate-apart d k Lost = refl

  pub event-apart : (d : Device) (k : ℕ) (hides happens : Bool) → event_at (g d) k hides happens ≡ g (event_at d k hides happens)
  unfolding event_at
  event-apart d k hides happens =
      ap (λ (l : List Source). after_fate (g d) k (fate_of hides happens (get_or l k quiet))) (same d)
      ∙ fate-apart d k (fate_of hides happens (source_at d k))
