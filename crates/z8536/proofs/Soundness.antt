-- Paper 02, W-209: every event takes a sound Z8536 to a sound one, from the fresh device on, and keeps the version and the shape of its core.
-- Assumes nothing.
use mathlib.Core.Path.{◌≡◌, refl, sym, subst, ◌∙◌}
use mathlib.Core.Bool.{true, true≢false}
use mathlib.Core.List.{List}
use lib.Dec.{lit<}
use Rattle.rules.specs.declared.Device.{Device}
use Rattle.rules.specs.declared.Event.{Event}
use Rattle.rules.specs.declared.Answer.{Answer}
use Rattle.rules.specs.declared.Outcome.{Outcome}
use Rattle.rules.specs.Record.{Shaped}
use Rattle.rules.specs.Registers.{reset}
use Rattle.rules.specs.Sound.{sound_of}
use Rattle.rules.specs.Events.{event_of}
use Rattle.basics.proofs.Tests.{not_so, by-test}
use Rattle.basics.proofs.Runs.{list-kept}
use Rattle.theorems.proofs.Soundness.{fresh-sound as fresh-core, event-sound as core-sound}
use Rattle.theorems.proofs.Shapes.{fresh-shaped, event-shaped as core-shaped}
use Rattle.theorems.proofs.Versions.{version-kept as core-version}
use Rattle.z8536.specs.declared.Z8536.{Z8536}
use Rattle.z8536.specs.Z8536.{fresh_z8536, reset_clear, sound_z8536, at_register, after_core, stands, accessed, event_z8536}
use Rattle.z8536.specs.Runs.{next_z8536, record_z8536}
use Rattle.z8536.proofs.Parts.{parts, whole}
use Rattle.z8536.proofs.Access.{ways, core-after, pointing-core, pointing-ways, pointed-sound}
use Rattle.z8536.proofs.Codes.{code_is, code-9}

-- the fresh device is sound
pub fresh-sound : sound_z8536 fresh_z8536 ≡ true
unfolding reset_clear
fresh-sound = whole fresh_z8536 (record { core = fresh-core; version = refl; pointer = lit< tt; clear = refl })

module _ (z : Z8536) (e : Event) where
  -- what the core's event at the register keeps, every event keeps
  pub core-kept : (P : Device → Type 0) → P z.core → P (event_of z.core (at_register z e)).device → P (event_z8536 z e).device.core
  unfolding stands accessed
  core-kept P h k =
      ways z e (λ (o : Outcome Z8536 Answer). P o.device.core) (λ _. h) (λ _ _. h) (λ _ _ _. subst P (sym (pointing-core z e)) h)
      (λ _ _ _. subst P (sym (core-after z e (event_of z.core (at_register z e)))) k)

  pub version-kept : (event_z8536 z e).device.core.version ≡ z.core.version
  version-kept = core-kept (λ (d : Device). d.version ≡ z.core.version) refl (core-version z.core (at_register z e))

  pub event-shaped : Shaped z.core → Shaped (event_z8536 z e).device.core
  event-shaped k = core-kept Shaped k (core-shaped z.core k (at_register z e))

  -- a pointer that there is stays one, and a core in reset has none
  after-sound : (o : Outcome Device Answer) → sound_z8536 z ≡ true → sound_of o.device ≡ true → o.device.version ≡ 2 → sound_z8536 (after_core z e o) ≡ true
  unfolding after_core reset_clear
  after-sound o s h v =
      let d = o.device in
      by-test (λ (y : Z8536). sound_z8536 y ≡ true) (reset d) _ _
      (λ r. whole _ (record { core = h; version = v; pointer = lit< tt; clear = simp r }))
      (λ r. whole _ (record { core = h; version = v; pointer = (parts z s).pointer; clear = simp r }))

  -- every event
  pub event-sound : Shaped z.core → sound_z8536 z ≡ true → sound_z8536 (event_z8536 z e).device ≡ true
  unfolding stands accessed
  event-sound k s =
      let f = at_register z e in
      let part = parts z s in
      ways z e (λ (o : Outcome Z8536 Answer). sound_z8536 o.device ≡ true) (λ _. s) (λ _ _. s)
      (λ _ _ p. pointing-ways z e (λ (o : Outcome Z8536 Answer). sound_z8536 o.device ≡ true) (λ _. s) (λ _ _. s) (λ _ n. pointed-sound z e s p n))
      (λ _ _ _. after-sound (event_of z.core f) s (core-sound z.core f k part.core) (core-version z.core f ∙ part.version))

-- any events, one after another, from a sound record of the device's shape
abbrev pub Good : Z8536 → Type 0
Good z = Shaped z.core × (sound_z8536 z ≡ true)

pub event-good : (z : Z8536) (e : Event) → Good z → Good (next_z8536 z e)
event-good z e g = (event-shaped z e g.0, event-sound z e g.0 g.1)

pub list-shaped : (z : Z8536) (l : List Event) → Shaped z.core → Shaped (record_z8536 z l).core
list-shaped = list-kept next_z8536 (λ (z : Z8536). Shaped z.core) event-shaped

pub list-sound : (z : Z8536) (l : List Event) → Shaped z.core → sound_z8536 z ≡ true → sound_z8536 (record_z8536 z l) ≡ true
list-sound z l h s = (list-kept next_z8536 Good event-good z l (h, s)).1

pub list-version : (z : Z8536) (l : List Event) → (record_z8536 z l).core.version ≡ z.core.version
list-version z l = list-kept next_z8536 (λ (y : Z8536). y.core.version ≡ z.core.version) (λ y e q. version-kept y e ∙ q) z l refl

-- so from the fresh device no event comes to code 9
pub never-unsound : (l : List Event) (e : Event) → (event_z8536 (record_z8536 fresh_z8536 l) e).answer.code ≡ 9 → ⊥
never-unsound l e n =
    let z = record_z8536 fresh_z8536 l in
    true≢false (sym (list-sound fresh_z8536 l fresh-shaped fresh-sound) ∙ not_so (sound_z8536 z) ((code-9 z e).0 (sym (code_is z e) ∙ n)))
