-- A refused event leaves the stored lines of a sound record, which are true, as they are; the refusal with the number 9.
-- Assumes nothing.
use mathlib.Core.Path.{◌≡◌, refl, sym, ap, ◌∙◌}
use mathlib.Core.Bool.{Bool, true, false, not, true≢false}
use denote.Enum.Bare.{sameb}
use lib.Dec.{eqb}
use Rattle.rules.specs.declared.Device.{Device}
use Rattle.rules.specs.declared.Event.{Event}
use Rattle.rules.specs.Sound.{sound_of}
use Rattle.rules.specs.Events.{code_of, effect, relit}
use Rattle.rules.specs.contracts.refusal.Refusal.{the_type}
use Rattle.rules.specs.declared.refusal.Refusal.{Refusal}
use Rattle.rules.specs.declared.refusal.Refusal.TheVariants.{Unknown, NoRegister, ReadOnly, Later, TooLarge, NoRequester, Length, Contents, Unsound, NoRoom, NoByte, TooLong, NoDevice}
use Rattle.rules.specs.Refusals.{refusal_number}
use Rattle.theorems.proofs.Codes.{test-9}
use Rattle.theorems.proofs.Stored.{sound-relined}

not-false : (b : Bool) → not b ≡ false → b ≡ true
not-false true h = refl
not-false false h = absurd (true≢false h)

pub as_it_was : (d : Device) (e : Event) → eqb (code_of d e) 9 ≡ false → relit (effect d 0) ≡ effect d 0
unfolding relit
as_it_was d e h = ap (λ (f : Device). effect f 0) (sound-relined d (not-false (sound_of d) (sym (test-9 d e) ∙ h)))

pub is-nine : (r : Refusal) → sameb the_type r Unsound ≡ eqb (refusal_number r) 9
unfolding refusal_number
is-nine Unknown = refl
is-nine NoRegister = refl
is-nine ReadOnly = refl
is-nine Later = refl
is-nine TooLarge = refl
is-nine NoRequester = refl
is-nine Length = refl
is-nine Contents = refl
is-nine Unsound = refl
is-nine NoRoom = refl
is-nine NoByte = refl
is-nine TooLong = refl
is-nine NoDevice = refl
