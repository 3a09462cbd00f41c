-- A port that stands: what holds of the record at every event, of an output port and of an input port.
-- Assumes nothing.
use Prim.Native.Nat.{ℕ, zero, suc, ◌<◌}
use mathlib.Core.Path.{◌≡◌, sym, subst, ◌∙◌}
use mathlib.Core.Bool.{false, So}
use mathlib.Core.List.{[], ◌∷◌, ◌++◌}
use lib.Dec.{lit<}
use Rattle.rules.specs.declared.Device.{Device}
use Rattle.rules.specs.declared.Event.{Event}
use Rattle.rules.specs.Record.{pattern_at}
use Rattle.rules.specs.Handshakes.{inputs, outputs}
use Rattle.basics.proofs.Tests.{never}
use Rattle.theorems.proofs.Parts.{no-input}
use Rattle.theorems.proofs.Soundness.{event-sound}
use Rattle.theorems.proofs.Shapes.{event-shaped}
use Rattle.account.specs.Account.{after, data_written_by, acknowledged_by, strobed_by, read_by, held_of, HoldsBytes, ends_account}
use Rattle.account.specs.Account.{Driven, acknowledged_at_pins, strobed_at_pins}
use Rattle.account.proofs.Kept.{SetUp}
use Rattle.account.proofs.Turns.{Standing, Turn, rests, steps, stores, gives}
use Rattle.account.proofs.Events.{turn}
use Rattle.account.proofs.Single.{out-turn, in-turn, set-up-after}
use Rattle.account.proofs.Over.{AllBytes, bytes-joined, bytes-behind}
use Rattle.account.proofs.Pins.{strobed-pins, acknowledged-pins}

module _ (p : ℕ) (l : p < 2) where
  turn-of : (d : Device) (e : Event) → ends_account p d e ≡ false → Standing p d → Turn p d e
  turn-of d e z h = turn p l d h e z

  set-up-of : (d : Device) (e : Event) → ends_account p d e ≡ false → Standing p d → SetUp p d (after d e)
  set-up-of d e z h = set-up-after p l d h.shaped h.shaken e (turn-of d e z h)

  standing-after : (d : Device) (e : Event) → ends_account p d e ≡ false → Standing p d → Standing p (after d e)
  standing-after d e z h =
      let u = set-up-of d e z h in
      record {
        shaped = event-shaped d h.shaped e;
        sound = event-sound d e h.shaped h.sound;
        enabled = u.enabled ∙ h.enabled;
        shaken = simp u.mode h.shaken;
      }

-- ---- an input port
pub record Takes (p : ℕ) (d : Device) : Type 0 where
  pub standing : Standing p d
  pub input : So (inputs (pattern_at d p))

module _ (p : ℕ) (l : p < 2) (d : Device) (e : Event) where
  pub takes-after : ends_account p d e ≡ false → Takes p d → Takes p (after d e)
  takes-after z h =
      record { standing = standing-after p l d e z h.standing; input = simp (set-up-of p l d e z h.standing).mode h.input }

  pub takes_one : ends_account p d e ≡ false → Takes p d → held_of d p ++ strobed_by p d e ≡ read_by p d e ++ held_of (after d e) p
  takes_one z h = let s = h.standing in in-turn p l d s.shaped s.sound e h.input (turn-of p l d e z s)

  pub takes-pins : Takes p d → Driven p d → strobed_at_pins p d e ≡ strobed_by p d e
  takes-pins h driven = strobed-pins p l d h.standing.shaken e driven

-- ---- an output port, which holds bytes
pub record Gives (p : ℕ) (d : Device) : Type 0 where
  pub standing : Standing p d
  pub output : So (outputs (pattern_at d p))
  pub bytes : HoldsBytes p d

no_byte_lem : AllBytes []
no_byte_lem k = lit< tt

one_byte : (b : ℕ) → b < 256 → AllBytes (b ∷ [])
one_byte b h zero = h
one_byte b h (suc k) = lit< tt

-- "5: a byte .. above 255" is not written
written-bytes : (p : ℕ) (d : Device) (e : Event) → So (outputs (pattern_at d p)) → Turn p d e → AllBytes (data_written_by p d e)
written-bytes p d e o (rests a t quiet) = subst AllBytes (sym (quiet.written o)) no_byte_lem
written-bytes p d e o (steps d1 kept a quiet) = subst AllBytes (sym (quiet.written o)) no_byte_lem
written-bytes p d e o (stores _ room small a w) = subst AllBytes (sym w) (one_byte e.b small)
written-bytes p d e o (gives i some q w) = never (no-input (pattern_at d p) o) i

module _ (p : ℕ) (l : p < 2) (d : Device) (e : Event) where
  pub gives_one : ends_account p d e ≡ false → Gives p d → held_of d p ++ data_written_by p d e ≡ acknowledged_by p d e ++ held_of (after d e) p
  gives_one z h = let s = h.standing in out-turn p l d s.shaped s.sound e h.output h.bytes (turn-of p l d e z s)

  pub gives_after : ends_account p d e ≡ false → Gives p d → Gives p (after d e)
  gives_after z h =
      record {
        standing = standing-after p l d e z h.standing;
        output = simp (set-up-of p l d e z h.standing).mode h.output;
        bytes =
            bytes-behind (acknowledged_by p d e) (held_of (after d e) p)
            (subst AllBytes (gives_one z h)
            (bytes-joined (held_of d p) (data_written_by p d e) h.bytes (written-bytes p d e h.output (turn-of p l d e z h.standing))));
      }

  pub gives-pins : Gives p d → Driven p d → acknowledged_at_pins p d e ≡ acknowledged_by p d e
  gives-pins h driven =
      let s = h.standing in
      acknowledged-pins p l d s.shaken e driven s.shaped s.sound s.enabled h.output h.bytes
