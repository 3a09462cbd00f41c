-- What changes a sound record without a step keeps it sound: a read, an acknowledge, IEI, the stored lines, the phase; and a reset leaves a
-- sound record.
-- Assumes nothing.
use Prim.Native.Nat.{ℕ, ◌-◌, ◌/◌, ◌<◌}
use mathlib.Core.Path.{◌≡◌, refl, ap}
use mathlib.Core.Bool.{Bool, true, false, ◌&&◌, So}
use native.Mathlib.Omega.{arith}
use lib.Dec.{eqb, leb}
use borrow.Author.Tests.{leb-true}
use Rattle.rules.specs.declared.Device.{Device}
use Rattle.rules.specs.declared.Lines.{Lines}
use Rattle.basics.specs.Signs.{within}
use Rattle.basics.specs.Byte.{bit, every}
use Rattle.rules.specs.Record.{port_at, pattern_at, counter_at, source_at, reset_of}
use Rattle.rules.specs.With.{with_counter, with_iei, with_phase, with_lines, with_ius}
use Rattle.rules.specs.Registers.{reset, port_on, port_enabled}
use Rattle.rules.specs.Handshakes.{inputs, irf_at}
use Rattle.rules.specs.Counters.{thawed}
use Rattle.rules.specs.PortData.{catches, catches_at}
use Rattle.rules.specs.Moves.{held_at, given_at}
use Rattle.rules.specs.Interrupts.{first_of, first, requests, requester, acknowledged}
use Rattle.rules.specs.Access.{reads_byte, after_read}
use Rattle.rules.specs.Sound.{pmf_only, catcher_only, catcher_set, sound_port, sound_port_at}
use Rattle.basics.proofs.Tests.{left, right, never, by-test}
use Rattle.basics.proofs.Places.{each2, each3}
use Rattle.theorems.proofs.Parts.{Version, Cleared, Base, Sound}
use Rattle.theorems.proofs.CounterLaws.{thawed-sound}
use Rattle.theorems.proofs.SourceLaws.{ius-sound}
use Rattle.theorems.proofs.Effective.{port-kept}
use Rattle.theorems.proofs.Stores.{awake, base-counter, base-source}
use Rattle.theorems.proofs.Moves.{given-base}
use Rattle.theorems.proofs.Writes.{reset-base}

-- ---- a reset
pub reset-sound : (d : Device) → Version d.version → (port_at d 2).outside < 16 → Sound (reset_of d)
unfolding reset_of sound_port_at sound_port catcher_only catcher_set catches_at catches every pmf_only port_on
reset-sound d v h =
    record {
      base = reset-base d v h;
      ports = each3 (λ p. So (sound_port_at (reset_of d) p)) refl refl refl;
      patterns = each2 (λ p. So (pmf_only (port_enabled (reset_of d) p) (pattern_at (reset_of d) p))) refl refl;
    }

-- ---- a byte is read at 0DH or 0EH
read-place : (d : Device) (a : ℕ) → So (reads_byte d a) → a - 0x0D < 2
unfolding reads_byte
read-place d a r =
    let high = right (leb 0x0D a) (leb a 0x0E) (left (within 0x0D 0x0E a) (inputs (pattern_at d (a - 0x0D))) r) in
    omega (arith, leb-true a 0x0E high)

-- ---- a read: of a low count byte, whose counter is thawed, or of the byte in front of a port with handshake
module _ (d : Device) (z : reset d ≡ false) (h : Sound d) where
  thaw-sound : (i : ℕ) → Sound (with_counter d i (thawed (counter_at d i)))
  thaw-sound i =
      let e = with_counter d i (thawed (counter_at d i)) in
      record {
        base = base-counter d i (thawed (counter_at d i)) h.base (thawed-sound (counter_at d i)) (awake z);
        ports = λ p l. port-kept d e refl (λ _. refl) p refl (h.ports p l);
        patterns = h.patterns;
      }

  given-sound : (p : ℕ) → p < 2 → So (irf_at d p) → Sound (given_at d p)
  unfolding given_at held_at
  given-sound p l i =
      record {
        base = given-base d p l z h.base i;
        ports = λ j g. port-kept d (given_at d p) refl (λ _. refl) j refl (h.ports j g);
        patterns = h.patterns;
      }

  -- where the port has a byte in front
  pub read-sound : (a : ℕ) → (So (reads_byte d a) → So (irf_at d (a - 0x0D))) → Sound (after_read d a)
  unfolding after_read
  read-sound a i =
      by-test Sound (within 0x10 0x15 a && bit a 0) _ _ (λ _. thaw-sound ((a - 0x10) / 2))
      (λ _. by-test Sound (reads_byte d a) _ _ (λ r. given-sound (a - 0x0D) (read-place d a r) (i r)) (λ _. h))

-- ---- an acknowledge: under RESET there is no requester
no-requester : (d : Device) → Cleared d → requester d ≡ 5
unfolding requester first first_of requests
no-requester d h = simp h.master

pub acknowledge-sound : (d : Device) → eqb (requester d) 5 ≡ false → Sound d → Sound (acknowledged d)
unfolding acknowledged
acknowledge-sound d z h =
    let k = requester d in
    let s = with_ius (source_at d k) true in
    record {
      base =
          base-source d k s h.base (ius-sound (source_at d k) true) (λ _ _ _ i. i)
          (λ c. never z (ap (λ (n : ℕ). eqb n 5) (no-requester d c)));
      ports = λ p l. port-kept d (acknowledged d) refl (λ _. refl) p refl (h.ports p l);
      patterns = h.patterns;
    }

-- ---- IEI, the stored lines, the phase: IEI and the lines are in no clause
aside-sound : (d : Device) (v : Bool) (l : Lines) → Sound d → Sound (with_lines (with_iei d v) l)
aside-sound d v l h =
    let b = h.base in
    record {
      base =
          record {
            version = b.version;
            config = b.config;
            modes = b.modes;
            transfers = b.transfers;
            counters = b.counters;
            sources = b.sources;
            four = b.four;
            held =
                λ r.
                let c = b.held r in
                record {
                  master = c.master;
                  config = c.config;
                  vectors = c.vectors;
                  ports = c.ports;
                  patterns = c.patterns;
                  transfers = c.transfers;
                  counters = c.counters;
                  sources = c.sources;
                  phase = c.phase;
                };
          };
      ports = λ p i. port-kept d (with_lines (with_iei d v) l) refl (λ _. refl) p refl (h.ports p i);
      patterns = h.patterns;
    }

pub iei-sound : (d : Device) (v : Bool) → Sound d → Sound (with_iei d v)
iei-sound d v h = aside-sound d v d.lines h

pub lines-sound : (d : Device) (l : Lines) → Sound d → Sound (with_lines d l)
lines-sound d l h = aside-sound d d.iei l h

pub phase-base : (d : Device) (v : Bool) → reset d ≡ false → Base d → Base (with_phase d v)
phase-base d v z b =
    record {
      version = b.version;
      config = b.config;
      modes = b.modes;
      transfers = b.transfers;
      counters = b.counters;
      sources = b.sources;
      four = b.four;
      held = λ r. never z r;
    }

pub phase-sound : (d : Device) (v : Bool) → reset d ≡ false → Sound d → Sound (with_phase d v)
phase-sound d v z h =
    record {
      base = phase-base d v z h.base;
      ports = λ p l. port-kept d (with_phase d v) refl (λ _. refl) p refl (h.ports p l);
      patterns = h.patterns;
    }
