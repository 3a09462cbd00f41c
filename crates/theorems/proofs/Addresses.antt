-- Codes 4 and 10 by kind: what `later` and a data write with no room, which go by address, say of each kind of register.
-- Assumes nothing.
use Rattle.std.specs.Prelude.{◌==◌}
use Prim.Native.Nat.{ℕ, zero, suc, ◌-◌, ◌<◌}
use mathlib.Core.Path.{◌≡◌, refl, sym, ap, ap₂, ◌∙◌}
use mathlib.Core.Bool.{Bool, true, false, not, ◌&&◌, ◌||◌, beq, So, cond, and_assoc, and-false}
use native.Mathlib.Omega.{arith}
use lib.Dec.{ltb, leb}
use borrow.Author.Tests.{ltb-true, ltb-false, lt-ltb, leb-true, lt-leb, ne_eqb}
use Rattle.rules.specs.declared.Device.{Device}
use Rattle.rules.specs.declared.Kind.{Kind}
use Rattle.rules.specs.declared.Kind.TheVariants.{Master, Config, Vector, Polarity, Direction, Special, PortCommand, CounterCommand}
use Rattle.rules.specs.declared.Kind.TheVariants.{Data, Current, Constant, CounterMode, CurrentVector, PortMode, Handshake, PatternPolarity, Transition, Mask, Absent}
use Rattle.basics.specs.Signs.{within}
use Rattle.rules.specs.With.{with_port_mode}
use Rattle.rules.specs.Record.{pattern_at}
use Rattle.rules.specs.Registers.{port_kind, kind_in, kind_of, port_of, later, later_handshake, later_priority, later_config, later_counter_mode}
use Rattle.rules.specs.Handshakes.{outputs, ore_at}
use Rattle.rules.specs.Access.{writes_byte}
use Rattle.rules.specs.Sound.{later_port}
use Rattle.basics.proofs.Truth.{rows, all2, all8, same}
use Rattle.basics.proofs.Tests.{left, right, never, by-test}
use Rattle.basics.proofs.Laws.{below}

-- ---- the settings of which some are left to later requests, and the data of a port
pub data Setting : Type 0 where
  mode : ℕ → Setting
  handshake : ℕ → Setting
  transition : ℕ → Setting
  config : Setting
  counter : Setting
  byte : ℕ → Setting
  other : Setting

abbrev setting_of : Kind → Setting
setting_of Master = other
setting_of Config = config
setting_of (Vector v) = other
setting_of (Polarity i) = other
setting_of (Direction i) = other
setting_of (Special i) = other
setting_of (PortCommand i) = other
setting_of (CounterCommand i) = other
setting_of (Data i) = byte i
setting_of (Current i high) = other
setting_of (Constant i high) = other
setting_of (CounterMode i) = counter
setting_of CurrentVector = other
setting_of (PortMode i) = mode i
setting_of (Handshake i) = handshake i
setting_of (PatternPolarity i) = other
setting_of (Transition i) = transition i
setting_of (Mask i) = other
setting_of Absent = other

-- by the tests of a port's mode, handshake and transition, of the configuration and of a counter mode
abbrev by_setting : (ℕ → Bool) → (ℕ → Bool) → (ℕ → Bool) → Bool → Bool → Setting → Bool
by_setting f g h c m (mode p) = f p
by_setting f g h c m (handshake p) = g p
by_setting f g h c m (transition p) = h p
by_setting f g h c m config = c
by_setting f g h c m counter = m
by_setting f g h c m (byte p) = false
by_setting f g h c m other = false

-- and by address, of tests at the address's port
abbrev by_port : ℕ → Bool → Bool → Bool → Bool → Bool → Bool
by_port a x y z c m =
    ((a == 0x20 || a == 0x28) && x) || ((a == 0x21 || a == 0x29) && y) || ((a == 0x26 || a == 0x2E) && z) || (a == 0x01 && c) || (within 0x1C 0x1E a && m)

abbrev by_address : (ℕ → Bool) → (ℕ → Bool) → (ℕ → Bool) → Bool → Bool → ℕ → Bool
by_address f g h c m a = by_port a (f (port_of a)) (g (port_of a)) (h (port_of a)) c m

-- ---- a test of port A and of port B
abbrev pick : Bool → Bool → ℕ → Bool
pick x y p = cond (p == 0) x y

-- the settings of these two ports alone
abbrev small : Setting → Bool
small (mode p) = ltb p 2
small (handshake p) = ltb p 2
small (transition p) = ltb p 2
small config = true
small counter = true
small (byte p) = ltb p 3
small other = true

module _ (f : ℕ → Bool) where
  abbrev picked : ℕ → Bool
  picked = pick (f 0) (f 1)

  picked-address : (a : ℕ) → f (port_of a) ≡ picked (port_of a)
  unfolding port_of
  picked-address a = by-test (λ n. f n ≡ picked n) (ltb a 0x28) 0 1 (λ _. refl) (λ _. refl)

  picked-port : (p : ℕ) → So (ltb p 2) → picked p ≡ f p
  picked-port zero h = refl
  picked-port (suc zero) h = refl
  picked-port (suc (suc p)) h = absurd (omega (arith, ltb-true (suc (suc p)) 2 h))

picked-setting : (f g h : ℕ → Bool) (c m : Bool) (s : Setting) → So (small s) → by_setting (picked f) (picked g) (picked h) c m s ≡ by_setting f g h c m s
picked-setting f g h c m (mode p) w = picked-port f p w
picked-setting f g h c m (handshake p) w = picked-port g p w
picked-setting f g h c m (transition p) w = picked-port h p w
picked-setting f g h c m config w = refl
picked-setting f g h c m counter w = refl
picked-setting f g h c m (byte p) w = refl
picked-setting f g h c m other w = refl

-- ---- they agree at the 48 addresses, which antt computes, and past them
all_small : (t : Bool) (a : ℕ) → ltb a 48 ≡ t → So (small (setting_of (kind_of a)))
unfolding kind_of kind_in port_kind
all_small true a h = same _ true (below (λ a. beq (small (setting_of (kind_of a))) true) 48 tt a (ltb-true a 48 h))
all_small false a h = simp h

-- of the tests at ports A and B: x and y of the mode, u and v of the handshake, n and o of the transition
abbrev agrees : ℕ → Bool → Bool → Bool → Bool → Bool → Bool → Bool → Bool → Bool
agrees a x y u v n o c m =
    beq (by_address (pick x y) (pick u v) (pick n o) c m a) (by_setting (pick x y) (pick u v) (pick n o) c m (setting_of (kind_of a)))

agree : (t : Bool) (x y u v n o c m : Bool) (a : ℕ) → ltb a 48 ≡ t
    → by_address (pick x y) (pick u v) (pick n o) c m a ≡ by_setting (pick x y) (pick u v) (pick n o) c m (setting_of (kind_of a))
unfolding kind_of kind_in port_kind port_of
agree true x y u v n o c m a h =
    same _ _
    (all8 (agrees a)
    (below (λ a. rows (λ x. rows (λ y. rows (λ u. rows (λ v. rows (λ n. rows (λ o. rows (λ c. rows (λ m. agrees a x y u v n o c m))))))))) 48 tt a (ltb-true a 48 h))
    x y u v n o c m)
agree false x y u v n o c m a h =
    let g = ltb-false a 48 h in
    let past : (n : ℕ) → n < a → (a == n) ≡ false = λ n l. ne_eqb a n (λ e. omega (arith, l, e)) in
    simp (
      h,
      past 0x20 (omega arith),
      past 0x28 (omega arith),
      past 0x21 (omega arith),
      past 0x29 (omega arith),
      past 0x26 (omega arith),
      past 0x2E (omega arith),
      past 0x01 (omega arith),
      lt-leb a 0x1E (omega arith),
      and-false,
    )

agreed : (f g h : ℕ → Bool) (c m : Bool) (a : ℕ) → by_address f g h c m a ≡ by_setting f g h c m (setting_of (kind_of a))
agreed f g h c m a =
    ap₂ (λ (x y : Bool). by_port a x y (h (port_of a)) c m) (picked-address f a) (picked-address g a)
    ∙ ap (λ (z : Bool). by_port a (picked f (port_of a)) (picked g (port_of a)) z c m) (picked-address h a)
    ∙ agree _ (f 0) (f 1) (g 0) (g 1) (h 0) (h 1) c m a refl
    ∙ picked-setting f g h c m (setting_of (kind_of a)) (all_small _ a refl)

-- "whichever register is written last": of a mode with the port's handshake and transition registers, of these with its mode
abbrev pub later_kind : Device → Kind → ℕ → Bool
later_kind d k b =
    by_setting (λ p. later_port d.version (with_port_mode (pattern_at d p) b)) (λ p. later_handshake (pattern_at d p).mode b) (λ p. later_priority (pattern_at d p).mode b)
    (later_config b) (later_counter_mode b) (setting_of k)

pub later-kind : (d : Device) (a b : ℕ) → later d a b ≡ later_kind d (kind_of a) b
unfolding later
later-kind d a b =
    agreed (λ p. later_port d.version (with_port_mode (pattern_at d p) b)) (λ p. later_handshake (pattern_at d p).mode b) (λ p. later_priority (pattern_at d p).mode b)
    (later_config b) (later_counter_mode b) a

-- ---- the data of ports A and B, at 0DH and 0EH
abbrev by_data : (ℕ → Bool) → Setting → Bool
by_data f (mode p) = false
by_data f (handshake p) = false
by_data f (transition p) = false
by_data f config = false
by_data f counter = false
by_data f (byte p) = ltb p 2 && f p
by_data f other = false

data-agree : (t : Bool) (x y : Bool) (a : ℕ) → ltb a 48 ≡ t → (within 0x0D 0x0E a && pick x y (a - 0x0D)) ≡ by_data (pick x y) (setting_of (kind_of a))
unfolding kind_of kind_in port_kind
data-agree true x y a h =
    same _ _
    (all2 (λ x y. beq (within 0x0D 0x0E a && pick x y (a - 0x0D)) (by_data (pick x y) (setting_of (kind_of a))))
    (below (λ a. rows (λ x. rows (λ y. beq (within 0x0D 0x0E a && pick x y (a - 0x0D)) (by_data (pick x y) (setting_of (kind_of a)))))) 48 tt a (ltb-true a 48 h))
    x y)
data-agree false x y a h =
    let g = ltb-false a 48 h in
    simp (h, lt-leb a 0x0E (omega arith), and-false)

-- a test after another that makes the port one of the two
on-two : (f : ℕ → Bool) (v : Bool) (p : ℕ) → (So v → So (ltb p 2)) → (v && f p) ≡ (v && picked f p)
on-two f true p h = sym (picked-port f p (h refl))
on-two f false p h = refl

of-data : (f : ℕ → Bool) (s : Setting) → by_data (picked f) s ≡ by_data f s
of-data f (mode p) = refl
of-data f (handshake p) = refl
of-data f (transition p) = refl
of-data f config = refl
of-data f counter = refl
of-data f (byte p) = sym (on-two f (ltb p 2) p (λ h. h))
of-data f other = refl

at-data : (f : ℕ → Bool) (a : ℕ) → (within 0x0D 0x0E a && f (a - 0x0D)) ≡ by_data f (setting_of (kind_of a))
at-data f a =
    on-two f (within 0x0D 0x0E a) (a - 0x0D)
    (λ w. lt-ltb (a - 0x0D) 2 (omega (arith, leb-true 0x0D a (left (leb 0x0D a) (leb a 0x0E) w), leb-true a 0x0E (right (leb 0x0D a) (leb a 0x0E) w))))
    ∙ data-agree _ (f 0) (f 1) a refl
    ∙ of-data f (setting_of (kind_of a))

-- an output port with no room
abbrev full : Device → ℕ → Bool
full d p = outputs (pattern_at d p) && not (ore_at d p)

abbrev pub full_kind : Device → Kind → Bool
full_kind d k = by_data (full d) (setting_of k)

pub full-kind : (d : Device) (a : ℕ) → (writes_byte d a && not (ore_at d (a - 0x0D))) ≡ full_kind d (kind_of a)
unfolding writes_byte
full-kind d a = and_assoc (within 0x0D 0x0E a) (outputs (pattern_at d (a - 0x0D))) (not (ore_at d (a - 0x0D))) ∙ at-data (full d) a

-- no address is refused for both
one-setting : (f g h x : ℕ → Bool) (c m : Bool) (s : Setting) → So (by_setting f g h c m s) → by_data x s ≡ false
one-setting f g h x c m (mode p) l = refl
one-setting f g h x c m (handshake p) l = refl
one-setting f g h x c m (transition p) l = refl
one-setting f g h x c m config l = refl
one-setting f g h x c m counter l = refl
one-setting f g h x c m (byte p) l = never refl l
one-setting f g h x c m other l = refl

pub later-room : (d : Device) (a b : ℕ) → So (later d a b) → (writes_byte d a && not (ore_at d (a - 0x0D))) ≡ false
later-room d a b l = full-kind d a ∙ one-setting _ _ _ (full d) _ _ (setting_of (kind_of a)) (sym (later-kind d a b) ∙ l)
