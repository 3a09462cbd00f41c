-- The order of the refusals, as truth tables: a code is given exactly when its test passes and none before it does.
-- Assumes nothing.
use Prim.Native.Nat.{ℕ, ◌-◌, ◌<◌}
use mathlib.Core.Path.{◌≡◌, refl, ap, ◌∙◌}
use mathlib.Core.Bool.{Bool, true, false, not, ◌&&◌, ◌||◌, beq, cond, So, and_assoc, and-false}
use native.Mathlib.Omega.{arith}
use lib.Dec.{T, eqb, ltb, leb}
use borrow.Author.Tests.{eqb-true, leb-true, lt-leb, ne_eqb}
use Rattle.rules.specs.declared.Device.{Device}
use Rattle.rules.specs.declared.Event.{Event}
use Rattle.rules.specs.Registers.{read_only, later}
use Rattle.basics.specs.Signs.{within}
use Rattle.rules.specs.Record.{register_count, pattern_at}
use Rattle.rules.specs.Handshakes.{inputs, outputs, irf_at, ore_at}
use Rattle.rules.specs.Access.{reads_byte, writes_byte}
use Rattle.rules.specs.Interrupts.{requester}
use Rattle.rules.specs.Sound.{sound_of}
use Rattle.rules.specs.Events.{is_w, is_r, is_p, is_k, is_e, unknown, no_register, too_large, held, no_byte, no_room, code_of}
use Rattle.basics.proofs.Truth.{rows, all2, all8, same}
use Rattle.basics.proofs.Tests.{left, right}
use Rattle.theorems.proofs.Addresses.{later-room}

-- the code by its ten tests, in their order
abbrev chain : Bool → Bool → Bool → Bool → Bool → Bool → Bool → Bool → Bool → Bool → ℕ
chain s u n t h r y f l k = cond (not s) 9 (cond u 1 (cond n 2 (cond t 5 (cond h 0 (cond r 3 (cond y 11 (cond f 10 (cond l 4 (cond k 6 0)))))))))

all10 : (t : Bool → Bool → Bool → Bool → Bool → Bool → Bool → Bool → Bool → Bool → Bool)
    → T (rows (λ a. rows (λ b. rows (λ c. rows (λ d. rows (λ e. rows (λ f. rows (λ g. rows (λ h. rows (λ i. rows (λ j. t a b c d e f g h i j)))))))))))
    → (a b c d e f g h i j : Bool) → T (t a b c d e f g h i j)
all10 t p a b c d e f g h i j =
    all8 (t a b)
    (all2 (λ a b. rows (λ c. rows (λ d. rows (λ e. rows (λ f. rows (λ g. rows (λ h. rows (λ i. rows (λ j. t a b c d e f g h i j))))))))) p a b)
    c d e f g h i j

-- the refusals of a write to its register, and of an acknowledge
abbrev pub refused_read_only : Event → Bool
refused_read_only e = is_w e && read_only e.a

abbrev pub refused_later : Device → Event → Bool
refused_later d e = is_w e && later d e.a e.b

abbrev pub refused_idle : Device → Event → Bool
refused_idle d e = is_k e && eqb (requester d) 5

module _ (d : Device) (e : Event) where
  by-table : (m : ℕ) (x : Bool → Bool → Bool → Bool → Bool → Bool → Bool → Bool → Bool → Bool → Bool)
      → T (rows (λ s. rows (λ u. rows (λ n. rows (λ t. rows (λ h. rows (λ r. rows (λ y. rows (λ f. rows (λ l. rows (λ k.
      beq (eqb (chain s u n t h r y f l k) m) (x s u n t h r y f l k))))))))))))
      → eqb (code_of d e) m
      ≡ x (sound_of d) (unknown e) (no_register e) (too_large e) (held d e) (refused_read_only e) (no_byte d e) (no_room d e) (refused_later d e) (refused_idle d e)
  unfolding code_of
  by-table m x p =
      same _ _
      (all10 (λ s u n t h r y f l k. beq (eqb (chain s u n t h r y f l k) m) (x s u n t h r y f l k)) p (sound_of d) (unknown e) (no_register e)
      (too_large e) (held d e) (refused_read_only e) (no_byte d e) (no_room d e) (refused_later d e) (refused_idle d e))

  pub test-9 : eqb (code_of d e) 9 ≡ not (sound_of d)
  test-9 = by-table 9 (λ s u n t h r y f l k. not s) tt

  pub test-1 : eqb (code_of d e) 1 ≡ (sound_of d && unknown e)
  test-1 = by-table 1 (λ s u n t h r y f l k. s && u) tt

  pub test-2 : eqb (code_of d e) 2 ≡ (sound_of d && not (unknown e) && no_register e)
  test-2 = by-table 2 (λ s u n t h r y f l k. s && not u && n) tt

  pub test-5 : eqb (code_of d e) 5 ≡ (sound_of d && not (unknown e) && not (no_register e) && too_large e)
  test-5 = by-table 5 (λ s u n t h r y f l k. s && not u && not n && t) tt

  -- past 9, 1, 2, 5 and the reset hold
  abbrev pub tested : Bool
  tested = sound_of d && not (unknown e) && not (no_register e) && not (too_large e) && not (held d e)

  pub test-3 : eqb (code_of d e) 3 ≡ (tested && refused_read_only e)
  test-3 = by-table 3 (λ s u n t h r y f l k. s && not u && not n && not t && not h && r) tt

  pub test-11 : eqb (code_of d e) 11 ≡ (tested && not (refused_read_only e) && no_byte d e)
  test-11 = by-table 11 (λ s u n t h r y f l k. s && not u && not n && not t && not h && not r && y) tt

  pub test-10 : eqb (code_of d e) 10 ≡ (tested && not (refused_read_only e) && not (no_byte d e) && no_room d e)
  test-10 = by-table 10 (λ s u n t h r y f l k. s && not u && not n && not t && not h && not r && not y && f) tt

  pub test-4 : eqb (code_of d e) 4 ≡ (tested && not (refused_read_only e) && not (no_byte d e) && not (no_room d e) && refused_later d e)
  test-4 = by-table 4 (λ s u n t h r y f l k. s && not u && not n && not t && not h && not r && not y && not f && l) tt

  pub test-6 : eqb (code_of d e) 6
      ≡ (tested && not (refused_read_only e) && not (no_byte d e) && not (no_room d e) && not (refused_later d e) && refused_idle d e)
  test-6 = by-table 6 (λ s u n t h r y f l k. s && not u && not n && not t && not h && not r && not y && not f && not l && k) tt

  pub test-0 : eqb (code_of d e) 0
      ≡ (sound_of d && not (unknown e) && not (no_register e) && not (too_large e)
      && (held d e || (not (refused_read_only e) && not (no_byte d e) && not (no_room d e) && not (refused_later d e) && not (refused_idle d e))))
  test-0 = by-table 0 (λ s u n t h r y f l k. s && not u && not n && not t && (h || (not r && not y && not f && not l && not k))) tt

-- ---- the kinds exclude one another
pub or-so : {C : Type 0} (a b : Bool) → (So a → C) → (So b → C) → So (a || b) → C
or-so true b f g h = f refl
or-so false b f g h = g h

known : (e : Event) (n : ℕ) → ltb 6 n ≡ false → So (eqb e.kind n) → unknown e ≡ false
unfolding unknown
known e n l t = ap (λ (k : ℕ). ltb 6 k) (eqb-true e.kind n t) ∙ l

pub write_known : (e : Event) → So (is_w e) → unknown e ≡ false
write_known e = known e 1 refl

pub no-register-known : (e : Event) → So (no_register e) → unknown e ≡ false
unfolding no_register
no-register-known e h = or-so (is_w e) (is_r e) (known e 1 refl) (known e 2 refl) (left (is_w e || is_r e) (leb register_count e.a) h)

pub too-large-known : (e : Event) → So (too_large e) → unknown e ≡ false
unfolding too_large
too-large-known e =
    let x = ltb 255 e.b in
    let y = ltb 255 e.a || ltb 255 e.b || ltb 15 e.c in
    let z = ltb 1 e.a in
    or-so (is_w e && x || is_p e && y) (is_e e && z)
    (or-so (is_w e && x) (is_p e && y) (λ h. known e 1 refl (left (is_w e) x h)) (λ h. known e 3 refl (left (is_p e) y h)))
    (λ h. known e 6 refl (left (is_e e) z h))

-- a write is no read of data
pub write_byte : (d : Device) (e : Event) → So (is_w e) → no_byte d e ≡ false
unfolding no_byte
write_byte d e t = simp (eqb-true e.kind 1 t)

-- and a write of a setting is none of data
pub later-stored : (d : Device) (e : Event) → So (later d e.a e.b) → no_room d e ≡ false
unfolding no_room
later-stored d e l =
    let at = e.a - 0x0D in
    and_assoc (is_w e) (writes_byte d e.a) (not (ore_at d at)) ∙ ap (λ (x : Bool). is_w e && x) (later-room d e.a e.b l) ∙ and-false (is_w e)

-- a write of data with no room: to a register of an output port
pub record Unstored (d : Device) (e : Event) : Type 0 where
  pub write : So (is_w e)
  pub place : e.a - 0x0D < 2
  pub output : So (outputs (pattern_at d (e.a - 0x0D)))
  pub register : no_register e ≡ false
  pub readable : refused_read_only e ≡ false

pub writes : (d : Device) (e : Event) → So (no_room d e) → Unstored d e
unfolding no_register no_room writes_byte read_only
writes d e t =
    let at = e.a - 0x0D in
    let data-write = left (is_w e && writes_byte d e.a) (not (ore_at d at)) t in
    let to = right (is_w e) (writes_byte d e.a) data-write in
    let high = leb-true e.a 0x0E (right (leb 0x0D e.a) (leb e.a 0x0E) (left (within 0x0D 0x0E e.a) (outputs (pattern_at d at)) to)) in
    record {
      write = left (is_w e) (writes_byte d e.a) data-write;
      place = omega (arith, high);
      output = right (within 0x0D 0x0E e.a) (outputs (pattern_at d at)) to;
      register = simp (lt-leb register_count e.a (omega (arith, high)), and-false);
      readable = simp (lt-leb 0x10 e.a (omega (arith, high)), ne_eqb e.a 0x1F (λ q. omega (arith, high, q)), and-false);
    }

-- what is not tested of an event that is no write
pub record Untested (d : Device) (e : Event) : Type 0 where
  pub known : unknown e ≡ false
  pub register : no_register e ≡ false
  pub small : too_large e ≡ false
  pub free : held d e ≡ false
  pub readable : refused_read_only e ≡ false

-- of a read of data with no byte in front; and of an acknowledge
pub reads : (d : Device) (e : Event) → So (no_byte d e) → Untested d e
unfolding unknown no_register too_large held no_byte reads_byte
reads d e t =
    let data-read = left (is_r e) (reads_byte d e.a) (left (is_r e && reads_byte d e.a) (not (irf_at d (e.a - 0x0D))) t) in
    let low = right (is_r e) (reads_byte d e.a) (left (is_r e && reads_byte d e.a) (not (irf_at d (e.a - 0x0D))) t) in
    let at = leb-true e.a 0x0E (right (leb 0x0D e.a) (leb e.a 0x0E) (left (within 0x0D 0x0E e.a) (inputs (pattern_at d (e.a - 0x0D))) low)) in
    let q = eqb-true e.kind 2 data-read in
    record {
      known = simp q;
      register = simp (q, lt-leb register_count e.a (omega (arith, at)));
      small = simp q;
      free = simp (q, and-false);
      readable = simp q;
    }

pub record Acknowledges (d : Device) (e : Event) : Type 0 where
  pub untested : Untested d e
  pub byte : no_byte d e ≡ false
  pub room : no_room d e ≡ false
  pub now : refused_later d e ≡ false

pub acknowledges : (d : Device) (e : Event) → So (is_k e) → Acknowledges d e
unfolding unknown no_register too_large held no_byte no_room
acknowledges d e t =
    let q = eqb-true e.kind 5 t in
    record {
      untested = record { known = simp q; register = simp q; small = simp q; free = simp (q, and-false); readable = simp q };
      byte = simp q;
      room = simp q;
      now = simp q;
    }
