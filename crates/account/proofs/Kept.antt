-- What of a port the parts of an event leave as it is.
-- Assumes nothing.
use Prim.Native.Nat.{ℕ, ◌<◌}
use mathlib.Core.Path.{◌≡◌, refl, sym, ap, ◌∙◌}
use mathlib.Core.Bool.{Bool, true, false, ◌&&◌, cond}
use mathlib.Core.List.{List}
use native.Mathlib.Omega.{arith}
use lib.Dec.{eqb}
use lib.ListN.{get_or, set}
use lib.Seq.{get_or-set_other}
use Rattle.rules.specs.declared.Device.{Device}
use Rattle.rules.specs.declared.Port.{Port}
use Rattle.rules.specs.declared.Pattern.{Pattern}
use Rattle.rules.specs.declared.Source.{Source}
use Rattle.rules.specs.declared.Transfer.{Transfer}
use Rattle.rules.specs.With.{with_pair, with_output, with_phase}
use Rattle.rules.specs.Record.{Shaped, port_at, pattern_at, transfer_at, bare, blank, vacant}
use Rattle.rules.specs.Registers.{port_on, port_enabled}
use Rattle.rules.specs.Handshakes.{inputs, ackin_at}
use Rattle.rules.specs.Interrupts.{relined}
use Rattle.rules.specs.Moves.{held_at, put_at, works_at, falls, taken_at, left_at, moves_at, moves_of, given_at, stored_at}
use Rattle.rules.specs.Step.{step_of, ran_of}
use Rattle.basics.proofs.Tests.{by-test}
use Rattle.basics.proofs.Places.{each2, set_keeps}
use Rattle.theorems.proofs.Frame.{Frame, frame_step}
use Rattle.theorems.proofs.Reports.{ran-keeps}
use Rattle.theorems.proofs.Bytes.{bytes-stay}
use Rattle.theorems.proofs.Shapes.{moves-at-shaped}
use Rattle.account.specs.Account.{held_of}
use Rattle.account.proofs.Held.{inside}

-- port p of e is set up and enabled as that of d
pub record SetUp (p : ℕ) (d e : Device) : Type 0 where
  pub enabled : port_enabled e p ≡ port_enabled d p
  pub mode : (pattern_at e p).mode ≡ (pattern_at d p).mode

pub set-up-trans : {p : ℕ} {d e f : Device} → SetUp p d e → SetUp p e f → SetUp p d f
set-up-trans p q = record { enabled = q.enabled ∙ p.enabled; mode = q.mode ∙ p.mode }

-- and holds the same bytes; the pair half done is no byte
pub record Kept (p : ℕ) (d e : Device) : Type 0 where
  pub set-up : SetUp p d e
  pub transfer : with_pair (transfer_at e p) false ≡ with_pair (transfer_at d p) false

pub kept_same : (p : ℕ) (d e : Device) → e.config ≡ d.config → e.patterns ≡ d.patterns → e.transfers ≡ d.transfers → Kept p d e
kept_same p d e c q t =
    record {
      set-up = record { enabled = ap (λ (n : ℕ). port_on n p) c; mode = ap (λ (l : List Pattern). (get_or l p blank).mode) q };
      transfer = ap (λ (l : List Transfer). with_pair (get_or l p vacant) false) t;
    }

-- e has the configuration, the modes, the outside levels and the polarities of d
pub record Alike (d e : Device) : Type 0 where
  pub config : e.config ≡ d.config
  pub modes : (p : ℕ) → (pattern_at e p).mode ≡ (pattern_at d p).mode
  pub outside : (p : ℕ) → p < 3 → (port_at e p).outside ≡ (port_at d p).outside
  pub polarity : (p : ℕ) → p < 3 → (port_at e p).polarity ≡ (port_at d p).polarity

pub alike_same : (d e : Device) → e.config ≡ d.config → e.patterns ≡ d.patterns → e.ports ≡ d.ports → Alike d e
alike_same d e c q r =
    record {
      config = c;
      modes = λ p. ap (λ (l : List Pattern). (get_or l p blank).mode) q;
      outside = λ p _. ap (λ (l : List Port). (get_or l p (bare 0)).outside) r;
      polarity = λ p _. ap (λ (l : List Port). (get_or l p (bare 0)).polarity) r;
    }

pub alike_refl : (d : Device) → Alike d d
alike_refl d = alike_same d d refl refl refl

pub alike-trans : {d e f : Device} → Alike d e → Alike e f → Alike d f
alike-trans p q =
    record {
      config = q.config ∙ p.config;
      modes = λ j. q.modes j ∙ p.modes j;
      outside = λ j l. q.outside j l ∙ p.outside j l;
      polarity = λ j l. q.polarity j l ∙ p.polarity j l;
    }

-- so its ports are set up alike, and one that holds the same is kept
pub alike-set-up : {d e : Device} (p : ℕ) → Alike d e → SetUp p d e
alike-set-up p a = record { enabled = ap (λ (n : ℕ). port_on n p) a.config; mode = a.modes p }

pub alike-kept : {d e : Device} (p : ℕ) → Alike d e → transfer_at e p ≡ transfer_at d p → Kept p d e
alike-kept p a t = record { set-up = alike-set-up p a; transfer = ap (λ (u : Transfer). with_pair u false) t }

-- ---- a step and the clock
frame-alike : {d e : Device} → Frame d e → Alike d e
frame-alike h =
    record {
      config = h.config;
      modes = h.modes;
      outside = λ p l. ap (λ (q : Port). q.outside) (h.ports p l);
      polarity = λ p l. ap (λ (q : Port). q.polarity) (h.ports p l);
    }

pub step-alike : (timer : Bool) (d0 d1 : Device) → Alike d1 (step_of timer d0 d1).device
step-alike timer d0 d1 = frame-alike (frame_step timer d0 d1)

pub step-transfer : (timer : Bool) (d0 d1 : Device) (p : ℕ) → transfer_at (step_of timer d0 d1).device p ≡ transfer_at d1 p
step-transfer timer d0 d1 p = ap (λ (l : List Transfer). get_or l p vacant) (frame_step timer d0 d1).transfers

pub ran-alike : (n : ℕ) (d : Device) → Alike d (ran_of n d).device
ran-alike n d =
    let step : (e : Device) → Alike (with_phase e false) (step_of true e (with_phase e false)).device =
    λ e. step-alike true e (with_phase e false) in
    record {
      config = ran-keeps (λ (e : Device). e.config) (λ e v. refl) (λ e. (step e).config) n d;
      modes = λ p. ran-keeps (λ (e : Device). (pattern_at e p).mode) (λ e v. refl) (λ e. (step e).modes p) n d;
      outside = λ p l. ran-keeps (λ (e : Device). (port_at e p).outside) (λ e v. refl) (λ e. (step e).outside p l) n d;
      polarity = λ p l. ran-keeps (λ (e : Device). (port_at e p).polarity) (λ e v. refl) (λ e. (step e).polarity p l) n d;
    }

pub ran-transfer : (n : ℕ) (d : Device) (p : ℕ) → transfer_at (ran_of n d).device p ≡ transfer_at d p
ran-transfer n d p = ap (λ (l : List Transfer). get_or l p vacant) (bytes-stay n d)

-- ---- the moves of port q
put-alike : (d : Device) (q b : ℕ) → Alike d (put_at d q b)
unfolding put_at
put-alike d q b =
    let r = with_output (port_at d q) b in
    record {
      config = refl;
      modes = λ _. refl;
      outside = λ p _. set_keeps (λ j (r : Port). r.outside ≡ (port_at d j).outside) d.ports q p r (bare 0) (λ _. refl) refl;
      polarity = λ p _. set_keeps (λ j (r : Port). r.polarity ≡ (port_at d j).polarity) d.ports q p r (bare 0) (λ _. refl) refl;
    }

-- what port q holds, with its source, and a byte put out or not
held-alike : (d : Device) (q : ℕ) (t : Transfer) (s : Source) → Alike d (held_at d q t s)
unfolding held_at
held-alike d q t s = alike_same d _ refl refl refl

moved-alike : (d : Device) (q : ℕ) (puts : Bool) (b : ℕ) (t : Transfer) (s : Source) → Alike d (held_at (cond puts (put_at d q b) d) q t s)
moved-alike d q true b t s = alike-trans (put-alike d q b) (held-alike (put_at d q b) q t s)
moved-alike d q false b t s = held-alike d q t s

pub given-alike : (d : Device) (q : ℕ) → Alike d (given_at d q)
unfolding given_at
given-alike d q = held-alike d q _ _

pub stored-alike : (d : Device) (q b : ℕ) → Alike d (stored_at d q b)
unfolding stored_at
stored-alike d q b = moved-alike d q (eqb (transfer_at d q).bytes 0) b _ _

pub moves-alike : (q : ℕ) (d0 d : Device) → Alike d (moves_at q d0 d)
unfolding moves_at taken_at left_at
moves-alike q d0 d =
    by-test (Alike d) (falls d0 d q) _ _
    (λ _.
    by-test (Alike d) (inputs (pattern_at d q)) _ _ (λ _. held-alike d q _ _) (λ _. moved-alike d q (eqb (transfer_at d q).bytes 2) _ _ _))
    (λ _. by-test (Alike d) (works_at d q && ackin_at d q) _ d (λ _. alike_same d _ refl refl refl) (λ _. alike_refl d))

-- ---- what the other port holds
module _ (d : Device) (p q : ℕ) (other : p ≡ q → ⊥) where
  abbrev Held : Device → Type 0
  Held e = transfer_at e p ≡ transfer_at d p

  elsewhere : (t : Transfer) → get_or (set d.transfers q t) p vacant ≡ transfer_at d p
  elsewhere t = get_or-set_other d.transfers q p t vacant other

  held-other : (t : Transfer) (s : Source) → Held (held_at d q t s)
  unfolding held_at
  held-other t s = elsewhere t

  moved_other : (puts : Bool) (b : ℕ) (t : Transfer) (s : Source) → Held (held_at (cond puts (put_at d q b) d) q t s)
  unfolding held_at put_at
  moved_other true b t s = elsewhere t
  moved_other false b t s = elsewhere t

  pub given-other : Held (given_at d q)
  unfolding given_at
  given-other = held-other _ _

  pub stored_other : (b : ℕ) → Held (stored_at d q b)
  unfolding stored_at
  stored_other b = moved_other (eqb (transfer_at d q).bytes 0) b _ _

  pub moves-other : (d0 : Device) → Held (moves_at q d0 d)
  unfolding moves_at taken_at left_at
  moves-other d0 =
      by-test Held (falls d0 d q) _ _
      (λ _. by-test Held (inputs (pattern_at d q)) _ _ (λ _. held-other _ _) (λ _. moved_other (eqb (transfer_at d q).bytes 2) _ _ _))
      (λ _. by-test Held (works_at d q && ackin_at d q) _ d (λ _. elsewhere _) (λ _. refl))

-- ---- the moves of both ports are for port p its own, before and after which nothing is done to it
pub record Around (p : ℕ) (d0 d1 f : Device) : Type 0 where
  pub meets : Device
  pub shaped : Shaped meets
  pub before : Alike d1 meets
  pub found : transfer_at meets p ≡ transfer_at d1 p
  pub later : Alike (moves_at p d0 meets) f
  pub left : transfer_at f p ≡ transfer_at (moves_at p d0 meets) p

moves-around : (d0 d1 : Device) → Shaped d1 → (p : ℕ) → p < 2 → Around p d0 d1 (moves_of d0 d1)
unfolding moves_of
moves-around d0 d1 k =
    each2 (λ p. Around p d0 d1 (moves_of d0 d1))
    (record {
      meets = d1;
      shaped = k;
      before = alike_refl d1;
      found = refl;
      later = moves-alike 1 d0 (moves_at 0 d0 d1);
      left = moves-other (moves_at 0 d0 d1) 0 1 (λ e. omega arith) d0;
    })
    (record {
      meets = moves_at 0 d0 d1;
      shaped = moves-at-shaped 0 d0 d1 k;
      before = moves-alike 0 d0 d1;
      found = moves-other d1 1 0 (λ e. omega arith) d0;
      later = alike_refl (moves_of d0 d1);
      left = refl;
    })

-- the lines that are stored after an event are no part of it
pub relined-alike : (d : Device) → Alike d (relined d)
unfolding relined
relined-alike d = alike_same d (relined d) refl refl refl

pub relined-transfer : (d : Device) (p : ℕ) → transfer_at (relined d) p ≡ transfer_at d p
unfolding relined
relined-transfer d p = refl

pub relined-given : (d : Device) (q : ℕ) → Alike d (relined (given_at d q))
relined-given d q = alike-trans (given-alike d q) (relined-alike (given_at d q))

pub relined_held : (d : Device) (p : ℕ) → held_of d p ≡ held_of (relined d) p
unfolding held_of
relined_held d p = ap inside (sym (relined-transfer d p))

pub relined-around : {p : ℕ} {d0 d1 f : Device} → Around p d0 d1 f → Around p d0 d1 (relined f)
relined-around {p} {d0} {d1} {f} a =
    record {
      meets = a.meets;
      shaped = a.shaped;
      before = a.before;
      found = a.found;
      later = alike-trans a.later (relined-alike f);
      left = relined-transfer f p ∙ a.left;
    }

-- and so is the step
pub step-around : (d0 d1 : Device) → Shaped d1 → (p : ℕ) → p < 2 → Around p d0 d1 (step_of false d0 (moves_of d0 d1)).device
step-around d0 d1 k p l =
    let a = moves-around d0 d1 k p l in
    record {
      meets = a.meets;
      shaped = a.shaped;
      before = a.before;
      found = a.found;
      later = alike-trans a.later (step-alike false d0 (moves_of d0 d1));
      left = step-transfer false d0 (moves_of d0 d1) p ∙ a.left;
    }
