-- The direct effect of a write that is not refused keeps the base of a step; so does a reset, and so do the outside levels.
-- Assumes nothing.
use Prim.Native.Nat.{ℕ, ◌/◌, ◌<◌}
use mathlib.Core.Path.{◌≡◌, refl, sym, ap, subst}
use mathlib.Core.Bool.{Bool, true, false, not, ◌&&◌, ◌||◌, cond, So, and-false}
use mathlib.Core.List.{[], ◌∷◌}
use native.Mathlib.Omega.{arith}
use lib.Dec.{eqb, ltb, lit<}
use lib.ListN.{get_or, set, get_or-eq_default}
use borrow.Author.Tests.{eqb-true, ltb-true, ltb-false, lt-ltb, le-ltb}
use Rattle.rules.specs.declared.Counter.{Counter}
use Rattle.rules.specs.declared.Port.{Port}
use Rattle.rules.specs.declared.Pattern.{Pattern}
use Rattle.rules.specs.declared.Device.{Device}
use Rattle.rules.specs.declared.Kind.{Kind}
use Rattle.rules.specs.declared.Kind.TheVariants.{Master, Config, Vector, Polarity, Direction, Special, PortCommand, CounterCommand}
use Rattle.rules.specs.declared.Kind.TheVariants.{Data, Current, Constant, CounterMode, CurrentVector, PortMode, Handshake, PatternPolarity, Transition, Mask, Absent}
use Rattle.basics.specs.Byte.{bit, with_byte}
use Rattle.rules.specs.Record.{Shaped, port_at, pattern_at, transfer_at, counter_at, source_at, quiet, idle, bare, blank, vacant, of_port, of_counter, reset_of}
use Rattle.rules.specs.With.{with_master, with_vector, with_port, with_pattern, with_transfer, with_counter, with_ioe, with_pair, with_port_mode, with_handshake}
use Rattle.rules.specs.With.{with_polarity, with_direction, with_special, with_transition, with_constant, with_mode, with_outside}
use Rattle.rules.specs.Registers.{reset, port_on, port_enabled, counter_on, counter_enabled, kept, commanded, later_config, later_port_mode, later_handshake, later_priority, later_counter_mode}
use Rattle.rules.specs.Counters.{commanded_by}
use Rattle.rules.specs.Handshakes.{outputs, ore_at}
use Rattle.rules.specs.PortData.{direction_at, put_of, written_data}
use Rattle.rules.specs.Access.{master_written, config_written, clears_ip, port_commanded, counter_commanded, data_written, set_up, written_of}
use Rattle.rules.specs.Sound.{later_port}
use Rattle.rules.specs.Events.{outside_set}
use Rattle.basics.proofs.Tests.{left, right, never, by-test}
use Rattle.basics.proofs.Places.{each2, each3, each5, set_keeps, set_gives}
use Rattle.theorems.proofs.Parts.{Version, SourceSound, CounterSound, FourBits, Cleared, Base}
use Rattle.theorems.proofs.Addresses.{later_kind, full_kind}
use Rattle.theorems.proofs.CounterLaws.{commanded-sound, enabled-sound, constant-sound, mode-sound}
use Rattle.theorems.proofs.SourceLaws.{commanded-source, commanded-ip}
use Rattle.theorems.proofs.TransferLaws.{vacant-sound, settings-kept, output-free, kept-sound, pair-sound}
use Rattle.theorems.proofs.PortLaws.{kept-four, polarity-four, direction-four, special-four, outside-four, data-four}
use Rattle.theorems.proofs.Stores.{awake, one-port, cleared-ports, TransferBy, TransferAt, base-ports, base-pattern, base-transfer, base-counter, base-source}
use Rattle.theorems.proofs.Moves.{stored-base}

-- ---- reset, and register 00
pub reset-cleared : (d : Device) → Cleared (reset_of d)
unfolding reset_of
reset-cleared d =
    record {
      master = refl;
      config = refl;
      vectors = each3 (λ v. get_or (0 ∷ 0 ∷ 0 ∷ []) v 0 ≡ 0) refl refl refl;
      ports = each3 (λ p. port_at (reset_of d) p ≡ bare (port_at (reset_of d) p).outside) refl refl refl;
      patterns = each2 (λ p. pattern_at (reset_of d) p ≡ blank) refl refl;
      transfers = each2 (λ p. transfer_at (reset_of d) p ≡ vacant) refl refl;
      counters = each3 (λ i. counter_at (reset_of d) i ≡ idle) refl refl refl;
      sources = each5 (λ k. source_at (reset_of d) k ≡ quiet) refl refl refl refl refl;
      phase = refl;
    }

idle-sound : (n : ℕ) (e : Bool) → CounterSound n e idle
unfolding later_counter_mode
idle-sound n e = record { mode = refl; cip = λ p. never refl p; half = λ p. never refl p; frozen = λ _. refl; pulse = λ p. never refl p }

quiet-sound : SourceSound quiet
quiet-sound = record { err = λ p. p; hidden = λ p. p }

-- a bit port is of either version
blank-now : (n : ℕ) → later_port n blank ≡ false
unfolding later_port_mode later_handshake later_priority
blank-now n = simp (le-ltb (cond (eqb n 1) 0 2) 0 (omega arith), and-false)

pub reset-base : (d : Device) → Version d.version → (port_at d 2).outside < 16 → Base (reset_of d)
unfolding reset_of later_config
reset-base d v h =
    record {
      version = v;
      config = refl;
      modes = each2 (λ p. later_port d.version (pattern_at (reset_of d) p) ≡ false) (blank-now d.version) (blank-now d.version);
      transfers =
          each2 (λ p. TransferAt (reset_of d) p (pattern_at (reset_of d) p) (transfer_at (reset_of d) p)) (vacant-sound _ _ _ _) (vacant-sound _ _ _ _);
      counters =
          each3 (λ i. CounterSound d.version (counter_enabled (reset_of d) i) (counter_at (reset_of d) i)) (idle-sound _ _) (idle-sound _ _) (idle-sound _ _);
      sources = each5 (λ k. SourceSound (source_at (reset_of d) k)) quiet-sound quiet-sound quiet-sound quiet-sound quiet-sound;
      four = record { polarity = lit< tt; direction = lit< tt; special = lit< tt; output = lit< tt; outside = h; catcher = lit< tt };
      held = λ _. reset-cleared d;
    }

pub master-base : (d : Device) (b : ℕ) → Base d → Base (master_written d b)
unfolding master_written
master-base d b h =
    by-test Base (bit b 0) (reset_of d) (with_master d b) (λ _. reset-base d h.version h.four.outside)
    (λ z.
    record {
      version = h.version;
      config = h.config;
      modes = h.modes;
      transfers = h.transfers;
      counters = h.counters;
      sources = h.sources;
      four = h.four;
      held = λ r. never z r;
    })

-- ---- the outside levels
pub outside-base : (d : Device) (a b c : ℕ) → c < 16 → Base d → Base (outside_set d a b c)
unfolding outside_set
outside-base d a b c l h =
    let qs = with_outside (port_at d 0) a ∷ with_outside (port_at d 1) b ∷ with_outside (port_at d 2) c ∷ [] in
    base-ports d qs h
    (each2 (λ p. TransferBy d p (get_or qs p (bare 0)).output (pattern_at d p) (transfer_at d p)) (h.transfers 0 (lit< tt)) (h.transfers 1 (lit< tt)))
    (outside-four (port_at d 2) c l h.four)
    (λ k.
    cleared-ports d qs k
    (each3 (λ p. get_or qs p (bare 0) ≡ bare (get_or qs p (bare 0)).outside)
    (ap (λ (q : Port). with_outside q a) (k.ports 0 (lit< tt)))
    (ap (λ (q : Port). with_outside q b) (k.ports 1 (lit< tt)))
    (ap (λ (q : Port). with_outside q c) (k.ports 2 (lit< tt)))))

-- ---- the other registers: not under RESET
kept_small : (p b : ℕ) → So (eqb p 2) → kept p b < 16
kept_small p b e = subst (λ (n : ℕ). kept n b < 16) (sym (eqb-true p 2 e)) (kept-four b)

data-small : (q : Port) (direction p b : ℕ) → So (eqb p 2) → FourBits q → FourBits (written_data q direction p b)
data-small q direction p b e h = subst (λ (n : ℕ). FourBits (written_data q direction n b)) (sym (eqb-true p 2 e)) (data-four q direction b h)

-- past the two patterns there is no port with handshake
of-two-by : (d : Device) → Shaped d → (p : ℕ) (t : Bool) → ltb p 2 ≡ t → So (outputs (pattern_at d p)) → p < 2
of-two-by d k p true e w = ltb-true p 2 e
of-two-by d k p false e w =
    let past = ltb-false p 2 e in
    never (ap (λ (q : Pattern). outputs q) (get_or-eq_default d.patterns blank (omega (arith, past, k.patterns)))) w

of_two : (d : Device) → Shaped d → (p : ℕ) → So (outputs (pattern_at d p)) → p < 2
of_two d k p w = of-two-by d k p _ refl w

with-room : (o r : Bool) → So o → (o && not r) ≡ false → So r
with-room true true w h = refl
with-room true false w h = sym h
with-room false r w h = never refl w

-- a source of a port is none of a counter
no-port : (p i : ℕ) → of_port p ≡ of_counter i → ⊥
no-port p i e = omega arith

-- the third of three settings anew, and the second
third-anew : (a b c x : Bool) → (a || b || c) ≡ false → x ≡ false → (a || b || x) ≡ false
third-anew true b c x h g = h
third-anew false true c x h g = h
third-anew false false c x h g = g

second-anew : (a b c x : Bool) → (a || b || c) ≡ false → x ≡ false → (a || x || c) ≡ false
second-anew true b c x h g = h
second-anew false true c x h g = never h refl
second-anew false false c x h g = simp (h, g)

module _ (d : Device) (h : Base d) (z : reset d ≡ false) where
  config-base : (b : ℕ) → later_config b ≡ false → Base (config_written d b)
  unfolding config_written
  config-base b l =
      record {
        version = h.version;
        config = l;
        modes = h.modes;
        transfers =
            each2 (λ p. TransferAt (config_written d b) p (pattern_at d p) (transfer_at (config_written d b) p))
            (kept-sound (port_on b 0) (h.transfers 0 (lit< tt))) (kept-sound (port_on b 1) (h.transfers 1 (lit< tt)));
        counters =
            each3 (λ i. CounterSound d.version (counter_enabled (config_written d b) i) (counter_at (config_written d b) i))
            (enabled-sound (counter_on b 0) (counter_at d 0) (h.counters 0 (lit< tt)))
            (enabled-sound (counter_on b 1) (counter_at d 1) (h.counters 1 (lit< tt)))
            (enabled-sound (counter_on b 2) (counter_at d 2) (h.counters 2 (lit< tt)));
        sources = h.sources;
        four = h.four;
        held = λ r. never z r;
      }

  vector-base : (v b : ℕ) → Base (with_vector d v b)
  vector-base v b =
      record {
        version = h.version;
        config = h.config;
        modes = h.modes;
        transfers = h.transfers;
        counters = h.counters;
        sources = h.sources;
        four = h.four;
        held = λ r. never z r;
      }

  port-base : (p : ℕ) (q : Port)
      → (TransferAt d p (pattern_at d p) (transfer_at d p) → TransferBy d p q.output (pattern_at d p) (transfer_at d p))
      → (So (eqb p 2) → FourBits (port_at d p) → FourBits q) → Base (with_port d p q)
  port-base p q t f =
      base-ports d (set d.ports p q) h
      (λ j l. set_keeps (λ j r. TransferBy d j r.output (pattern_at d j) (transfer_at d j)) d.ports p j q (bare 0) t (h.transfers j l))
      (set_keeps (λ j r. So (eqb j 2) → FourBits r) d.ports p 2 q (bare 0) (λ g e. f e (g e)) (λ _. h.four) refl) (awake z)

  counter-base : (i : ℕ) (c : Counter) → (CounterSound d.version (counter_enabled d i) (counter_at d i) → CounterSound d.version (counter_enabled d i) c)
      → Base (with_counter d i c)
  counter-base i c f = base-counter d i c h f (awake z)

  -- a pattern with the port's mode and handshake as they are
  pattern-base : (p : ℕ) (q : Pattern) → (later_port d.version (pattern_at d p) ≡ false → later_port d.version q ≡ false)
      → q.mode ≡ (pattern_at d p).mode → q.handshake ≡ (pattern_at d p).handshake → Base (with_pattern d p q)
  pattern-base p q f m n = base-pattern d p q h f (settings-kept m n) (awake z)

  -- and a port set up anew, which holds nothing
  emptied : (p : ℕ) → Base (with_transfer d p vacant)
  emptied p = base-transfer d p vacant h (λ _. vacant-sound _ _ _ _) (awake z)

  set-up-base : (p : ℕ) (q : Pattern) → (later_port d.version (pattern_at d p) ≡ false → later_port d.version q ≡ false) → Base (set_up d p q)
  set-up-base p q f =
      let e = with_transfer d p vacant in
      base-pattern e p q (emptied p) f
      (λ _. set_gives (λ t. TransferAt e p q t) d.transfers p vacant vacant (vacant-sound _ _ _ _) (vacant-sound _ _ _ _)) (awake z)

  port-command-base : (p b : ℕ) → Base (port_commanded d p b)
  unfolding port_commanded
  port-command-base p b =
      let s = source_at d (of_port p) in
      let keeps = not (clears_ip (b / 32)) in
      let t = with_pair (transfer_at d p) ((transfer_at d p).pair && keeps) in
      let halved : So (get_or (set d.transfers p t) p vacant).pair → So keeps =
      set_gives (λ u. So u.pair → So keeps) d.transfers p t vacant (right (transfer_at d p).pair keeps) (λ n. never refl n) in
      let e = with_transfer d p t in
      let f = with_pattern e p (with_ioe (pattern_at d p) (bit b 0)) in
      base-source f (of_port p) (commanded s (b / 32))
      (base-pattern e p (with_ioe (pattern_at d p) (bit b 0)) (base-transfer d p t h (pair-sound (transfer_at d p) keeps) (awake z)) (λ m. m)
      (settings-kept refl refl) (awake z))
      (commanded-source s (b / 32))
      (λ j q r. commanded-ip s (b / 32) (halved (subst (λ (i : ℕ). So (transfer_at e i).pair) (one-port j p q) r))) (awake z)

  counter-command-base : (i b : ℕ) → Base (counter_commanded d i b)
  unfolding counter_commanded
  counter-command-base i b =
      base-source (with_counter d i (commanded_by (counter_enabled d i) b (counter_at d i))) (of_counter i) (commanded (source_at d (of_counter i)) (b / 32))
      (counter-base i (commanded_by (counter_enabled d i) b (counter_at d i)) (commanded-sound b (counter_at d i)))
      (commanded-source (source_at d (of_counter i)) (b / 32)) (λ p q _. absurd (no-port p i q)) (awake z)

  -- the data: an enabled output port with room holds the byte; else it goes to the output register alone
  data-base : Shaped d → (p b : ℕ) → full_kind d (Data p) ≡ false → Base (data_written d p b)
  unfolding data_written written_data put_of
  data-base k p b f =
      let o = outputs (pattern_at d p) in
      by-test Base (o && port_enabled d p) _ _
      (λ w.
      let l = of_two d k p (left o (port_enabled d p) w) in
      stored-base d p l z h k b (left o (port_enabled d p) w) (right o (port_enabled d p) w) (with-room o (ore_at d p) (left o (port_enabled d p) w) (simp (lt-ltb p 2 l) at f)))
      (λ w. port-base p (written_data (port_at d p) (direction_at d p) p b) (output-free _ w) (data-small (port_at d p) (direction_at d p) p b))

  pub written-base : Shaped d → (k : Kind) (b : ℕ) → later_kind d k b ≡ false → full_kind d k ≡ false → Base (written_of d k b)
  unfolding written_of
  written-base s Master b l f = master-base d b h
  written-base s Config b l f = config-base b l
  written-base s (Vector v) b l f = vector-base v b
  written-base s (Polarity p) b l f =
      port-base p (with_polarity (port_at d p) (kept p b)) (λ t. t) (λ e g. polarity-four (port_at d p) (kept p b) (kept_small p b e) g)
  written-base s (Direction p) b l f =
      port-base p (with_direction (port_at d p) (kept p b)) (λ t. t) (λ e g. direction-four (port_at d p) (kept p b) (kept_small p b e) g)
  written-base s (Special p) b l f =
      port-base p (with_special (port_at d p) (kept p b)) (λ t. t) (λ e g. special-four (port_at d p) (kept p b) (kept_small p b e) g)
  written-base s (PortCommand p) b l f = port-command-base p b
  written-base s (CounterCommand i) b l f = counter-command-base i b
  written-base s (Data p) b l f = data-base s p b f
  written-base s (Current i high) b l f = h
  written-base s (Constant i high) b l f =
      counter-base i (with_constant (counter_at d i) (with_byte high (counter_at d i).constant b))
      (constant-sound (counter_at d i) (with_byte high (counter_at d i).constant b))
  written-base s (CounterMode i) b l f = counter-base i (with_mode (counter_at d i) b) (mode-sound (counter_at d i) b l)
  written-base s CurrentVector b l f = h
  written-base s (PortMode p) b l f = set-up-base p (with_port_mode (pattern_at d p) b) (λ _. l)
  written-base s (Handshake p) b l f = set-up-base p (with_handshake (pattern_at d p) b) (λ m. second-anew (later_port_mode d.version (pattern_at d p).mode) _ _ _ m l)
  written-base s (PatternPolarity p) b l f = pattern-base p _ (λ m. m) refl refl
  written-base s (Transition p) b l f =
      pattern-base p (with_transition (pattern_at d p) b)
      (λ m. third-anew (later_port_mode d.version (pattern_at d p).mode) (later_handshake (pattern_at d p).mode (pattern_at d p).handshake) _ _ m l) refl refl
  written-base s (Mask p) b l f = pattern-base p _ (λ m. m) refl refl
  written-base s Absent b l f = h
