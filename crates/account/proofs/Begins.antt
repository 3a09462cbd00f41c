-- Where an account may begin nothing is held: by a port that is not enabled, right after an event that resets it, disables it or sets it
-- up again, and right after the write that enables it.
-- Assumes nothing.
use Rattle.std.specs.Prelude.{◌==◌}
use Prim.Native.Nat.{ℕ, ◌+◌, ◌*◌, ◌<◌}
use mathlib.Core.Path.{◌≡◌, refl, ap, ◌∙◌}
use mathlib.Core.Bool.{Bool, true, false, not, ◌&&◌, ◌||◌, So, and-false}
use mathlib.Core.List.{[], ◌∷◌}
use borrow.Author.Tests.{eqb-true}
use Rattle.rules.specs.declared.Device.{Device}
use Rattle.rules.specs.declared.Event.{Event}
use Rattle.rules.specs.declared.Kind.{Kind}
use Rattle.rules.specs.declared.Kind.TheVariants.{Master, Config, PortMode, Handshake}
use Rattle.rules.specs.declared.Pattern.{Pattern}
use Rattle.rules.specs.declared.Transfer.{Transfer}
use Rattle.basics.specs.Byte.{bit}
use Rattle.rules.specs.Record.{Shaped, transfer_at, vacant, reset_of}
use Rattle.rules.specs.Registers.{reset, port_kind, kind_in, kind_of, port_on, port_enabled}
use Rattle.rules.specs.Handshakes.{ackin_at}
use Rattle.rules.specs.Moves.{works_at, falls}
use Rattle.rules.specs.Access.{master_written, kept_by, config_written, set_up, written_of}
use Rattle.rules.specs.Sound.{sound_of}
use Rattle.rules.specs.Events.{is_x, is_w, effect, write_effect, effect_of}
use Rattle.basics.proofs.Tests.{left, right, each, not_so, by-test}
use Rattle.basics.proofs.Places.{each2, set_gives}
use Rattle.theorems.proofs.Clauses.{sound-parts}
use Rattle.theorems.proofs.Refusals.{accepted-sound}
use Rattle.theorems.proofs.Shapes.{written-shaped}
use Rattle.theorems.proofs.Soundness.{event-sound}
use Rattle.theorems.proofs.Writes.{reset-cleared}
use Rattle.account.specs.Account.{after, is_accepted, held_of, ends_account}
use Rattle.account.proofs.Held.{inside}
use Rattle.account.proofs.Kept.{Alike, alike-trans, moves-alike, relined-transfer, Around}
use Rattle.account.proofs.Lines.{no-rise, ackin-alike}
use Rattle.account.proofs.Moved.{still-held}
use Rattle.account.proofs.Turns.{either, code, after-by, around-by}

-- one of two
or-so : {C : Type 0} (a b : Bool) → (So a → C) → (So b → C) → So (a || b) → C
or-so true b f g h = f refl
or-so false b f g h = g h

-- the mode and the handshake register of port p
mode-kind : (p : ℕ) → p < 2 → kind_of (0x20 + 8 * p) ≡ PortMode p
unfolding kind_of kind_in port_kind
mode-kind = each2 (λ p. kind_of (0x20 + 8 * p) ≡ PortMode p) refl refl

handshake-kind : (p : ℕ) → p < 2 → kind_of (0x21 + 8 * p) ≡ Handshake p
unfolding kind_of kind_in port_kind
handshake-kind = each2 (λ p. kind_of (0x21 + 8 * p) ≡ Handshake p) refl refl

-- ---- a port that is not enabled
module _ (p : ℕ) (two : p < 2) (d : Device) (s : sound_of d ≡ true) (off : port_enabled d p ≡ false) where
  disabled-vacant : transfer_at d p ≡ vacant
  disabled-vacant = ((sound-parts d s).base.transfers p two).held (simp (off, and-false))

  pub disabled-empty : held_of d p ≡ []
  unfolding held_of
  disabled-empty = ap inside disabled-vacant

-- ---- a step, from the record d over its direct effect d1 to f
module _ (p : ℕ) (two : p < 2) {d d1 f : Device} (a : Around p d d1 f) where
  around-alike : Alike d1 f
  around-alike = alike-trans a.before (alike-trans (moves-alike p d a.meets) a.later)

  -- where ACKIN does not fall and the direct effect leaves nothing, nothing is held
  still-empty : falls d a.meets p ≡ false → transfer_at d1 p ≡ vacant → held_of f p ≡ []
  unfolding held_of
  still-empty steady none = ap inside a.left ∙ still-held a.meets a.shaped p two d steady ∙ ap inside (a.found ∙ none)

-- ---- an event that is accepted
module _ (p : ℕ) (two : p < 2) (d : Device) (h : Shaped d) (e : Event) (taken : is_accepted d e ≡ true) where
  sound : sound_of d ≡ true
  sound = accepted-sound d e (code p d e taken)

  -- the effect is known, and leaves nothing
  empty-by : (f : Device) → effect_of d e ≡ effect f 0 → transfer_at f p ≡ vacant → held_of (after d e) p ≡ []
  unfolding held_of
  empty-by f q none = ap inside (ap (λ (g : Device). transfer_at g p) (after-by p d e taken (effect f 0) q) ∙ relined-transfer f p ∙ none)

  reset-empty : So (is_x e) → held_of (after d e) p ≡ []
  unfolding effect_of
  reset-empty x = empty-by (reset_of d) (simp (eqb-true e.kind 0 x)) ((reset-cleared d).transfers p two)

  -- the port is left not enabled
  off-empty : port_enabled (after d e) p ≡ false → held_of (after d e) p ≡ []
  off-empty off = disabled-empty p two (after d e) (event-sound d e h sound) off

  module _ (w : So (is_w e)) where
    abbrev unheard : Bool
    unheard = reset d && not (e.a == 0x00)

    -- under RESET nothing is held, and a write other than to 00H does nothing
    unheard-empty : So unheard → held_of (after d e) p ≡ []
    unfolding effect_of write_effect
    unheard-empty u =
        empty-by d (simp (eqb-true e.kind 1 w, u)) (((sound-parts d sound).base.held (left (reset d) (not (e.a == 0x00)) u)).transfers p two)

    -- any other is a step, which leaves the port not enabled, or leaves nothing while ACKIN does not fall
    module _ (k : Kind) (q : kind_of e.a ≡ k) where
      stepped : unheard ≡ false → Around p d (written_of d k e.b) (after d e)
      unfolding effect_of write_effect
      stepped u = around-by p d e taken two (written_of d k e.b) (written-shaped d h k e.b) (simp (eqb-true e.kind 1 w, u, q))

      off-by : port_enabled (written_of d k e.b) p ≡ false → held_of (after d e) p ≡ []
      off-by off = either unheard unheard-empty (λ u. off-empty (ap (λ n. port_on n p) (around-alike p two (stepped u)).config ∙ off))

      steady_by : ((a : Around p d (written_of d k e.b) (after d e)) → falls d a.meets p ≡ false) → transfer_at (written_of d k e.b) p ≡ vacant
          → held_of (after d e) p ≡ []
      steady_by steady none = either unheard unheard-empty (λ u. still-empty p two (stepped u) (steady (stepped u)) none)

    -- ---- to 00H with D0, and to 01H without the port's enable
    abbrev resets : Bool
    resets = e.a == 0x00 && bit e.b 0

    abbrev disables : Bool
    disables = e.a == 0x01 && not (port_on e.b p)

    resets-empty : So resets → held_of (after d e) p ≡ []
    unfolding kind_of kind_in written_of master_written reset_of port_on
    resets-empty t =
        off-by Master (ap kind_of (eqb-true e.a 0x00 (left (e.a == 0x00) (bit e.b 0) t)))
        (simp (right (e.a == 0x00) (bit e.b 0) t) (each2 (λ p. port_on 0x00 p ≡ false) refl refl p two))

    disables-empty : So disables → held_of (after d e) p ≡ []
    unfolding kind_of kind_in written_of config_written
    disables-empty t =
        off-by Config (ap kind_of (eqb-true e.a 0x01 (left (e.a == 0x01) (not (port_on e.b p)) t)))
        (not_so (port_on e.b p) (right (e.a == 0x01) (not (port_on e.b p)) t))

    -- ---- to its mode or handshake register: the levels stay, so ACKIN does not fall
    set-up-empty : (k : Kind) (q : Pattern) → kind_of e.a ≡ k → written_of d k e.b ≡ set_up d p q → held_of (after d e) p ≡ []
    unfolding falls ackin_at
    set-up-empty k q n s =
        steady_by k n
        (λ a. simp (ackin-alike p a.before, ap (λ (f : Device). ackin_at f p) s, no-rise (ackin_at d p), and-false))
        (ap (λ (f : Device). transfer_at f p) s ∙ set_gives (λ (t : Transfer). t ≡ vacant) d.transfers p vacant vacant refl refl)

    mode-empty : So (e.a == 0x20 + 8 * p) → held_of (after d e) p ≡ []
    unfolding written_of
    mode-empty t = set-up-empty (PortMode p) _ (ap kind_of (eqb-true e.a (0x20 + 8 * p) t) ∙ mode-kind p two) refl

    handshake-empty : So (e.a == 0x21 + 8 * p) → held_of (after d e) p ≡ []
    unfolding written_of
    handshake-empty t = set-up-empty (Handshake p) _ (ap kind_of (eqb-true e.a (0x21 + 8 * p) t) ∙ handshake-kind p two) refl

    -- all four
    abbrev drops : Bool
    drops = resets || disables || e.a == 0x20 + 8 * p || e.a == 0x21 + 8 * p

    drops-empty : So drops → held_of (after d e) p ≡ []
    drops-empty =
        or-so (resets || disables || e.a == 0x20 + 8 * p) (e.a == 0x21 + 8 * p)
        (or-so (resets || disables) (e.a == 0x20 + 8 * p) (or-so resets disables resets-empty disables-empty) mode-empty) handshake-empty

    -- ---- to 01H, of a port that was not enabled: its lines were ignored
    enables-empty : port_enabled d p ≡ false → e.a ≡ 0x01 → held_of (after d e) p ≡ []
    unfolding kind_of kind_in written_of config_written kept_by falls works_at
    enables-empty off a =
        steady_by Config (ap kind_of a) (λ _. simp (off, and-false))
        (each2 (λ p. transfer_at d p ≡ vacant → transfer_at (config_written d e.b) p ≡ vacant)
        (λ v. by-test (λ (t : Transfer). t ≡ vacant) (port_on e.b 0) _ _ (λ _. v) (λ _. refl))
        (λ v. by-test (λ (t : Transfer). t ≡ vacant) (port_on e.b 1) _ _ (λ _. v) (λ _. refl)) p two (disabled-vacant p two d sound off))

-- ---- any event
module _ (p : ℕ) (two : p < 2) (d : Device) (h : Shaped d) (e : Event) where
  -- right after an event that ends an account nothing is held
  pub begins-empty : ends_account p d e ≡ true → held_of (after d e) p ≡ []
  unfolding ends_account
  begins-empty t =
      let taken = left (is_accepted d e) _ t in
      or-so (is_x e) _ (reset-empty p two d h e taken) (λ u. drops-empty p two d h e taken (left (is_w e) _ u) (right (is_w e) _ u))
      (right (is_accepted d e) _ t)

  -- nor right after an accepted W to 01H before which the port was not enabled, so after the one that enables it
  pub enabled-empty : port_enabled d p ≡ false → So (is_w e && e.a == 0x01 && is_accepted d e) → held_of (after d e) p ≡ []
  enabled-empty off t =
      let part = each (is_w e ∷ (e.a == 0x01) ∷ is_accepted d e ∷ []) t in
      enables-empty p two d h e (part 2) (part 0) off (eqb-true e.a 0x01 (part 1))
