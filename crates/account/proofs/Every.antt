-- Paper 02, W-207: every byte leaves once. Of port A or B, with either handshake, with and without SB and ITB, from any sound record, over
-- any events in which the port is not reset, disabled or set up again.
-- Assumes nothing.
use Prim.Native.Nat.{ℕ, ◌≤◌, ◌<◌}
use mathlib.Core.Path.{◌≡◌, sym, ap, subst, ◌∙◌}
use mathlib.Core.Bool.{true, or-true}
use mathlib.Core.List.{List, [], ◌++◌, append-nil}
use lib.Dec.{lit<}
use lib.ListN.{get_or}
use Rattle.rules.specs.declared.Device.{Device}
use Rattle.rules.specs.declared.Event.{Event}
use Rattle.rules.specs.Record.{Shaped, pattern_at}
use Rattle.rules.specs.Registers.{port_enabled}
use Rattle.rules.specs.Handshakes.{inputs, outputs}
use Rattle.rules.specs.Sound.{sound_of}
use Rattle.theorems.specs.Traces.{record_after}
use Rattle.account.specs.Account.{data_written_by, acknowledged_by, strobed_by, read_by, held_of, HoldsBytes, over, account_stands}
use Rattle.account.specs.Account.{OutputAccount, InputAccount, Driven, acknowledged_at_pins, strobed_at_pins, Throughout, times}
use Rattle.account.proofs.Over.{account, over-same, no_more}
use Rattle.account.proofs.Standing.{Takes, takes-after, takes_one, takes-pins, Gives, gives_after, gives_one, gives-pins}

-- nothing held before, and nothing after
begun : (held comes goes : List ℕ) → held ≡ [] → held ++ comes ≡ goes → goes ≡ comes
begun held comes goes h e = sym e ∙ ap (λ (m : List ℕ). m ++ comes) h

emptied : (goes left comes : List ℕ) → left ≡ [] → goes ++ left ≡ comes → goes ≡ comes
emptied goes left comes g e = sym (append-nil goes) ∙ ap (λ (m : List ℕ). goes ++ m) (sym g) ∙ e

module _ (p : ℕ) (two : p < 2) (d : Device) (h : Shaped d) (s : sound_of d ≡ true) (on : port_enabled d p ≡ true)
    (l : List Event) (st : account_stands p d l ≡ true) where
  -- ---- output
  module _ (o : outputs (pattern_at d p) ≡ true) where
    module _ (b : HoldsBytes p d) where
      gives : Gives p d
      gives = record { standing = record { shaped = h; sound = s; enabled = on; shaken = simp (o, or-true) }; output = o; bytes = b }

      -- what was held at the start and then the bytes written with code 0 are the bytes acknowledged and then those still held, in order
      pub output : OutputAccount p d l
      output = account p (Gives p) (gives_after p two) (data_written_by p) (acknowledged_by p) (gives_one p two) d l st gives

      -- no byte is acknowledged more often than it was written, or held at the start
      pub never-more-often : (x : ℕ) → times x (over (acknowledged_by p) d l) ≤ times x (held_of d p ++ over (data_written_by p) d l)
      never-more-often x = no_more x _ _ _ output

      -- and so at the pins themselves, where the special bits are 0
      pub acknowledged-at-pins : Throughout (Driven p) d l → over (acknowledged_at_pins p) d l ≡ over (acknowledged_by p) d l
      acknowledged-at-pins =
          over-same p (Gives p) (gives_after p two) (Driven p) (acknowledged_at_pins p) (acknowledged_by p) (gives-pins p two) d l st gives

      pub output-at-pins : Throughout (Driven p) d l
          → held_of d p ++ over (data_written_by p) d l ≡ over (acknowledged_at_pins p) d l ++ held_of (record_after d l) p
      output-at-pins driven = output ∙ ap (λ (m : List ℕ). m ++ held_of (record_after d l) p) (sym (acknowledged-at-pins driven))

    -- "the bytes acknowledged outside, followed by those still held, are exactly the bytes written with code 0, in their order": where
    -- nothing was held at the start, as where the port has just been set up or enabled (Begins)
    pub written_once : held_of d p ≡ [] → over (acknowledged_by p) d l ++ held_of (record_after d l) p ≡ over (data_written_by p) d l
    written_once none = begun _ _ _ none (output (λ k. subst (λ (m : List ℕ). get_or m k 0 < 256) (sym none) (lit< tt)))

    -- after an account with nothing held, all that was written has left, in order
    pub all_left : held_of d p ≡ [] → held_of (record_after d l) p ≡ [] → over (acknowledged_by p) d l ≡ over (data_written_by p) d l
    all_left none empty = emptied _ _ _ empty (written_once none)

  -- ---- input
  module _ (i : inputs (pattern_at d p) ≡ true) where
    takes : Takes p d
    takes = record { standing = record { shaped = h; sound = s; enabled = on; shaken = simp i }; input = i }

    -- what was held and then the bytes strobed in while ready was shown are the bytes read with code 0 and then those still held, in order
    pub input : InputAccount p d l
    input = account p (Takes p) (takes-after p two) (strobed_by p) (read_by p) (takes_one p two) d l st takes

    -- no byte is read more often than it was strobed in, or held at the start
    pub never-read-more-often : (x : ℕ) → times x (over (read_by p) d l) ≤ times x (held_of d p ++ over (strobed_by p) d l)
    never-read-more-often x = no_more x _ _ _ input

    -- "the bytes read with code 0, followed by those held, are exactly those strobed in while ready was shown": where nothing was held at
    -- the start
    pub read-once : held_of d p ≡ [] → over (read_by p) d l ++ held_of (record_after d l) p ≡ over (strobed_by p) d l
    read-once none = begun _ _ _ none input

    -- after an account with nothing held, all that was strobed in has been read, in order
    pub all_read : held_of d p ≡ [] → held_of (record_after d l) p ≡ [] → over (read_by p) d l ≡ over (strobed_by p) d l
    all_read none empty = emptied _ _ _ empty (read-once none)

    -- and so at the pins themselves
    pub strobed-at-pins : Throughout (Driven p) d l → over (strobed_at_pins p) d l ≡ over (strobed_by p) d l
    strobed-at-pins =
        over-same p (Takes p) (takes-after p two) (Driven p) (strobed_at_pins p) (strobed_by p) (takes-pins p two) d l st takes

    pub input-at-pins : Throughout (Driven p) d l
        → held_of d p ++ over (strobed_at_pins p) d l ≡ over (read_by p) d l ++ held_of (record_after d l) p
    input-at-pins driven = ap (λ (m : List ℕ). held_of d p ++ m) (strobed-at-pins driven) ∙ input
