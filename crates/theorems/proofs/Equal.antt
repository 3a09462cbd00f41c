-- The tests of the parts for equality decide it: a part that a test finds the same is equal, and each part is the same as itself.
-- Assumes nothing.
use Prim.Native.Nat.{ℕ, suc}
use mathlib.Core.Path.{◌≡◌, refl, sym, ap}
use mathlib.Core.Bool.{Bool, true, false, beq, So, false≢true}
use mathlib.Core.List.{List, [], ◌∷◌}
use lib.Dec.{eqb}
use lib.ListN.{get_or}
use borrow.Author.Tests.{eqb-true, eq-eqb}
use Rattle.rules.specs.declared.Source.{Source}
use Rattle.rules.specs.declared.Counter.{Counter}
use Rattle.rules.specs.declared.Port.{Port}
use Rattle.rules.specs.declared.Pattern.{Pattern}
use Rattle.rules.specs.declared.Transfer.{Transfer}
use Rattle.rules.specs.declared.Lines.{Lines}
use Rattle.rules.specs.With.{transfer}
use Rattle.rules.specs.Sound.{same_source, same_counter, same_port, same_pattern, same_transfer, same_lines}
use Rattle.basics.proofs.Tests.{all_of, each}

pub beq-true : (a b : Bool) → So (beq a b) → a ≡ b
beq-true true true h = refl
beq-true true false h = sym h
beq-true false true h = h
beq-true false false h = refl

pub beq-refl : (a : Bool) → So (beq a a)
beq-refl true = refl
beq-refl false = refl

pub eqb_same : (n : ℕ) → So (eqb n n)
eqb_same n = eq-eqb n n refl

-- ---- a part by the list of its fields
data Field : Type 0 where
  number : ℕ → Field
  flag : Bool → Field

abbrev test : Field → Field → Bool
test (number a) (number b) = eqb a b
test (number a) (flag g) = false
test (flag f) (number b) = false
test (flag f) (flag g) = beq f g

same-field : (x y : Field) → So (test x y) → x ≡ y
same-field (number a) (number b) h = ap number (eqb-true a b h)
same-field (number a) (flag g) h = absurd (false≢true h)
same-field (flag f) (number b) h = absurd (false≢true h)
same-field (flag f) (flag g) h = ap flag (beq-true f g h)

abbrev tests : List Field → List Field → List Bool
tests [] [] = []
tests [] (y ∷ m) = false ∷ []
tests (x ∷ l) [] = false ∷ []
tests (x ∷ l) (y ∷ m) = test x y ∷ tests l m

same-fields : (l m : List Field) → ((i : ℕ) → So (get_or (tests l m) i true)) → l ≡ m
same-fields [] [] h = refl
same-fields [] (y ∷ m) h = absurd (false≢true (h 0))
same-fields (x ∷ l) [] h = absurd (false≢true (h 0))
same-fields (x ∷ l) (y ∷ m) h = λ i. same-field x y (h 0) i ∷ same-fields l m (λ k. h (suc k)) i

-- a part that its fields make up is the same where each field is
same-part : {A : Type 0} (of : List Field → A) (l m : List Field) → So (all_of (tests l m)) → of l ≡ of m
same-part of l m h = ap of (same-fields l m (each (tests l m) h))

abbrev number_in : Field → ℕ
number_in (number a) = a
number_in (flag f) = 0

abbrev flag-in : Field → Bool
flag-in (number a) = false
flag-in (flag f) = f

abbrev num : List Field → ℕ → ℕ
num l i = number_in (get_or l i (number 0))

abbrev bool : List Field → ℕ → Bool
bool l i = flag-in (get_or l i (flag false))

abbrev source-fields : Source → List Field
source-fields s = flag s.ius ∷ flag s.ie ∷ flag s.ip ∷ flag s.err ∷ flag s.hidden ∷ []

abbrev source_of : List Field → Source
source_of l = record { ius = bool l 0; ie = bool l 1; ip = bool l 2; err = bool l 3; hidden = bool l 4 }

pub same_source_lem : (s t : Source) → So (same_source s t) → s ≡ t
unfolding same_source
same_source_lem s t h = same-part source_of (source-fields s) (source-fields t) h

pub source-same : (s : Source) → So (same_source s s)
unfolding same_source
source-same s = simp (beq-refl)

abbrev counter-fields : Counter → List Field
counter-fields c = number c.mode ∷ number c.constant ∷ number c.count ∷ number c.frozen ∷ flag c.rcc ∷ flag c.gcb ∷ flag c.cip ∷ flag c.half ∷ flag c.pulse ∷ []

abbrev counter-of : List Field → Counter
counter-of l =
    record { mode = num l 0; constant = num l 1; count = num l 2; frozen = num l 3; rcc = bool l 4; gcb = bool l 5; cip = bool l 6; half = bool l 7; pulse = bool l 8 }

pub same-counter : (c e : Counter) → So (same_counter c e) → c ≡ e
unfolding same_counter
same-counter c e h = same-part counter-of (counter-fields c) (counter-fields e) h

pub counter-same : (c : Counter) → So (same_counter c c)
unfolding same_counter
counter-same c = simp (eqb_same, beq-refl)

abbrev port-fields : Port → List Field
port-fields q = number q.polarity ∷ number q.direction ∷ number q.special ∷ number q.output ∷ number q.outside ∷ number q.catcher ∷ []

abbrev port-of : List Field → Port
port-of l = record { polarity = num l 0; direction = num l 1; special = num l 2; output = num l 3; outside = num l 4; catcher = num l 5 }

pub same-port : (q r : Port) → So (same_port q r) → q ≡ r
unfolding same_port
same-port q r h = same-part port-of (port-fields q) (port-fields r) h

pub port-same : (q : Port) → So (same_port q q)
unfolding same_port
port-same q = simp (eqb_same)

abbrev pattern-fields : Pattern → List Field
pattern-fields q = number q.mode ∷ number q.handshake ∷ number q.polarity ∷ number q.transition ∷ number q.mask ∷ flag q.ioe ∷ flag q.pmf ∷ []

abbrev pattern-of : List Field → Pattern
pattern-of l = record { mode = num l 0; handshake = num l 1; polarity = num l 2; transition = num l 3; mask = num l 4; ioe = bool l 5; pmf = bool l 6 }

pub same-pattern : (q r : Pattern) → So (same_pattern q r) → q ≡ r
unfolding same_pattern
same-pattern q r h = same-part pattern-of (pattern-fields q) (pattern-fields r) h

pub pattern-same : (q : Pattern) → So (same_pattern q q)
unfolding same_pattern
pattern-same q = simp (eqb_same, beq-refl)

abbrev transfer-fields : Transfer → List Field
transfer-fields t = number t.front ∷ number t.behind ∷ number t.bytes ∷ flag t.unfinished ∷ flag t.pair ∷ []

abbrev transfer-of : List Field → Transfer
transfer-of l = transfer (num l 0) (num l 1) (num l 2) (bool l 3) (bool l 4)

pub same-transfer : (t u : Transfer) → So (same_transfer t u) → t ≡ u
unfolding same_transfer
same-transfer t u h = same-part transfer-of (transfer-fields t) (transfer-fields u) h

pub transfer-same : (t : Transfer) → So (same_transfer t t)
unfolding same_transfer
transfer-same t = simp (eqb_same, beq-refl)

abbrev lines-fields : Lines → List Field
lines-fields l = flag l.int ∷ flag l.ieo ∷ number l.place ∷ []

abbrev lines_of : List Field → Lines
lines_of l = record { int = bool l 0; ieo = bool l 1; place = num l 2 }

pub same_lines_lem : (l m : Lines) → So (same_lines l m) → l ≡ m
unfolding same_lines
same_lines_lem l m h = same-part lines_of (lines-fields l) (lines-fields m) h

pub lines_same : (l : Lines) → So (same_lines l l)
unfolding same_lines
lines_same l = simp (eqb_same, beq-refl)
