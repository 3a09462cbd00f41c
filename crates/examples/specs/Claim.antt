-- What an example claims: events from the fresh device, of either version, each with its whole answer.
-- Assumes nothing.
use Rattle.std.specs.Prelude.{ℕ, ◌≡◌, true, List, [], ◌∷◌, eqb}
use Rattle.rules.specs.declared.Device.{Device}
use Rattle.rules.specs.declared.Event.{Event}
use Rattle.rules.specs.declared.Answer.{Answer}
use Rattle.rules.specs.declared.Outcome.{Outcome}
use Rattle.rules.specs.Record.{reset_to}
use Rattle.rules.specs.Events.{event_of}

-- ---- the events, as a line of a trace writes them
-- "X: hardware reset. W address byte. R address. P a b c: outside pin levels. T n: n PCLK clocks. K: acknowledge."
abbrev pub X : Event
X = record { kind = 0; a = 0; b = 0; c = 0 }

abbrev pub W : ℕ → ℕ → Event
W address byte = record { kind = 1; a = address; b = byte; c = 0 }

abbrev pub R : ℕ → Event
R address = record { kind = 2; a = address; b = 0; c = 0 }

abbrev pub P : ℕ → ℕ → ℕ → Event
P a b c = record { kind = 3; a = a; b = b; c = c }

abbrev pub T : ℕ → Event
T n = record { kind = 4; a = n; b = 0; c = 0 }

abbrev pub K : Event
K = record { kind = 5; a = 0; b = 0; c = 0 }

-- ---- the answers, as the trace program prints them: code, value, A, B, C, INT, IEO, three terminal counts and three lost
abbrev pub says : ℕ → ℕ → ℕ → ℕ → ℕ → ℕ → ℕ → ℕ → ℕ → ℕ → ℕ → ℕ → ℕ → Answer
says code value a b c int ieo t1 t2 t3 l1 l2 l3 =
    record {
      code = code;
      value = value;
      a = a;
      b = b;
      c = c;
      int = eqb int 1;
      ieo = eqb ieo 1;
      report = record { terminals = t1 ∷ t2 ∷ t3 ∷ []; lost = l1 ∷ l2 ∷ l3 ∷ [] };
    }

-- ---- a claim
-- an event, and the answer that it is to have
pub record Line : Type 0 where
  pub event : Event
  pub answer : Answer

abbrev pub line : Event → Answer → Line
line e a = record { event = e; answer = a }

-- accepted, with pins at 0, no interrupt and no terminal: `0 00 00 00 0 0 1 0 0 0 0 0 0`; and a read so answered, with its value
abbrev pub accepted : Event → Line
accepted e = line e (says 0 0x00 0x00 0x00 0x0 0 1 0 0 0 0 0 0)

abbrev pub reads : ℕ → ℕ → Line
reads address value = line (R address) (says 0 value 0x00 0x00 0x0 0 1 0 0 0 0 0 0)

-- paper 02, W-205: what the fresh device is in version 1, "a device that keeps the old rule"
abbrev pub old_of : Device
old_of = reset_to 1 0 0 0 true

-- the answers to the events of a claim, each in the record that the one before it left, from the record d
unfoldable pub answered_from : Outcome Device Answer → List Line → List Answer
answered_from o [] = o.answer ∷ []
answered_from o (l ∷ ls) = o.answer ∷ answered_from (event_of o.device l.event) ls

unfoldable pub answers_each : Device → List Line → List Answer
answers_each d [] = []
answers_each d (l ∷ ls) = answered_from (event_of d l.event) ls

unfoldable pub expected : List Line → List Answer
expected [] = []
expected (l ∷ ls) = l.answer ∷ expected ls

-- paper 02, W-208: the place that is stored after each of these events
unfoldable pub places_each : Device → List Line → List ℕ
places_each d [] = []
places_each d (l ∷ ls) = (event_of d l.event).device.lines.place ∷ places_each (event_of d l.event).device ls

-- every claim of a list is right, from the record d
abbrev pub Right : Device → List (List Line) → Type 0
Right d [] = Unit {0}
Right d (p ∷ ps) = (answers_each d p ≡ expected p) × Right d ps
