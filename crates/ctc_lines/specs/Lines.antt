-- What a line of a CTC's trace says: the lines of paper 01, and one more.
-- Assumes nothing.
use Prim.Native.Char.{code}
use Rattle.std.specs.Prelude.{ℕ, Bool, ◌&&◌, List, length, get_or, if◌then◌else◌, ◌==◌}
use Rattle.texts.specs.declared.Text.{Text}
use Rattle.texts.specs.Kept.{bytes_of}
use Rattle.lines.specs.Lines.{line_of, event_in}
use Rattle.ctc_rules.specs.declared.Ctc.{Ctc}
use Rattle.ctc_rules.specs.declared.CtcAnswer.{CtcAnswer}
use Rattle.rules.specs.declared.Outcome.{Outcome}
use Rattle.ctc_rules.specs.Events.{event_ctc, end_of_service}

-- docs/CTC.md, "Interrupts and the end of service": "In a trace it is the letter I.", alone in its line
unfoldable pub ends_service : List ℕ → Bool
ends_service w = length w == 1 && get_or w 0 0 == code "I"

-- a line of these bytes said to a device: any other says what it says to the Z8036
unfoldable pub outcome_line : Ctc → List ℕ → Outcome Ctc CtcAnswer
outcome_line d w = if ends_service w then end_of_service d else event_ctc d (event_in (line_of w))

-- a line that is kept
unfoldable pub outcome_kept : Ctc → Text → Outcome Ctc CtcAnswer
outcome_kept d t = outcome_line d (bytes_of t)
