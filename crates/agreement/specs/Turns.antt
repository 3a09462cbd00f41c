-- A line of TRACE and one of BOARD, as they are kept. "The bench": "TRACE is an input of `trace`; BOARD has the board's answers, one line
-- for each".
-- Assumes nothing.
use Rattle.std.specs.Prelude.{ℕ, ◌+◌, ◌&&◌, not, Option, Some, None, List, ltb, length, take, drop, if◌then◌else◌, ◌==◌}
use Rattle.chip.specs.declared.Chip.{Chip}
use Rattle.rules.specs.declared.Answer.{Answer}
use Rattle.rules.specs.declared.Outcome.{Outcome}
use Rattle.chip.specs.Chips.{event_chip}
use Rattle.lines.specs.Lines.{says_of, event_in, line_of}
use Rattle.lines.specs.Pieces.{feed_at}
use Rattle.texts.specs.declared.Text.{Text}
use Rattle.bench_lines.specs.Agreed.{agreed_to}
use Rattle.bench_lines.specs.Compared.{compared_kept}
use Rattle.agreement.specs.declared.parting.Abreast.{Abreast}
use Rattle.agreement.specs.declared.Turn.{Turn}

-- what the event of a line does
abbrev pub outcome_said : Chip → Text → Outcome Chip Answer
outcome_said d event = event_chip d (event_in (says_of event))

-- the device after it, the model's answer, and that answer beside the board's line
unfoldable pub beside_of : Chip → Text → Text → Turn
beside_of d event board =
    record {
      device = (outcome_said d event).device;
      model = (outcome_said d event).answer;
      compared = compared_kept (outcome_said d event).answer board;
    }

-- ---- lines that are read where they stand, in what was read of both files
-- one line more of both, if both end there and agree
unfoldable pub onward_of : Abreast → List ℕ → List ℕ → Option Abreast
onward_of a read measured =
    let m = drop a.event read in
    let o = event_chip a.device (event_in (line_of (take (feed_at m) m))) in
    let next = agreed_to o.answer measured a.board in
    if ltb (feed_at m) (length m) && ltb a.agreed 18446744073709551615 && not (next == a.board)
    then Some (record { device = o.device; event = a.event + feed_at m + 1; board = next; agreed = a.agreed + 1 }) else None
