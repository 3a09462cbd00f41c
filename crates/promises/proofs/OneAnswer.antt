-- One answer only: for each public call of each library crate, two answers that satisfy its promise for the same inputs are equal.
-- "Two answers that satisfy one promise are shown equal" (paper 01). Each theorem is about the contract as the source has it
-- (`clauses`), so a promise that is loosened loses its theorem.
-- `a.0`, `a.1.0`, .. are the parameters in their order; `x.0`, `x.1.0`, .. what the lent ones hold at exit.
-- Assumes nothing.
use Prim.Native.Nat.{◌+◌, ◌*◌, ◌%◌, ◌<◌, ℕ}
use base.Logic.{fst∗}
use contract.Monad.{fact, fact_mono}
use seplogic.Ra.Ura.{Ura}
use mathlib.Core.List.{List, []}
use mathlib.Core.Path.{◌≡◌, refl}
use Rattle.basics.specs.Buffer.{fits, laid_of}
use Rattle.basics.specs.Byte.{byte_in, byte_of, with_byte}
use Rattle.basics.specs.Iterate.{iterate}
use Rattle.bench_lines.specs.Agreed.{agreed_to}
use Rattle.bench_lines.specs.Compared.{compared_kept, compared_of}
use Rattle.bench_lines.specs.Names.{name_of}
use Rattle.bodies.specs.Taken.{states_agree, record_in, unused_clear}
use Rattle.bodies.specs.Written.{bodies_of, image_of}
use Rattle.chip.specs.Chips.{core_of, event_chip, known_chip, of_z8036, of_z8536, sound_chip}
use Rattle.chip_image.specs.ChipImage.{length_chip, restored_chip, save_code_chip, saved_chip}
use Rattle.counters.specs.Rests.{rests_by}
use Rattle.ctc_image.specs.Image.{restored_ctc, save_code_ctc, saved_ctc}
use Rattle.ctc_image.specs.Layout.{image_ctc}
use Rattle.ctc_lines.specs.Answers.{ctc_text}
use Rattle.ctc_lines.specs.Lines.{outcome_kept}
use Rattle.ctc_rules.specs.Events.{end_of_service, event_ctc}
use Rattle.ctc_rules.specs.Interrupts.{lines_ctc}
use Rattle.ctc_rules.specs.Record.{fresh_ctc}
use Rattle.ctc_rules.specs.Sound.{sound_ctc}
use Rattle.ctc_words.specs.Shown.{shown_ctc}
use Rattle.event.specs.Known.{known_of}
use Rattle.host.specs.Calls.{Called, called, fresh_code, fresh_state, host_end_ctc, host_event, host_event_ctc, host_event_z8536, host_lines, host_lines_ctc, host_lines_z8536, length_at}
use Rattle.image.specs.Image.{agree, restored_from, restored_of, save_code, saved_of}
use Rattle.image.specs.Pointed.{image_z8536, restored_z8536, save_code_z8536, saved_z8536}
use Rattle.input.specs.Input.{unread}
use Rattle.interrupts.specs.Order.{of_five}
use Rattle.levels.specs.Looks.{looks_of}
use Rattle.lines.specs.Lines.{below, clocks_in, digit_of, event_in, line_of, says_of}
use Rattle.lines.specs.Pieces.{cut_from, feed_at}
use Rattle.measure.specs.Measure.{measure_start, measured_of, table_of}
use Rattle.phrases.specs.Refusals.{refusal, trouble}
use Rattle.refusals.specs.Known.{known_code}
use Rattle.row_bridge.specs.Boards.{boarded}
use Rattle.row_lines.specs.RowLines.{device_text, head_text, row_line}
use Rattle.row_visit.specs.Visits.{acted_of, acting_of, looked_of, looking_of}
use Rattle.rows.specs.Rows.{names, row_after, row_answer}
use Rattle.rules.specs.Access.{after_read, read_of, written_of}
use Rattle.rules.specs.Counters.{commanded_by, link_of, output_of, reach_of, turn_of}
use Rattle.rules.specs.Events.{code_of, event_of}
use Rattle.rules.specs.Handshakes.{ackin_at, available_of, depth, handshakes, inputs, irf_of, offers_at, ore_of, outputs, ready_of}
use Rattle.rules.specs.Interrupts.{acknowledge, acknowledged, current_vector, fate_of, lines_of, relined, requester, vector_read}
use Rattle.rules.specs.Moves.{given_at, moves_of, stored_at}
use Rattle.rules.specs.Patterns.{on_at, hit_at, match_of, event_by, hides_by, highest_match}
use Rattle.rules.specs.PortData.{catches_at, data_at, direction_at, effective_at, path_at, pins_at, seen_at}
use Rattle.rules.specs.Record.{fresh_of, image_len, of_counter, of_port, pattern_at, register_count, reset_of}
use Rattle.rules.specs.Refusals.{refusal_number, code_in}
use Rattle.rules.specs.Registers.{commanded, counter_command_of, counter_on, kind_of, port_command_of, port_enabled, port_on, reset}
use Rattle.rules.specs.Sound.{same_counter, same_of, same_source, sound_of}
use Rattle.rules.specs.Step.{catchers, lines_at, ran_of, step_of}
use Rattle.session.specs.Sessions.{answered, answers_in, answers_last, bytes_read, fed_by, finished_by, start_of}
use Rattle.theorems.specs.Free.{full_of, terminals_after, count_after}
use Rattle.theorems.specs.Alone.{alone_after, left_by, placed_by, struck_by}
use Rattle.theorems.specs.Moving.{pair_of, paired_by}
use Rattle.theorems.specs.Used.{of}
use Rattle.step.specs.Parts.{pattern_by}
use Rattle.step.specs.Still.{has_caught}
use Rattle.texts.specs.Answers.{answer_text, count_text, decimal_text, flag_text, glyph_of, hex_text, levels_text, nibble_text}
use Rattle.texts.specs.Kept.{no_text, pushed, typed}
use Rattle.words.specs.Cells.{bit_cell, yes_cell, number_cell}
use Rattle.words.specs.Shown.{pointer_line, shown_line}
use Rattle.z8536.specs.Z8536.{event_z8536, fresh_z8536, sound_z8536}
use lib.ListN.{drop, get_or, length}
use mathlib.Core.Bool.{◌&&◌, cond, false}
use lib.Dec.{ltb}
use Rattle.ctc_rules.specs.declared.Ctc.{Ctc}
use Rattle.ctc_rules.specs.declared.CtcAnswer.{CtcAnswer}
use Rattle.rules.specs.declared.Answer.{Answer}
use Rattle.rules.specs.declared.Device.{Device}
use Rattle.rules.specs.declared.refusal.Refusal.{Refusal}
use Rattle.rules.specs.declared.Lines.{Lines}
use Rattle.std.specs.Prelude.{Result, Some, None, if◌then◌else◌}
use Rattle.rows.specs.declared.RowAnswer.{RowAnswer}
use Rattle.session.specs.declared.Fed.{Fed}
use Rattle.session.specs.declared.Told.{Told}
use Rattle.rules.specs.contracts.Source.of_port as rules·Source-of-port
use Rattle.rules.specs.contracts.Source.of_counter as rules·Source-of-counter
use Rattle.rules.specs.contracts.Refusal.number as rules·Refusal-number
use Rattle.rules.specs.contracts.code as rules·code
use Rattle.rules.specs.contracts.Device.fresh as rules·Device-fresh
use Rattle.rules.specs.contracts.Device.image_len as rules·Device-image-len
use Rattle.rules.specs.contracts.Device.registers as rules·Device-registers
use Rattle.rules.specs.contracts.Device.reset as rules·Device-reset
use Rattle.event.specs.contracts.event as event·event
use Rattle.event.specs.contracts.known as event·known
use Rattle.inplace.specs.contracts.event_in_place as inplace·event-in-place
use Rattle.inplace.specs.contracts.lines as inplace·lines
use Rattle.bridge.specs.contracts.through as bridge·through
use Rattle.rows.specs.contracts.names as rows·names
use Rattle.row_visit.specs.contracts.looked as row-visit·looked
use Rattle.row_visit.specs.contracts.acted as row-visit·acted
use Rattle.row_visit.specs.contracts.looking as row-visit·looking
use Rattle.row_visit.specs.contracts.acting as row-visit·acting
use Rattle.row.specs.contracts.event as row·event
use Rattle.row_bridge.specs.contracts.event as row-bridge·event
use Rattle.row_lines.specs.contracts.event_of_line as row-lines·event-of-line
use Rattle.row_lines.specs.contracts.head_text as row-lines·head-text
use Rattle.row_lines.specs.contracts.device_text as row-lines·device-text
use Rattle.texts.specs.contracts.Text.levels as texts·Text-levels
use Rattle.image.specs.contracts.save as image·save
use Rattle.image.specs.contracts.restore as image·restore
use Rattle.image.specs.contracts.Restored.of as image·Restored-of
use Rattle.z8536.specs.contracts.Z8536.fresh as z8536·Z8536-fresh
use Rattle.z8536.specs.contracts.sound as z8536·sound
use Rattle.event_z8536.specs.contracts.event as event-z8536·event
use Rattle.ctc_rules.specs.contracts.Ctc.fresh as ctc-rules·Ctc-fresh
use Rattle.ctc_rules.specs.contracts.sound as ctc-rules·sound
use Rattle.ctc_event.specs.contracts.event as ctc-event·event
use Rattle.ctc_event.specs.contracts.end_of_service as ctc-event·end-of-service
use Rattle.ctc_event.specs.contracts.lines as ctc-event·lines
use Rattle.ctc_place.specs.contracts.event_in_place as ctc-place·event-in-place
use Rattle.ctc_place.specs.contracts.end_of_service_in_place as ctc-place·end-of-service-in-place
use Rattle.ctc_image.specs.contracts.save as ctc-image·save
use Rattle.ctc_image.specs.contracts.restore as ctc-image·restore
use Rattle.host.specs.contracts.wolfscarer_length as host·length
use Rattle.host.specs.contracts.wolfscarer_z8036_fresh as host·z8036-fresh
use Rattle.host.specs.contracts.wolfscarer_z8036_event as host·z8036-event
use Rattle.host.specs.contracts.wolfscarer_z8036_lines as host·z8036-lines
use Rattle.host.specs.contracts.wolfscarer_z8536_fresh as host·z8536-fresh
use Rattle.host.specs.contracts.wolfscarer_z8536_event as host·z8536-event
use Rattle.host.specs.contracts.wolfscarer_z8536_lines as host·z8536-lines
use Rattle.host.specs.contracts.wolfscarer_ctc_fresh as host·ctc-fresh
use Rattle.host.specs.contracts.wolfscarer_ctc_event as host·ctc-event
use Rattle.host.specs.contracts.wolfscarer_ctc_end_of_service as host·ctc-end-of-service
use Rattle.host.specs.contracts.wolfscarer_ctc_lines as host·ctc-lines
use Rattle.ctc_lines.specs.contracts.outcome as ctc-lines·outcome
use Rattle.ctc_lines.specs.contracts.answer_text as ctc-lines·answer-text
use Rattle.ctc_words.specs.contracts.line as ctc-words·line
use Rattle.image.specs.contracts.save_z8536 as image·save-z8536
use Rattle.image.specs.contracts.restore_z8536 as image·restore-z8536
use Rattle.chip.specs.contracts.ChipFromDevice.from as chip·Chip-from-Device
use Rattle.chip.specs.contracts.ChipFromZ8536.from as chip·Chip-from-Z8536
use Rattle.chip.specs.contracts.Chip.core as chip·Chip-core
use Rattle.chip.specs.contracts.Vetted.of as chip·Vetted-of
use Rattle.chip.specs.contracts.Vetted.device as chip·Vetted-device
use Rattle.chip.specs.contracts.Vetted.event as chip·Vetted-event
use Rattle.chip.specs.contracts.event as chip·event
use Rattle.chip.specs.contracts.sound as chip·sound
use Rattle.chip.specs.contracts.known as chip·known
use Rattle.chip_image.specs.contracts.image_len as chip-image·image-len
use Rattle.chip_image.specs.contracts.save as chip-image·save
use Rattle.chip_image.specs.contracts.restore as chip-image·restore
use Rattle.session.specs.contracts.start as session·start
use Rattle.session.specs.contracts.feed as session·feed
use Rattle.session.specs.contracts.finish as session·finish
use Rattle.refusals.specs.contracts.admit as refusals·admit
use Rattle.refusals.specs.contracts.admit_known as refusals·admit-known
use Rattle.refusals.specs.contracts.sound as refusals·sound
use Rattle.record.specs.contracts.reset as record·reset
use Rattle.record.specs.contracts.same as record·same
use Rattle.record.specs.contracts.same_counter as record·same-counter
use Rattle.record.specs.contracts.same_source as record·same-source
use Rattle.clocks.specs.contracts.run as clocks·run
use Rattle.alone.specs.contracts.alone as alone·alone
use Rattle.alone.specs.contracts.placed as alone·placed
use Rattle.alone.specs.contracts.matched as alone·matched
use Rattle.alone.specs.contracts.terminals_after as alone·terminals-after
use Rattle.alone.specs.contracts.count_after as alone·count-after
use Rattle.linked.specs.contracts.linked as linked·linked
use Rattle.registers.specs.contracts.kind_of as registers·kind-of
use Rattle.words.specs.contracts.line as words·line
use Rattle.words.specs.contracts.pointer_line as words·pointer-line
use Rattle.words.specs.contracts.label as words·label
use Rattle.words.specs.contracts.either as words·either
use Rattle.words.specs.contracts.bit_cell as words·bit-cell
use Rattle.words.specs.contracts.yes_cell as words·yes-cell
use Rattle.words.specs.contracts.number_cell as words·number-cell
use Rattle.phrases.specs.contracts.refusal_line as phrases·refusal-line
use Rattle.phrases.specs.contracts.trouble_line as phrases·trouble-line
use Rattle.measure.specs.contracts.Measure.start as measure·Measure-start
use Rattle.measure.specs.contracts.table as measure·table
use Rattle.measure.specs.contracts.event as measure·event
use Rattle.basics.specs.contracts.weight as basics·weight
use Rattle.basics.specs.contracts.byte_in as basics·byte-in
use Rattle.basics.specs.contracts.with_byte as basics·with-byte
use Rattle.basics.specs.contracts.byte_at as basics·byte-at
use Rattle.basics.specs.contracts.word_at as basics·word-at
use Rattle.basics.specs.contracts.lay as basics·lay
use Rattle.basics.specs.contracts.Place.of as basics·Place-of
use Rattle.basics.specs.contracts.Place.index as basics·Place-index
use Rattle.counters.specs.contracts.output as counters·output
use Rattle.counters.specs.contracts.turn as counters·turn
use Rattle.counters.specs.contracts.rests as counters·rests
use Rattle.counters.specs.contracts.command as counters·command
use Rattle.image.specs.contracts.same_bytes as image·same-bytes
use Rattle.image_in.specs.contracts.device as image-in·device
use Rattle.image_in.specs.contracts.clear as image-in·clear
use Rattle.image_out.specs.contracts.bodies as image-out·bodies
use Rattle.input.specs.contracts.start as input·start
use Rattle.interrupts.specs.contracts.requester_of as interrupts·requester-of
use Rattle.interrupts.specs.contracts.lines as interrupts·lines
use Rattle.interrupts.specs.contracts.relined as interrupts·relined
use Rattle.interrupts.specs.contracts.acknowledge as interrupts·acknowledge
use Rattle.interrupts.specs.contracts.acknowledged as interrupts·acknowledged
use Rattle.interrupts.specs.contracts.vector_read as interrupts·vector-read
use Rattle.interrupts.specs.contracts.current_vector as interrupts·current-vector
use Rattle.levels.specs.contracts.port_enabled as levels·port-enabled
use Rattle.levels.specs.contracts.port_on as levels·port-on
use Rattle.levels.specs.contracts.inputs_at as levels·inputs-at
use Rattle.levels.specs.contracts.outputs_at as levels·outputs-at
use Rattle.levels.specs.contracts.ackin_at as levels·ackin-at
use Rattle.levels.specs.contracts.offers_at as levels·offers-at
use Rattle.levels.specs.contracts.effective_at as levels·effective-at
use Rattle.levels.specs.contracts.direction_at as levels·direction-at
use Rattle.levels.specs.contracts.counter_on as levels·counter-on
use Rattle.levels.specs.contracts.pins_at as levels·pins-at
use Rattle.levels.specs.contracts.path_at as levels·path-at
use Rattle.levels.specs.contracts.seen_at as levels·seen-at
use Rattle.levels.specs.contracts.look as levels·look
use Rattle.levels.specs.contracts.data_at as levels·data-at
use Rattle.bench_lines.specs.contracts.agreed_to as bench-lines·agreed-to
use Rattle.bench_lines.specs.contracts.compare as bench-lines·compare
use Rattle.bench_lines.specs.contracts.compare_kept as bench-lines·compare-kept
use Rattle.bench_lines.specs.contracts.field_name as bench-lines·field-name
use Rattle.lines.specs.contracts.cut_from as lines·cut-from
use Rattle.lines.specs.contracts.event_of as lines·event-of
use Rattle.lines.specs.contracts.line_end as lines·line-end
use Rattle.lines.specs.contracts.decimal as lines·decimal
use Rattle.lines.specs.contracts.digit as lines·digit
use Rattle.lines.specs.contracts.event_of_line as lines·event-of-line
use Rattle.moves.specs.contracts.moves as moves·moves
use Rattle.moves.specs.contracts.given as moves·given
use Rattle.moves.specs.contracts.stored as moves·stored
use Rattle.ports.specs.contracts.spread as ports·spread
use Rattle.ports.specs.contracts.places as ports·places
use Rattle.ports.specs.contracts.on as ports·on
use Rattle.ports.specs.contracts.hits as ports·hits
use Rattle.ports.specs.contracts.highest as ports·highest
use Rattle.ports.specs.contracts.inputs as ports·inputs
use Rattle.ports.specs.contracts.outputs as ports·outputs
use Rattle.ports.specs.contracts.handshakes as ports·handshakes
use Rattle.ports.specs.contracts.depth as ports·depth
use Rattle.ports.specs.contracts.irf as ports·irf
use Rattle.ports.specs.contracts.ore as ports·ore
use Rattle.ports.specs.contracts.ready as ports·ready
use Rattle.ports.specs.contracts.available as ports·available
use Rattle.read_access.specs.contracts.read as read-access·read
use Rattle.read_access.specs.contracts.after_read as read-access·after-read
use Rattle.sources.specs.contracts.command as sources·command
use Rattle.sources.specs.contracts.port_command as sources·port-command
use Rattle.sources.specs.contracts.counter_command as sources·counter-command
use Rattle.sources.specs.contracts.fate as sources·fate
use Rattle.sources.specs.contracts.left as sources·left
use Rattle.sources.specs.contracts.matched as sources·matched
use Rattle.step.specs.contracts.step as step·step
use Rattle.step.specs.contracts.lines_at as step·lines-at
use Rattle.step.specs.contracts.link as step·link
use Rattle.step.specs.contracts.catch_all as step·catch-all
use Rattle.step.specs.contracts.matches as step·matches
use Rattle.step.specs.contracts.side as step·side
use Rattle.step.specs.contracts.has_caught as step·has-caught
use Rattle.step.specs.contracts.untimed as step·untimed
use Rattle.texts.specs.contracts.glyph as texts·glyph
use Rattle.texts.specs.contracts.Text.decimal as texts·Text-decimal
use Rattle.texts.specs.contracts.Text.word as texts·Text-word
use Rattle.texts.specs.contracts.Text.hex as texts·Text-hex
use Rattle.texts.specs.contracts.Text.nibble as texts·Text-nibble
use Rattle.texts.specs.contracts.Text.flag as texts·Text-flag
use Rattle.texts.specs.contracts.Text.count as texts·Text-count
use Rattle.texts.specs.contracts.answer_text as texts·answer-text
use Rattle.texts.specs.contracts.write_answer as texts·write-answer
use Rattle.texts.specs.contracts.Text.new as texts·Text-new
use Rattle.texts.specs.contracts.Text.push as texts·Text-push
use Rattle.write_access.specs.contracts.write as write-access·write
use mir.Syntax.{Dict}
use denote.Param.{value_of}
use denote.RattleType.{RattleType}
use Rattle.std.specs.declared.clone.Clone.{Ghosts}
use Rattle.std.specs.Prelude.{Result, Some, None, if◌then◌else◌}
use Rattle.promises.proofs.Verdicts.{verdict, told}
use Rattle.promises.proofs.Promise.{OneAnswer, one_answer, OneResult, one-result, two-clauses}

module _ {M : Type 1} (𝓤 : Ura M) where
  -- the calls that a host makes
  pub rules-Source-of-port : OneResult 𝓤 rules·Source-of-port.ended rules·Source-of-port.clauses
  rules-Source-of-port = one-result 𝓤 rules·Source-of-port.ended rules·Source-of-port.clauses (λ κs a. of_port (a.0 % 2)) refl

  pub rules-Source-of-counter : OneResult 𝓤 rules·Source-of-counter.ended rules·Source-of-counter.clauses
  rules-Source-of-counter = one-result 𝓤 rules·Source-of-counter.ended rules·Source-of-counter.clauses (λ κs a. of_counter (a.0 % 3)) refl

  pub rules-Refusal-number : OneResult 𝓤 rules·Refusal-number.ended rules·Refusal-number.clauses
  rules-Refusal-number =
      one_answer 𝓤 rules·Refusal-number.ended rules·Refusal-number.clauses (λ κs. ℕ) (λ κs r x. r)
      (λ κs a. refusal_number a.0) (λ 𝓛 at_mem run κs a g r x. fst∗ 𝓤 (fact 𝓤 (r ≡ refusal_number a.0)) (fact 𝓤 (0 < r)))

  pub rules-code : OneResult 𝓤 rules·code.ended rules·code.clauses
  rules-code = one-result 𝓤 rules·code.ended rules·code.clauses (λ κs a. code_in a.0) refl

  pub rules-Device-fresh : OneResult 𝓤 rules·Device-fresh.ended rules·Device-fresh.clauses
  rules-Device-fresh = one-result 𝓤 rules·Device-fresh.ended rules·Device-fresh.clauses (λ κs a. fresh_of) refl

  pub rules-Device-image-len : OneResult 𝓤 rules·Device-image-len.ended rules·Device-image-len.clauses
  rules-Device-image-len = one-result 𝓤 rules·Device-image-len.ended rules·Device-image-len.clauses (λ κs a. image_len a.0) refl

  pub rules-Device-registers : OneResult 𝓤 rules·Device-registers.ended rules·Device-registers.clauses
  rules-Device-registers = one-result 𝓤 rules·Device-registers.ended rules·Device-registers.clauses (λ κs a. register_count) refl

  pub rules-Device-reset : OneResult 𝓤 rules·Device-reset.ended rules·Device-reset.clauses
  rules-Device-reset = one-result 𝓤 rules·Device-reset.ended rules·Device-reset.clauses (λ κs a. reset a.0) refl

  pub event-event : OneResult 𝓤 event·event.ended event·event.clauses
  event-event = one-result 𝓤 event·event.ended event·event.clauses (λ κs a. event_of a.0 a.1.0) refl

  pub event-known : OneResult 𝓤 event·known.ended event·known.clauses
  event-known = one-result 𝓤 event·known.ended event·known.clauses (λ κs a. known_of a.0 a.1.0) refl

  pub inplace-event-in-place : OneAnswer 𝓤 inplace·event-in-place.ended inplace·event-in-place.clauses (λ κs. Answer × Device) (λ κs r x. (r, x.0.now))
  inplace-event-in-place =
      one_answer 𝓤 inplace·event-in-place.ended inplace·event-in-place.clauses (λ κs. Answer × Device) (λ κs r x. (r, x.0.now))
      (λ κs a. ((event_of a.0.now a.1.0).answer, (event_of a.0.now a.1.0).device))
      (λ 𝓛 at_mem run κs a g r x. fact_mono 𝓤 _ _ (λ p i. (p.0 i, p.1 i)))

  pub inplace-lines : OneResult 𝓤 inplace·lines.ended inplace·lines.clauses
  inplace-lines =
      one_answer 𝓤 inplace·lines.ended inplace·lines.clauses (λ κs. Lines) (λ κs r x. r)
      (λ κs a. a.0.now.lines) (λ 𝓛 at_mem run κs a g r x. fact_mono 𝓤 _ _ (λ p. p.0))

  pub bridge-through : OneResult 𝓤 bridge·through.ended bridge·through.clauses
  bridge-through = one-result 𝓤 bridge·through.ended bridge·through.clauses (λ κs a. event_of a.0 a.1.0) refl

  pub row-event : OneAnswer 𝓤 row·event.ended row·event.clauses (λ κs. RowAnswer × List Device) (λ κs r x. (r, x.0.now))
  row-event =
      one_answer 𝓤 row·event.ended row·event.clauses (λ κs. RowAnswer × List Device) (λ κs r x. (r, x.0.now))
      (λ κs a. (row_answer a.0.now a.1.0, row_after a.0.now a.1.0))
      (λ 𝓛 at_mem run κs a g r x. fact_mono 𝓤 _ _ (λ p i. (p.0 i, p.1 i)))

  pub row-bridge-event : OneResult 𝓤 row-bridge·event.ended row-bridge·event.clauses
  row-bridge-event = one-result 𝓤 row-bridge·event.ended row-bridge·event.clauses (λ κs a. boarded a.0 a.1.0 a.1.1.0) refl

  pub rows-names : OneResult 𝓤 rows·names.ended rows·names.clauses
  rows-names = one-result 𝓤 rows·names.ended rows·names.clauses (λ κs a. names a.0) refl

  pub row-visit-looked : OneResult 𝓤 row-visit·looked.ended row-visit·looked.clauses
  row-visit-looked = one-result 𝓤 row-visit·looked.ended row-visit·looked.clauses (λ κs a. looked_of a.0 a.1.0) refl

  pub row-visit-acted : OneResult 𝓤 row-visit·acted.ended row-visit·acted.clauses
  row-visit-acted = one-result 𝓤 row-visit·acted.ended row-visit·acted.clauses (λ κs a. acted_of a.0 a.1.0) refl

  pub row-visit-looking : OneResult 𝓤 row-visit·looking.ended row-visit·looking.clauses
  row-visit-looking = one-result 𝓤 row-visit·looking.ended row-visit·looking.clauses (λ κs a. looking_of a.0) refl

  pub row-visit-acting : OneResult 𝓤 row-visit·acting.ended row-visit·acting.clauses
  row-visit-acting = one-result 𝓤 row-visit·acting.ended row-visit·acting.clauses (λ κs a. acting_of a.0) refl

  pub row-lines-event-of-line : OneResult 𝓤 row-lines·event-of-line.ended row-lines·event-of-line.clauses
  row-lines-event-of-line = one-result 𝓤 row-lines·event-of-line.ended row-lines·event-of-line.clauses (λ κs a. row_line a.0) refl

  pub row-lines-head-text : OneResult 𝓤 row-lines·head-text.ended row-lines·head-text.clauses
  row-lines-head-text = one-result 𝓤 row-lines·head-text.ended row-lines·head-text.clauses (λ κs a. typed no_text (head_text a.0)) refl

  pub row-lines-device-text : OneResult 𝓤 row-lines·device-text.ended row-lines·device-text.clauses
  row-lines-device-text = one-result 𝓤 row-lines·device-text.ended row-lines·device-text.clauses (λ κs a. typed no_text (device_text a.0)) refl

  pub texts-Text-levels : OneResult 𝓤 texts·Text-levels.ended texts·Text-levels.clauses
  texts-Text-levels = one-result 𝓤 texts·Text-levels.ended texts·Text-levels.clauses (λ κs a. typed a.0 (levels_text a.1.0)) refl

  pub image-save : OneAnswer 𝓤 image·save.ended image·save.clauses (λ κs. Result Unit Refusal × List ℕ) (λ κs r x. (r, x.1.0.now))
  image-save =
      one_answer 𝓤 image·save.ended image·save.clauses (λ κs. Result Unit Refusal × List ℕ) (λ κs r x. (r, x.1.0.now))
      (λ κs a. (verdict (save_code a.0 (length a.1.0.now)), saved_of a.0 a.1.0.now))
      (λ 𝓛 at_mem run κs a g r x. fact_mono 𝓤 _ _ (λ p i. (told r _ p.0 i, p.1 i)))

  pub image-restore : OneResult 𝓤 image·restore.ended image·restore.clauses
  image-restore = one-result 𝓤 image·restore.ended image·restore.clauses (λ κs a. restored_of a.0.now) refl

  -- of any type D that is copied, by its code to copy it, t
  pub image-Restored-of : (D : RattleType) (G : Ghosts D.Denot) (t : Dict) → OneResult 𝓤 (image·Restored-of.ended D G t) (image·Restored-of.clauses D G t)
  image-Restored-of D G t = one-result 𝓤 (image·Restored-of.ended D G t) (image·Restored-of.clauses D G t) (λ κs a. restored_from a.0 a.1.0) refl

  pub z8536-Z8536-fresh : OneResult 𝓤 z8536·Z8536-fresh.ended z8536·Z8536-fresh.clauses
  z8536-Z8536-fresh = one-result 𝓤 z8536·Z8536-fresh.ended z8536·Z8536-fresh.clauses (λ κs a. fresh_z8536) refl

  pub z8536-sound : OneResult 𝓤 z8536·sound.ended z8536·sound.clauses
  z8536-sound = one-result 𝓤 z8536·sound.ended z8536·sound.clauses (λ κs a. sound_z8536 a.0) refl

  pub event-z8536-event : OneResult 𝓤 event-z8536·event.ended event-z8536·event.clauses
  event-z8536-event = one-result 𝓤 event-z8536·event.ended event-z8536·event.clauses (λ κs a. event_z8536 a.0 a.1.0) refl

  pub ctc-rules-Ctc-fresh : OneResult 𝓤 ctc-rules·Ctc-fresh.ended ctc-rules·Ctc-fresh.clauses
  ctc-rules-Ctc-fresh = one-result 𝓤 ctc-rules·Ctc-fresh.ended ctc-rules·Ctc-fresh.clauses (λ κs a. fresh_ctc) refl

  pub ctc-rules-sound : OneResult 𝓤 ctc-rules·sound.ended ctc-rules·sound.clauses
  ctc-rules-sound = one-result 𝓤 ctc-rules·sound.ended ctc-rules·sound.clauses (λ κs a. sound_ctc a.0) refl

  pub ctc-event-event : OneResult 𝓤 ctc-event·event.ended ctc-event·event.clauses
  ctc-event-event = one-result 𝓤 ctc-event·event.ended ctc-event·event.clauses (λ κs a. event_ctc a.0 a.1.0) refl

  pub ctc-event-end-of-service : OneResult 𝓤 ctc-event·end-of-service.ended ctc-event·end-of-service.clauses
  ctc-event-end-of-service = one-result 𝓤 ctc-event·end-of-service.ended ctc-event·end-of-service.clauses (λ κs a. end_of_service a.0) refl

  pub ctc-event-lines : OneResult 𝓤 ctc-event·lines.ended ctc-event·lines.clauses
  ctc-event-lines = one-result 𝓤 ctc-event·lines.ended ctc-event·lines.clauses (λ κs a. lines_ctc a.0) refl

  pub host-wolfscarer-length : OneResult 𝓤 host·length.ended host·length.clauses
  host-wolfscarer-length = one-result 𝓤 host·length.ended host·length.clauses (λ κs a. length_at a.0) refl

  pub host-wolfscarer-z8036-fresh : OneAnswer 𝓤 host·z8036-fresh.ended host·z8036-fresh.clauses (λ κs. ℕ × List ℕ) (λ κs r x. (r, x.0.now))
  host-wolfscarer-z8036-fresh =
      one_answer 𝓤 host·z8036-fresh.ended host·z8036-fresh.clauses (λ κs. ℕ × List ℕ) (λ κs r x. (r, x.0.now))
      (λ κs a. (fresh_code (image_of fresh_of) a.0.now, fresh_state (image_of fresh_of) a.0.now))
      (λ 𝓛 at_mem run κs a g r x. fact_mono 𝓤 _ _ (λ p i. (p.0 i, p.1 i)))

  pub host-wolfscarer-z8036-event : OneAnswer 𝓤 host·z8036-event.ended host·z8036-event.clauses (λ κs. Called) (λ κs r x. called r x.0.now x.1.1.1.1.1.0.now)
  host-wolfscarer-z8036-event =
      one_answer 𝓤 host·z8036-event.ended host·z8036-event.clauses (λ κs. Called) (λ κs r x. called r x.0.now x.1.1.1.1.1.0.now)
      (λ κs a. host_event a.0.now (of a.1.0 a.1.1.0 a.1.1.1.0 a.1.1.1.1.0) a.1.1.1.1.1.0.now)
      (λ 𝓛 at_mem run κs a g r x. fact_mono 𝓤 _ _ (λ p. p))

  pub host-wolfscarer-z8036-lines : OneAnswer 𝓤 host·z8036-lines.ended host·z8036-lines.clauses (λ κs. ℕ × List ℕ) (λ κs r x. (r, x.1.0.now))
  host-wolfscarer-z8036-lines =
      one_answer 𝓤 host·z8036-lines.ended host·z8036-lines.clauses (λ κs. ℕ × List ℕ) (λ κs r x. (r, x.1.0.now))
      (λ κs a. ((host_lines a.0.now a.1.0.now).code, (host_lines a.0.now a.1.0.now).answer))
      (λ 𝓛 at_mem run κs a g r x. fact_mono 𝓤 _ _ (λ p i. ((p i).code, (p i).answer)))

  pub host-wolfscarer-z8536-fresh : OneAnswer 𝓤 host·z8536-fresh.ended host·z8536-fresh.clauses (λ κs. ℕ × List ℕ) (λ κs r x. (r, x.0.now))
  host-wolfscarer-z8536-fresh =
      one_answer 𝓤 host·z8536-fresh.ended host·z8536-fresh.clauses (λ κs. ℕ × List ℕ) (λ κs r x. (r, x.0.now))
      (λ κs a. (fresh_code (image_z8536 fresh_z8536) a.0.now, fresh_state (image_z8536 fresh_z8536) a.0.now))
      (λ 𝓛 at_mem run κs a g r x. fact_mono 𝓤 _ _ (λ p i. (p.0 i, p.1 i)))

  pub host-wolfscarer-z8536-event : OneAnswer 𝓤 host·z8536-event.ended host·z8536-event.clauses (λ κs. Called) (λ κs r x. called r x.0.now x.1.1.1.1.1.0.now)
  host-wolfscarer-z8536-event =
      one_answer 𝓤 host·z8536-event.ended host·z8536-event.clauses (λ κs. Called) (λ κs r x. called r x.0.now x.1.1.1.1.1.0.now)
      (λ κs a. host_event_z8536 a.0.now (of a.1.0 a.1.1.0 a.1.1.1.0 a.1.1.1.1.0) a.1.1.1.1.1.0.now)
      (λ 𝓛 at_mem run κs a g r x. fact_mono 𝓤 _ _ (λ p. p))

  pub host-wolfscarer-z8536-lines : OneAnswer 𝓤 host·z8536-lines.ended host·z8536-lines.clauses (λ κs. ℕ × List ℕ) (λ κs r x. (r, x.1.0.now))
  host-wolfscarer-z8536-lines =
      one_answer 𝓤 host·z8536-lines.ended host·z8536-lines.clauses (λ κs. ℕ × List ℕ) (λ κs r x. (r, x.1.0.now))
      (λ κs a. ((host_lines_z8536 a.0.now a.1.0.now).code, (host_lines_z8536 a.0.now a.1.0.now).answer))
      (λ 𝓛 at_mem run κs a g r x. fact_mono 𝓤 _ _ (λ p i. ((p i).code, (p i).answer)))

  pub host-wolfscarer-ctc-fresh : OneAnswer 𝓤 host·ctc-fresh.ended host·ctc-fresh.clauses (λ κs. ℕ × List ℕ) (λ κs r x. (r, x.0.now))
  host-wolfscarer-ctc-fresh =
      one_answer 𝓤 host·ctc-fresh.ended host·ctc-fresh.clauses (λ κs. ℕ × List ℕ) (λ κs r x. (r, x.0.now))
      (λ κs a. (fresh_code (image_ctc fresh_ctc) a.0.now, fresh_state (image_ctc fresh_ctc) a.0.now))
      (λ 𝓛 at_mem run κs a g r x. fact_mono 𝓤 _ _ (λ p i. (p.0 i, p.1 i)))

  pub host-wolfscarer-ctc-event : OneAnswer 𝓤 host·ctc-event.ended host·ctc-event.clauses (λ κs. Called) (λ κs r x. called r x.0.now x.1.1.1.1.1.0.now)
  host-wolfscarer-ctc-event =
      one_answer 𝓤 host·ctc-event.ended host·ctc-event.clauses (λ κs. Called) (λ κs r x. called r x.0.now x.1.1.1.1.1.0.now)
      (λ κs a. host_event_ctc a.0.now (of a.1.0 a.1.1.0 a.1.1.1.0 a.1.1.1.1.0) a.1.1.1.1.1.0.now)
      (λ 𝓛 at_mem run κs a g r x. fact_mono 𝓤 _ _ (λ p. p))

  pub host-wolfscarer-ctc-end-of-service : OneAnswer 𝓤 host·ctc-end-of-service.ended host·ctc-end-of-service.clauses (λ κs. Called)
      (λ κs r x. called r x.0.now x.1.0.now)
  host-wolfscarer-ctc-end-of-service =
      one_answer 𝓤 host·ctc-end-of-service.ended host·ctc-end-of-service.clauses (λ κs. Called) (λ κs r x. called r x.0.now x.1.0.now)
      (λ κs a. host_end_ctc a.0.now a.1.0.now) (λ 𝓛 at_mem run κs a g r x. fact_mono 𝓤 _ _ (λ p. p))

  pub host-wolfscarer-ctc-lines : OneAnswer 𝓤 host·ctc-lines.ended host·ctc-lines.clauses (λ κs. ℕ × List ℕ) (λ κs r x. (r, x.1.0.now))
  host-wolfscarer-ctc-lines =
      one_answer 𝓤 host·ctc-lines.ended host·ctc-lines.clauses (λ κs. ℕ × List ℕ) (λ κs r x. (r, x.1.0.now))
      (λ κs a. ((host_lines_ctc a.0.now a.1.0.now).code, (host_lines_ctc a.0.now a.1.0.now).answer))
      (λ 𝓛 at_mem run κs a g r x. fact_mono 𝓤 _ _ (λ p i. ((p i).code, (p i).answer)))

  pub ctc-place-event-in-place : OneAnswer 𝓤 ctc-place·event-in-place.ended ctc-place·event-in-place.clauses (λ κs. CtcAnswer × Ctc) (λ κs r x. (r, x.0.now))
  ctc-place-event-in-place =
      one_answer 𝓤 ctc-place·event-in-place.ended ctc-place·event-in-place.clauses (λ κs. CtcAnswer × Ctc) (λ κs r x. (r, x.0.now))
      (λ κs a. ((event_ctc a.0.now a.1.0).answer, (event_ctc a.0.now a.1.0).device))
      (λ 𝓛 at_mem run κs a g r x. fact_mono 𝓤 _ _ (λ p i. (p.0 i, p.1 i)))

  pub ctc-place-end-of-service-in-place : OneAnswer 𝓤 ctc-place·end-of-service-in-place.ended ctc-place·end-of-service-in-place.clauses (λ κs. CtcAnswer × Ctc)
      (λ κs r x. (r, x.0.now))
  ctc-place-end-of-service-in-place =
      one_answer 𝓤 ctc-place·end-of-service-in-place.ended ctc-place·end-of-service-in-place.clauses (λ κs. CtcAnswer × Ctc) (λ κs r x. (r, x.0.now))
      (λ κs a. ((end_of_service a.0.now).answer, (end_of_service a.0.now).device))
      (λ 𝓛 at_mem run κs a g r x. fact_mono 𝓤 _ _ (λ p i. (p.0 i, p.1 i)))

  pub ctc-image-save : OneAnswer 𝓤 ctc-image·save.ended ctc-image·save.clauses (λ κs. Result Unit Refusal × List ℕ) (λ κs r x. (r, x.1.0.now))
  ctc-image-save =
      one_answer 𝓤 ctc-image·save.ended ctc-image·save.clauses (λ κs. Result Unit Refusal × List ℕ) (λ κs r x. (r, x.1.0.now))
      (λ κs a. (verdict (save_code_ctc a.0 (length a.1.0.now)), saved_ctc a.0 a.1.0.now))
      (λ 𝓛 at_mem run κs a g r x. fact_mono 𝓤 _ _ (λ p i. (told r _ p.0 i, p.1 i)))

  pub ctc-image-restore : OneResult 𝓤 ctc-image·restore.ended ctc-image·restore.clauses
  ctc-image-restore = one-result 𝓤 ctc-image·restore.ended ctc-image·restore.clauses (λ κs a. restored_ctc a.0.now) refl

  pub ctc-lines-outcome : OneResult 𝓤 ctc-lines·outcome.ended ctc-lines·outcome.clauses
  ctc-lines-outcome = one-result 𝓤 ctc-lines·outcome.ended ctc-lines·outcome.clauses (λ κs a. outcome_kept a.0 a.1.0) refl

  pub ctc-lines-answer-text : OneResult 𝓤 ctc-lines·answer-text.ended ctc-lines·answer-text.clauses
  ctc-lines-answer-text = one-result 𝓤 ctc-lines·answer-text.ended ctc-lines·answer-text.clauses (λ κs a. typed no_text (ctc_text a.0)) refl

  pub ctc-words-line : OneResult 𝓤 ctc-words·line.ended ctc-words·line.clauses
  ctc-words-line = one-result 𝓤 ctc-words·line.ended ctc-words·line.clauses (λ κs a. typed no_text (shown_ctc a.0 a.1.0)) refl

  pub image-save-z8536 : OneAnswer 𝓤 image·save-z8536.ended image·save-z8536.clauses (λ κs. Result Unit Refusal × List ℕ) (λ κs r x. (r, x.1.0.now))
  image-save-z8536 =
      one_answer 𝓤 image·save-z8536.ended image·save-z8536.clauses (λ κs. Result Unit Refusal × List ℕ) (λ κs r x. (r, x.1.0.now))
      (λ κs a. (verdict (save_code_z8536 a.0 (length a.1.0.now)), saved_z8536 a.0 a.1.0.now))
      (λ 𝓛 at_mem run κs a g r x. fact_mono 𝓤 _ _ (λ p i. (told r _ p.0 i, p.1 i)))

  pub image-restore-z8536 : OneResult 𝓤 image·restore-z8536.ended image·restore-z8536.clauses
  image-restore-z8536 = one-result 𝓤 image·restore-z8536.ended image·restore-z8536.clauses (λ κs a. restored_z8536 a.0.now) refl

  pub chip-Chip-from-Device : OneResult 𝓤 chip·Chip-from-Device.ended chip·Chip-from-Device.clauses
  chip-Chip-from-Device = one-result 𝓤 chip·Chip-from-Device.ended chip·Chip-from-Device.clauses (λ κs a. of_z8036 a.0) refl

  pub chip-Chip-from-Z8536 : OneResult 𝓤 chip·Chip-from-Z8536.ended chip·Chip-from-Z8536.clauses
  chip-Chip-from-Z8536 = one-result 𝓤 chip·Chip-from-Z8536.ended chip·Chip-from-Z8536.clauses (λ κs a. of_z8536 a.0) refl

  pub chip-Chip-core : OneResult 𝓤 chip·Chip-core.ended chip·Chip-core.clauses
  chip-Chip-core = one-result 𝓤 chip·Chip-core.ended chip·Chip-core.clauses (λ κs a. core_of a.0) refl

  pub chip-event : OneResult 𝓤 chip·event.ended chip·event.clauses
  chip-event = one-result 𝓤 chip·event.ended chip·event.clauses (λ κs a. event_chip a.0 a.1.0) refl

  pub chip-sound : OneResult 𝓤 chip·sound.ended chip·sound.clauses
  chip-sound = one-result 𝓤 chip·sound.ended chip·sound.clauses (λ κs a. sound_chip a.0) refl

  pub chip-known : OneResult 𝓤 chip·known.ended chip·known.clauses
  chip-known = one-result 𝓤 chip·known.ended chip·known.clauses (λ κs a. known_chip a.0 a.1.0 a.1.1.0) refl

  pub chip-Vetted-of : OneResult 𝓤 chip·Vetted-of.ended chip·Vetted-of.clauses
  chip-Vetted-of = one-result 𝓤 chip·Vetted-of.ended chip·Vetted-of.clauses (λ κs a. a.0) refl

  pub chip-Vetted-device : OneResult 𝓤 chip·Vetted-device.ended chip·Vetted-device.clauses
  chip-Vetted-device = one-result 𝓤 chip·Vetted-device.ended chip·Vetted-device.clauses (λ κs a. a.0.now) refl

  pub chip-Vetted-event : OneResult 𝓤 chip·Vetted-event.ended chip·Vetted-event.clauses
  chip-Vetted-event = one-result 𝓤 chip·Vetted-event.ended chip·Vetted-event.clauses (λ κs a. event_chip a.0.now a.1.0) refl

  pub chip-image-image-len : OneResult 𝓤 chip-image·image-len.ended chip-image·image-len.clauses
  chip-image-image-len = one-result 𝓤 chip-image·image-len.ended chip-image·image-len.clauses (λ κs a. length_chip a.0) refl

  pub chip-image-save : OneAnswer 𝓤 chip-image·save.ended chip-image·save.clauses (λ κs. Result Unit Refusal × List ℕ) (λ κs r x. (r, x.1.0.now))
  chip-image-save =
      one_answer 𝓤 chip-image·save.ended chip-image·save.clauses (λ κs. Result Unit Refusal × List ℕ) (λ κs r x. (r, x.1.0.now))
      (λ κs a. (verdict (save_code_chip a.0 (length a.1.0.now)), saved_chip a.0 a.1.0.now))
      (λ 𝓛 at_mem run κs a g r x. fact_mono 𝓤 _ _ (λ p i. (told r _ p.0 i, p.1 i)))

  pub chip-image-restore : OneResult 𝓤 chip-image·restore.ended chip-image·restore.clauses
  chip-image-restore = one-result 𝓤 chip-image·restore.ended chip-image·restore.clauses (λ κs a. restored_chip a.0.now) refl

  pub session-start : OneResult 𝓤 session·start.ended session·start.clauses
  session-start = one-result 𝓤 session·start.ended session·start.clauses (λ κs a. start_of a.0) refl

  pub session-feed : OneAnswer 𝓤 session·feed.ended session·feed.clauses (λ κs. Fed × List ℕ) (λ κs r x. (r, x.1.1.1.0.now))
  session-feed =
      one_answer 𝓤 session·feed.ended session·feed.clauses (λ κs. Fed × List ℕ) (λ κs r x. (r, x.1.1.1.0.now))
      (λ κs a. (
        fed_by a.0 a.1.1.0 (bytes_read a.0 a.1.0.now a.1.1.0 a.1.1.1.0.now),
        answered
            (answers_in a.0 (bytes_read a.0 a.1.0.now a.1.1.0 a.1.1.1.0.now)) a.1.1.1.0.now,
      ))
      (λ 𝓛 at_mem run κs a g r x. two-clauses 𝓤 _ _ _ _ (λ p q i. (p i, q i)))

  pub session-finish : OneAnswer 𝓤 session·finish.ended session·finish.clauses (λ κs. Told × List ℕ) (λ κs r x. (r, x.1.0.now))
  session-finish =
      one_answer 𝓤 session·finish.ended session·finish.clauses (λ κs. Told × List ℕ) (λ κs r x. (r, x.1.0.now))
      (λ κs a. (finished_by a.0 a.1.0.now, laid_of a.1.0.now 0 (answers_last a.0)))
      (λ 𝓛 at_mem run κs a g r x. two-clauses 𝓤 _ _ _ _ (λ p q i. (p i, q i)))

  pub refusals-admit : OneResult 𝓤 refusals·admit.ended refusals·admit.clauses
  refusals-admit =
      one_answer 𝓤 refusals·admit.ended refusals·admit.clauses (λ κs. Result Unit Refusal) (λ κs r x. r)
      (λ κs a. verdict (code_of a.0 a.1.0)) (λ 𝓛 at_mem run κs a g r x. fact_mono 𝓤 _ _ (told r _))

  pub refusals-admit-known : OneResult 𝓤 refusals·admit-known.ended refusals·admit-known.clauses
  refusals-admit-known =
      one_answer 𝓤 refusals·admit-known.ended refusals·admit-known.clauses (λ κs. Result Unit Refusal) (λ κs r x. r)
      (λ κs a. verdict (known_code a.0 a.1.0)) (λ 𝓛 at_mem run κs a g r x. fact_mono 𝓤 _ _ (told r _))

  pub refusals-sound : OneResult 𝓤 refusals·sound.ended refusals·sound.clauses
  refusals-sound = one-result 𝓤 refusals·sound.ended refusals·sound.clauses (λ κs a. sound_of a.0) refl

  pub record-reset : OneResult 𝓤 record·reset.ended record·reset.clauses
  record-reset = one-result 𝓤 record·reset.ended record·reset.clauses (λ κs a. reset_of a.0) refl

  pub record_same : OneResult 𝓤 record·same.ended record·same.clauses
  record_same = one-result 𝓤 record·same.ended record·same.clauses (λ κs a. same_of a.0 a.1.0) refl

  pub record-same-counter : OneResult 𝓤 record·same-counter.ended record·same-counter.clauses
  record-same-counter = one-result 𝓤 record·same-counter.ended record·same-counter.clauses (λ κs a. same_counter a.0 a.1.0) refl

  pub record-same-source : OneResult 𝓤 record·same-source.ended record·same-source.clauses
  record-same-source = one-result 𝓤 record·same-source.ended record·same-source.clauses (λ κs a. same_source a.0 a.1.0) refl

  pub clocks-run : OneResult 𝓤 clocks·run.ended clocks·run.clauses
  clocks-run = one-result 𝓤 clocks·run.ended clocks·run.clauses (λ κs a. ran_of a.0 a.1.0) refl

  pub alone-alone : OneResult 𝓤 alone·alone.ended alone·alone.clauses
  alone-alone = one-result 𝓤 alone·alone.ended alone·alone.clauses (λ κs a. alone_after a.0 a.1.0 a.1.1.0 a.1.1.1.0 a.1.1.1.1.0) refl

  pub alone-placed : OneResult 𝓤 alone·placed.ended alone·placed.clauses
  alone-placed = one-result 𝓤 alone·placed.ended alone·placed.clauses (λ κs a. placed_by a.0 a.1.0 a.1.1.0) refl

  pub alone-terminals-after : OneResult 𝓤 alone·terminals-after.ended alone·terminals-after.clauses
  alone-terminals-after =
      one_answer 𝓤 alone·terminals-after.ended alone·terminals-after.clauses (λ κs. ℕ) (λ κs r x. r)
      (λ κs a. terminals_after (full_of (a.0 + 1) a.1.0) (full_of (a.0 + 1) a.1.1.0) a.1.1.1.0) (λ 𝓛 at_mem run κs a g r x. fact_mono 𝓤 _ _ (λ p. p.0))

  pub alone-count-after : OneResult 𝓤 alone·count-after.ended alone·count-after.clauses
  alone-count-after =
      one-result 𝓤 alone·count-after.ended alone·count-after.clauses
      (λ κs a. count_after (full_of (a.0 + 1) a.1.0) (full_of (a.0 + 1) a.1.1.0) a.1.1.1.0 % (a.0 + 1)) refl

  pub alone-matched : OneResult 𝓤 alone·matched.ended alone·matched.clauses
  alone-matched =
      one-result 𝓤 alone·matched.ended alone·matched.clauses
      (λ κs a. struck_by (hides_by a.0) (event_by a.0 a.1.0 a.1.1.0) a.1.1.1.0) refl

  pub linked-linked : OneResult 𝓤 linked·linked.ended linked·linked.clauses
  linked-linked = one-result 𝓤 linked·linked.ended linked·linked.clauses (λ κs a. iterate a.0 (paired_by a.1.0) (pair_of a.1.0)) refl

  pub registers-kind-of : OneResult 𝓤 registers·kind-of.ended registers·kind-of.clauses
  registers-kind-of = one-result 𝓤 registers·kind-of.ended registers·kind-of.clauses (λ κs a. kind_of a.0) refl

  pub words-line : OneResult 𝓤 words·line.ended words·line.clauses
  words-line = one-result 𝓤 words·line.ended words·line.clauses (λ κs a. typed no_text (shown_line a.0 a.1.0)) refl

  pub words-pointer-line : OneResult 𝓤 words·pointer-line.ended words·pointer-line.clauses
  words-pointer-line = one-result 𝓤 words·pointer-line.ended words·pointer-line.clauses (λ κs a. typed no_text (pointer_line a.0 a.1.0)) refl

  pub words-label : OneResult 𝓤 words·label.ended words·label.clauses
  words-label = one-result 𝓤 words·label.ended words·label.clauses (λ κs a. typed no_text (get_or a.0.now a.1.0 [])) refl

  pub words-either : OneResult 𝓤 words·either.ended words·either.clauses
  words-either = one-result 𝓤 words·either.ended words·either.clauses (λ κs a. typed a.0 (cond a.1.0 a.1.1.0.now a.1.1.1.0.now)) refl

  pub words-bit-cell : OneResult 𝓤 words·bit-cell.ended words·bit-cell.clauses
  words-bit-cell = one-result 𝓤 words·bit-cell.ended words·bit-cell.clauses (λ κs a. typed a.0 (bit_cell a.1.0)) refl

  pub words-yes-cell : OneResult 𝓤 words·yes-cell.ended words·yes-cell.clauses
  words-yes-cell = one-result 𝓤 words·yes-cell.ended words·yes-cell.clauses (λ κs a. typed a.0 (yes_cell a.1.0)) refl

  pub words-number-cell : OneResult 𝓤 words·number-cell.ended words·number-cell.clauses
  words-number-cell = one-result 𝓤 words·number-cell.ended words·number-cell.clauses (λ κs a. typed a.0 (number_cell a.1.0)) refl

  pub phrases-refusal-line : OneResult 𝓤 phrases·refusal-line.ended phrases·refusal-line.clauses
  phrases-refusal-line =
      one-result 𝓤 phrases·refusal-line.ended phrases·refusal-line.clauses
      (λ κs a. typed no_text (refusal a.0 a.1.0 a.1.1.0)) refl

  pub phrases-trouble-line : OneResult 𝓤 phrases·trouble-line.ended phrases·trouble-line.clauses
  phrases-trouble-line =
      one-result 𝓤 phrases·trouble-line.ended phrases·trouble-line.clauses
      (λ κs a. typed no_text (trouble a.0 a.1.0)) refl

  pub measure-Measure-start : OneResult 𝓤 measure·Measure-start.ended measure·Measure-start.clauses
  measure-Measure-start = one-result 𝓤 measure·Measure-start.ended measure·Measure-start.clauses (λ κs a. measure_start) refl

  pub measure-table : OneResult 𝓤 measure·table.ended measure·table.clauses
  measure-table = one-result 𝓤 measure·table.ended measure·table.clauses (λ κs a. table_of a.0) refl

  pub measure-event : OneResult 𝓤 measure·event.ended measure·event.clauses
  measure-event = one-result 𝓤 measure·event.ended measure·event.clauses (λ κs a. measured_of a.0 a.1.0 a.1.1.0) refl

  -- the calls between the crates
  -- of any N, the number of places
  pub basics-Place-of : (N : RattleType) → OneResult 𝓤 (basics·Place-of.ended N) (basics·Place-of.clauses N)
  basics-Place-of N =
      one-result 𝓤 (basics·Place-of.ended N) (basics·Place-of.clauses N)
      (λ κs a. if ltb a.0 (value_of (basics·Place-of.N-row N)) then Some a.0 else None) refl

  pub basics-Place-index : (N : RattleType) → OneResult 𝓤 (basics·Place-index.ended N) (basics·Place-index.clauses N)
  basics-Place-index N =
      one_answer 𝓤 (basics·Place-index.ended N) (basics·Place-index.clauses N) (λ κs. ℕ) (λ κs r x. r)
      (λ κs a. a.0.now) (λ 𝓛 at_mem run κs a g r x. fst∗ 𝓤 (fact 𝓤 (r ≡ a.0.now)) (fact 𝓤 (r < value_of (basics·Place-index.N-row N))))

  pub basics-weight : OneResult 𝓤 basics·weight.ended basics·weight.clauses
  basics-weight =
      one_answer 𝓤 basics·weight.ended basics·weight.clauses (λ κs. ℕ) (λ κs r x. r)
      (λ κs a. cond a.0 a.1.0 0) (λ 𝓛 at_mem run κs a g r x. fact_mono 𝓤 _ _ (λ p. p.0))

  pub basics-byte-in : OneResult 𝓤 basics·byte-in.ended basics·byte-in.clauses
  basics-byte-in = one-result 𝓤 basics·byte-in.ended basics·byte-in.clauses (λ κs a. byte_in a.0 a.1.0) refl

  pub basics-with-byte : OneResult 𝓤 basics·with-byte.ended basics·with-byte.clauses
  basics-with-byte = one-result 𝓤 basics·with-byte.ended basics·with-byte.clauses (λ κs a. with_byte a.0 a.1.0 a.1.1.0) refl

  pub basics-byte-at : OneResult 𝓤 basics·byte-at.ended basics·byte-at.clauses
  basics-byte-at = one-result 𝓤 basics·byte-at.ended basics·byte-at.clauses (λ κs a. get_or a.0.now a.1.0 0) refl

  pub basics-word-at : OneResult 𝓤 basics·word-at.ended basics·word-at.clauses
  basics-word-at =
      one-result 𝓤 basics·word-at.ended basics·word-at.clauses
      (λ κs a. get_or a.0.now a.1.0 0 * 256 + get_or a.0.now a.1.1.0 0) refl

  pub basics-lay : OneAnswer 𝓤 basics·lay.ended basics·lay.clauses (λ κs. ℕ × List ℕ) (λ κs r x. (r, x.0.now))
  basics-lay =
      one_answer 𝓤 basics·lay.ended basics·lay.clauses (λ κs. ℕ × List ℕ) (λ κs r x. (r, x.0.now))
      (λ κs a. (cond (fits a.0.now a.1.0 a.1.1.0.now) (a.1.0 + length a.1.1.0.now) a.1.0, laid_of a.0.now a.1.0 a.1.1.0.now))
      (λ 𝓛 at_mem run κs a g r x. fact_mono 𝓤 _ _ (λ p i. (p.1 i, p.0 i)))

  pub counters-output : OneResult 𝓤 counters·output.ended counters·output.clauses
  counters-output = one-result 𝓤 counters·output.ended counters·output.clauses (λ κs a. output_of a.0 a.1.0) refl

  pub counters-turn : OneResult 𝓤 counters·turn.ended counters·turn.clauses
  counters-turn =
      one-result 𝓤 counters·turn.ended counters·turn.clauses
      (λ κs a.
      turn_of a.0 a.1.0
      (reach_of a.1.1.0 a.1.1.1.0.link a.1.1.1.0.timer a.1.1.1.0.were a.1.1.1.0.are) a.1.1.0) refl

  pub counters-rests : OneResult 𝓤 counters·rests.ended counters·rests.clauses
  counters-rests =
      one-result 𝓤 counters·rests.ended counters·rests.clauses
      (λ κs a. rests_by a.0 (reach_of a.1.0 a.1.1.0.link a.1.1.0.timer a.1.1.0.were a.1.1.0.are) a.1.0) refl

  pub counters-command : OneResult 𝓤 counters·command.ended counters·command.clauses
  counters-command = one-result 𝓤 counters·command.ended counters·command.clauses (λ κs a. commanded_by a.0 a.1.0 a.1.1.0) refl

  pub image-same-bytes : OneResult 𝓤 image·same-bytes.ended image·same-bytes.clauses
  image-same-bytes = one-result 𝓤 image·same-bytes.ended image·same-bytes.clauses (λ κs a. agree a.0.now a.1.0.now) refl

  pub image-in-device : OneResult 𝓤 image-in·device.ended image-in·device.clauses
  image-in-device =
      one-result 𝓤 image-in·device.ended image-in·device.clauses
      (λ κs a.
      record_in a.0 a.1.0.now.registers.now a.1.0.now.counts.now a.1.0.now.pins.now a.1.0.now.lines.now a.1.0.now.transfers.now) refl

  pub image-in-clear : OneResult 𝓤 image-in·clear.ended image-in·clear.clauses
  image-in-clear =
      one-result 𝓤 image-in·clear.ended image-in·clear.clauses
      (λ κs a.
      unused_clear a.0.now.registers.now a.0.now.counts.now a.0.now.pins.now a.0.now.lines.now a.0.now.transfers.now
      && states_agree a.0.now.registers.now a.0.now.transfers.now) refl

  pub image-out-bodies : OneResult 𝓤 image-out·bodies.ended image-out·bodies.clauses
  image-out-bodies = one-result 𝓤 image-out·bodies.ended image-out·bodies.clauses (λ κs a. bodies_of a.0) refl

  pub input-start : OneResult 𝓤 input·start.ended input·start.clauses
  input-start = one-result 𝓤 input·start.ended input·start.clauses (λ κs a. unread) refl

  pub interrupts-requester-of : OneResult 𝓤 interrupts·requester-of.ended interrupts·requester-of.clauses
  interrupts-requester-of = one-result 𝓤 interrupts·requester-of.ended interrupts·requester-of.clauses (λ κs a. of_five (requester a.0)) refl

  pub interrupts-lines : OneResult 𝓤 interrupts·lines.ended interrupts·lines.clauses
  interrupts-lines = one-result 𝓤 interrupts·lines.ended interrupts·lines.clauses (λ κs a. lines_of a.0) refl

  pub interrupts-relined : OneResult 𝓤 interrupts·relined.ended interrupts·relined.clauses
  interrupts-relined = one-result 𝓤 interrupts·relined.ended interrupts·relined.clauses (λ κs a. relined a.0) refl

  pub interrupts-acknowledge : OneResult 𝓤 interrupts·acknowledge.ended interrupts·acknowledge.clauses
  interrupts-acknowledge = one-result 𝓤 interrupts·acknowledge.ended interrupts·acknowledge.clauses (λ κs a. acknowledge a.0) refl

  pub interrupts-acknowledged : OneResult 𝓤 interrupts·acknowledged.ended interrupts·acknowledged.clauses
  interrupts-acknowledged = one-result 𝓤 interrupts·acknowledged.ended interrupts·acknowledged.clauses (λ κs a. acknowledged a.0) refl

  pub interrupts-vector-read : OneResult 𝓤 interrupts·vector-read.ended interrupts·vector-read.clauses
  interrupts-vector-read = one-result 𝓤 interrupts·vector-read.ended interrupts·vector-read.clauses (λ κs a. vector_read a.0 a.1.0) refl

  pub interrupts-current-vector : OneResult 𝓤 interrupts·current-vector.ended interrupts·current-vector.clauses
  interrupts-current-vector = one-result 𝓤 interrupts·current-vector.ended interrupts·current-vector.clauses (λ κs a. current_vector a.0) refl

  pub levels-port-on : OneResult 𝓤 levels·port-on.ended levels·port-on.clauses
  levels-port-on = one-result 𝓤 levels·port-on.ended levels·port-on.clauses (λ κs a. port_on a.0 a.1.0) refl

  pub levels-port-enabled : OneResult 𝓤 levels·port-enabled.ended levels·port-enabled.clauses
  levels-port-enabled = one-result 𝓤 levels·port-enabled.ended levels·port-enabled.clauses (λ κs a. port_enabled a.0 a.1.0) refl

  pub levels-counter-on : OneResult 𝓤 levels·counter-on.ended levels·counter-on.clauses
  levels-counter-on = one-result 𝓤 levels·counter-on.ended levels·counter-on.clauses (λ κs a. counter_on a.0 a.1.0) refl

  pub levels-inputs-at : OneResult 𝓤 levels·inputs-at.ended levels·inputs-at.clauses
  levels-inputs-at = one-result 𝓤 levels·inputs-at.ended levels·inputs-at.clauses (λ κs a. inputs (pattern_at a.0 a.1.0)) refl

  pub levels-outputs-at : OneResult 𝓤 levels·outputs-at.ended levels·outputs-at.clauses
  levels-outputs-at = one-result 𝓤 levels·outputs-at.ended levels·outputs-at.clauses (λ κs a. outputs (pattern_at a.0 a.1.0)) refl

  pub levels-ackin-at : OneResult 𝓤 levels·ackin-at.ended levels·ackin-at.clauses
  levels-ackin-at = one-result 𝓤 levels·ackin-at.ended levels·ackin-at.clauses (λ κs a. ackin_at a.0 a.1.0) refl

  pub levels-offers-at : OneResult 𝓤 levels·offers-at.ended levels·offers-at.clauses
  levels-offers-at = one-result 𝓤 levels·offers-at.ended levels·offers-at.clauses (λ κs a. offers_at a.0 a.1.0) refl

  pub levels-effective-at : OneResult 𝓤 levels·effective-at.ended levels·effective-at.clauses
  levels-effective-at = one-result 𝓤 levels·effective-at.ended levels·effective-at.clauses (λ κs a. effective_at a.0 a.1.0) refl

  pub levels-direction-at : OneResult 𝓤 levels·direction-at.ended levels·direction-at.clauses
  levels-direction-at = one-result 𝓤 levels·direction-at.ended levels·direction-at.clauses (λ κs a. direction_at a.0 a.1.0) refl

  pub levels-pins-at : OneResult 𝓤 levels·pins-at.ended levels·pins-at.clauses
  levels-pins-at = one-result 𝓤 levels·pins-at.ended levels·pins-at.clauses (λ κs a. pins_at a.0 a.1.0) refl

  pub levels-path-at : OneResult 𝓤 levels·path-at.ended levels·path-at.clauses
  levels-path-at = one-result 𝓤 levels·path-at.ended levels·path-at.clauses (λ κs a. path_at a.0 a.1.0) refl

  pub levels-seen-at : OneResult 𝓤 levels·seen-at.ended levels·seen-at.clauses
  levels-seen-at = one-result 𝓤 levels·seen-at.ended levels·seen-at.clauses (λ κs a. seen_at a.0 a.1.0) refl

  pub levels-look : OneResult 𝓤 levels·look.ended levels·look.clauses
  levels-look = one-result 𝓤 levels·look.ended levels·look.clauses (λ κs a. looks_of a.0) refl

  pub levels-data-at : OneResult 𝓤 levels·data-at.ended levels·data-at.clauses
  levels-data-at = one-result 𝓤 levels·data-at.ended levels·data-at.clauses (λ κs a. data_at a.0 a.1.0) refl

  pub bench-lines-agreed-to : OneResult 𝓤 bench-lines·agreed-to.ended bench-lines·agreed-to.clauses
  bench-lines-agreed-to =
      one-result 𝓤 bench-lines·agreed-to.ended bench-lines·agreed-to.clauses (λ κs a. agreed_to a.0 a.1.0.now a.1.1.0) refl

  pub bench-lines-compare : OneResult 𝓤 bench-lines·compare.ended bench-lines·compare.clauses
  bench-lines-compare =
      one-result 𝓤 bench-lines·compare.ended bench-lines·compare.clauses (λ κs a. compared_of a.0 a.1.0.now) refl

  pub bench-lines-compare-kept : OneResult 𝓤 bench-lines·compare-kept.ended bench-lines·compare-kept.clauses
  bench-lines-compare-kept =
      one-result 𝓤 bench-lines·compare-kept.ended bench-lines·compare-kept.clauses (λ κs a. compared_kept a.0 a.1.0) refl

  pub bench-lines-field-name : OneResult 𝓤 bench-lines·field-name.ended bench-lines·field-name.clauses
  bench-lines-field-name =
      one-result 𝓤 bench-lines·field-name.ended bench-lines·field-name.clauses (λ κs a. typed no_text (name_of a.0)) refl

  pub lines-cut-from : OneResult 𝓤 lines·cut-from.ended lines·cut-from.clauses
  lines-cut-from =
      one-result 𝓤 lines·cut-from.ended lines·cut-from.clauses
      (λ κs a. cut_from a.0 a.1.1.0 (drop a.1.1.0 a.1.0.now)) refl

  pub lines-line-end : OneResult 𝓤 lines·line-end.ended lines·line-end.clauses
  lines-line-end = one-result 𝓤 lines·line-end.ended lines·line-end.clauses (λ κs a. a.1.0 + feed_at (drop a.1.0 a.0.now)) refl

  pub lines-digit : OneResult 𝓤 lines·digit.ended lines·digit.clauses
  lines-digit = one-result 𝓤 lines·digit.ended lines·digit.clauses (λ κs a. below 16 (digit_of a.0)) refl

  pub lines-decimal : OneResult 𝓤 lines·decimal.ended lines·decimal.clauses
  lines-decimal = one-result 𝓤 lines·decimal.ended lines·decimal.clauses (λ κs a. below 4294967296 (clocks_in a.0.now)) refl

  pub lines-event-of : OneResult 𝓤 lines·event-of.ended lines·event-of.clauses
  lines-event-of = one-result 𝓤 lines·event-of.ended lines·event-of.clauses (λ κs a. event_in (line_of a.0.now)) refl

  pub lines-event-of-line : OneResult 𝓤 lines·event-of-line.ended lines·event-of-line.clauses
  lines-event-of-line = one-result 𝓤 lines·event-of-line.ended lines·event-of-line.clauses (λ κs a. event_in (says_of a.0)) refl

  pub moves-moves : OneResult 𝓤 moves·moves.ended moves·moves.clauses
  moves-moves = one-result 𝓤 moves·moves.ended moves·moves.clauses (λ κs a. moves_of a.0 a.1.0) refl

  pub moves-given : OneResult 𝓤 moves·given.ended moves·given.clauses
  moves-given = one-result 𝓤 moves·given.ended moves·given.clauses (λ κs a. given_at a.0 a.1.0) refl

  pub moves-stored : OneResult 𝓤 moves·stored.ended moves·stored.clauses
  moves-stored = one-result 𝓤 moves·stored.ended moves·stored.clauses (λ κs a. cond (ltb a.1.0 2) (stored_at a.0 a.1.0 a.1.1.0) a.0) refl

  pub ports-spread : OneResult 𝓤 ports·spread.ended ports·spread.clauses
  ports-spread = one-result 𝓤 ports·spread.ended ports·spread.clauses (λ κs a. byte_of (λ k. a.0)) refl

  pub ports-places : OneResult 𝓤 ports·places.ended ports·places.clauses
  ports-places = one-result 𝓤 ports·places.ended ports·places.clauses (λ κs a. byte_of (catches_at a.0 a.1.0)) refl

  pub ports-on : OneResult 𝓤 ports·on.ended ports·on.clauses
  ports-on = one-result 𝓤 ports·on.ended ports·on.clauses (λ κs a. byte_of (on_at a.0)) refl

  pub ports-hits : OneResult 𝓤 ports·hits.ended ports·hits.clauses
  ports-hits = one-result 𝓤 ports·hits.ended ports·hits.clauses (λ κs a. byte_of (hit_at a.0 a.1.0 a.1.1.0)) refl

  pub ports-highest : OneResult 𝓤 ports·highest.ended ports·highest.clauses
  ports-highest = one-result 𝓤 ports·highest.ended ports·highest.clauses (λ κs a. highest_match a.0 a.1.0 a.1.1.0) refl

  pub ports-inputs : OneResult 𝓤 ports·inputs.ended ports·inputs.clauses
  ports-inputs = one-result 𝓤 ports·inputs.ended ports·inputs.clauses (λ κs a. inputs a.0) refl

  pub ports-outputs : OneResult 𝓤 ports·outputs.ended ports·outputs.clauses
  ports-outputs = one-result 𝓤 ports·outputs.ended ports·outputs.clauses (λ κs a. outputs a.0) refl

  pub ports-handshakes : OneResult 𝓤 ports·handshakes.ended ports·handshakes.clauses
  ports-handshakes = one-result 𝓤 ports·handshakes.ended ports·handshakes.clauses (λ κs a. handshakes a.0) refl

  pub ports-depth : OneResult 𝓤 ports·depth.ended ports·depth.clauses
  ports-depth = one-result 𝓤 ports·depth.ended ports·depth.clauses (λ κs a. depth a.0) refl

  pub ports-irf : OneResult 𝓤 ports·irf.ended ports·irf.clauses
  ports-irf = one-result 𝓤 ports·irf.ended ports·irf.clauses (λ κs a. irf_of a.0 a.1.0) refl

  pub ports-ore : OneResult 𝓤 ports·ore.ended ports·ore.clauses
  ports-ore = one-result 𝓤 ports·ore.ended ports·ore.clauses (λ κs a. ore_of a.0 a.1.0) refl

  pub ports-ready : OneResult 𝓤 ports·ready.ended ports·ready.clauses
  ports-ready = one-result 𝓤 ports·ready.ended ports·ready.clauses (λ κs a. ready_of a.0 a.1.0 a.1.1.0) refl

  pub ports-available : OneResult 𝓤 ports·available.ended ports·available.clauses
  ports-available = one-result 𝓤 ports·available.ended ports·available.clauses (λ κs a. available_of a.0 a.1.0 a.1.1.0 a.1.1.1.0) refl

  pub read-access-read : OneResult 𝓤 read-access·read.ended read-access·read.clauses
  read-access-read = one-result 𝓤 read-access·read.ended read-access·read.clauses (λ κs a. read_of a.0 (kind_of a.1.0)) refl

  pub read-access-after-read : OneResult 𝓤 read-access·after-read.ended read-access·after-read.clauses
  read-access-after-read = one-result 𝓤 read-access·after-read.ended read-access·after-read.clauses (λ κs a. after_read a.0 a.1.0) refl

  pub sources-command : OneResult 𝓤 sources·command.ended sources·command.clauses
  sources-command = one-result 𝓤 sources·command.ended sources·command.clauses (λ κs a. commanded a.0 a.1.0) refl

  pub sources-port-command : OneResult 𝓤 sources·port-command.ended sources·port-command.clauses
  sources-port-command = one-result 𝓤 sources·port-command.ended sources·port-command.clauses (λ κs a. port_command_of a.0 a.1.0 a.1.1.0 a.1.1.1.0) refl

  pub sources-counter-command : OneResult 𝓤 sources·counter-command.ended sources·counter-command.clauses
  sources-counter-command =
      one-result 𝓤 sources·counter-command.ended sources·counter-command.clauses
      (λ κs a. counter_command_of a.0 a.1.0) refl

  pub sources-fate : OneResult 𝓤 sources·fate.ended sources·fate.clauses
  sources-fate = one-result 𝓤 sources·fate.ended sources·fate.clauses (λ κs a. fate_of a.0 a.1.0 a.1.1.0) refl

  pub sources-left : OneResult 𝓤 sources·left.ended sources·left.clauses
  sources-left = one-result 𝓤 sources·left.ended sources·left.clauses (λ κs a. left_by a.0 a.1.0) refl

  pub sources-matched : OneResult 𝓤 sources·matched.ended sources·matched.clauses
  sources-matched =
      one-result 𝓤 sources·matched.ended sources·matched.clauses
      (λ κs a. struck_by (hides_by a.0) (event_by a.0 a.1.0 a.1.1.0) a.1.1.1.0) refl

  pub step-step : OneResult 𝓤 step·step.ended step·step.clauses
  step-step = one-result 𝓤 step·step.ended step·step.clauses (λ κs a. step_of a.0 a.1.0 a.1.1.0) refl

  pub step-lines-at : OneResult 𝓤 step·lines-at.ended step·lines-at.clauses
  step-lines-at = one-result 𝓤 step·lines-at.ended step·lines-at.clauses (λ κs a. lines_at a.0 a.1.0) refl

  pub step-link : OneResult 𝓤 step·link.ended step·link.clauses
  step-link = one-result 𝓤 step·link.ended step·link.clauses (λ κs a. link_of a.0 a.1.0 a.1.1.0) refl

  pub step-catch-all : OneResult 𝓤 step·catch-all.ended step·catch-all.clauses
  step-catch-all = one-result 𝓤 step·catch-all.ended step·catch-all.clauses (λ κs a. catchers a.0) refl

  pub step-matches : OneResult 𝓤 step·matches.ended step·matches.clauses
  step-matches = one-result 𝓤 step·matches.ended step·matches.clauses (λ κs a. match_of a.0 a.1.0 a.1.1.0 a.1.1.1.0) refl

  pub step-side : OneResult 𝓤 step·side.ended step·side.clauses
  step-side = one-result 𝓤 step·side.ended step·side.clauses (λ κs a. pattern_by a.0 a.1.0 a.1.1.0 a.1.1.1.0 a.1.1.1.1.0) refl

  pub step-has-caught : OneResult 𝓤 step·has-caught.ended step·has-caught.clauses
  step-has-caught = one-result 𝓤 step·has-caught.ended step·has-caught.clauses (λ κs a. has_caught a.0) refl

  pub step-untimed : OneResult 𝓤 step·untimed.ended step·untimed.clauses
  step-untimed = one-result 𝓤 step·untimed.ended step·untimed.clauses (λ κs a. (step_of false a.0 a.1.0).device) refl

  pub texts-glyph : OneResult 𝓤 texts·glyph.ended texts·glyph.clauses
  texts-glyph = one-result 𝓤 texts·glyph.ended texts·glyph.clauses (λ κs a. glyph_of a.0) refl

  pub texts-Text-decimal : OneResult 𝓤 texts·Text-decimal.ended texts·Text-decimal.clauses
  texts-Text-decimal = one-result 𝓤 texts·Text-decimal.ended texts·Text-decimal.clauses (λ κs a. typed a.0 (decimal_text a.1.0)) refl

  pub texts-Text-word : OneResult 𝓤 texts·Text-word.ended texts·Text-word.clauses
  texts-Text-word = one-result 𝓤 texts·Text-word.ended texts·Text-word.clauses (λ κs a. typed a.0 a.1.0.now) refl

  pub texts-Text-hex : OneResult 𝓤 texts·Text-hex.ended texts·Text-hex.clauses
  texts-Text-hex = one-result 𝓤 texts·Text-hex.ended texts·Text-hex.clauses (λ κs a. typed a.0 (hex_text a.1.0)) refl

  pub texts-Text-nibble : OneResult 𝓤 texts·Text-nibble.ended texts·Text-nibble.clauses
  texts-Text-nibble = one-result 𝓤 texts·Text-nibble.ended texts·Text-nibble.clauses (λ κs a. typed a.0 (nibble_text a.1.0)) refl

  pub texts-Text-flag : OneResult 𝓤 texts·Text-flag.ended texts·Text-flag.clauses
  texts-Text-flag = one-result 𝓤 texts·Text-flag.ended texts·Text-flag.clauses (λ κs a. typed a.0 (flag_text a.1.0)) refl

  pub texts-Text-count : OneResult 𝓤 texts·Text-count.ended texts·Text-count.clauses
  texts-Text-count = one-result 𝓤 texts·Text-count.ended texts·Text-count.clauses (λ κs a. typed a.0 (count_text a.1.0)) refl

  pub texts-answer-text : OneResult 𝓤 texts·answer-text.ended texts·answer-text.clauses
  texts-answer-text = one-result 𝓤 texts·answer-text.ended texts·answer-text.clauses (λ κs a. typed no_text (answer_text a.0)) refl

  pub texts-write-answer : OneAnswer 𝓤 texts·write-answer.ended texts·write-answer.clauses (λ κs. ℕ × List ℕ) (λ κs r x. (r, x.1.0.now))
  texts-write-answer =
      one_answer 𝓤 texts·write-answer.ended texts·write-answer.clauses (λ κs. ℕ × List ℕ) (λ κs r x. (r, x.1.0.now))
      (λ κs a. (cond (fits a.1.0.now a.1.1.0 (answer_text a.0)) (a.1.1.0 + length (answer_text a.0)) a.1.1.0, laid_of a.1.0.now a.1.1.0 (answer_text a.0)))
      (λ 𝓛 at_mem run κs a g r x. fact_mono 𝓤 _ _ (λ p i. (p.1 i, p.0 i)))

  pub texts-Text-new : OneResult 𝓤 texts·Text-new.ended texts·Text-new.clauses
  texts-Text-new = one-result 𝓤 texts·Text-new.ended texts·Text-new.clauses (λ κs a. no_text) refl

  pub texts-Text-push : OneResult 𝓤 texts·Text-push.ended texts·Text-push.clauses
  texts-Text-push = one-result 𝓤 texts·Text-push.ended texts·Text-push.clauses (λ κs a. pushed a.0 a.1.0) refl

  pub write-access-write : OneResult 𝓤 write-access·write.ended write-access·write.clauses
  write-access-write =
      one-result 𝓤 write-access·write.ended write-access·write.clauses
      (λ κs a. written_of a.0 (kind_of a.1.0) a.1.1.0) refl
