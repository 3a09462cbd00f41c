-- The examples from the definitions, by a single claim over a list.
-- Assumes nothing.
use mathlib.Core.Path.{◌≡◌, refl}
use mathlib.Core.List.{[], ◌∷◌}
use Rattle.examples.specs.Claim.{old_of, answered_from, answers_each, expected, places_each, Right}
use Rattle.examples.specs.Examples.{p1, p2, p3, p4, p5, p6, p7, p8, p9, p10, w202, w203, w203pair, w205, w205old, w205linked, w205linked_old, w206, w206asks, w206up, w208}
use Rattle.examples.specs.Examples.{w211, w211number, w211refused, w211old}
use Rattle.basics.specs.Byte.{byte_of, every, any, byte_in, with_byte}
use Rattle.rules.specs.Record.{reset_of, fresh_of}
use Rattle.rules.specs.Report.{sums, nums, reports_added}
use Rattle.rules.specs.Registers.{port_kind, kind_in, kind_of, vis, port_on, counter_on, kept, read_only, later_port_mode, later_handshake, later_priority}
use Rattle.rules.specs.Registers.{later_config, later_counter_mode, port_of, later, ip_cleared, commanded, status_of}
use Rattle.rules.specs.Handshakes.{depth, irf_of, ore_of, ready_of, is_line, ackin_at, available_of, offers_at, shown_at}
use Rattle.rules.specs.Counters.{takes, loaded, terminal_of, count_of, pulse_of, output_of, link_of, reach_of, clocks, clocked_by, turn_of, frozen_by, triggered_by, commanded_by, thawed, shown, enabled_by}
use Rattle.rules.specs.PortData.{pin_bit, path_bit, catches, caught_bit, seen_bit, pins_of, path_of, catches_at, caught_of, seen_of, level_of}
use Rattle.rules.specs.PortData.{direction_at, special_at, standing, lined, value_at, pins_at, path_at, seen_at, data_at, output_bit, cleared_bit, put_of, unprotected, written_data}
use Rattle.rules.specs.Moves.{joined, shifted, held_at, put_at, asked_if, works_at, can_move, falls, asks_in, taken_at, asks_out, left_at, moves_at, moves_of, served_by, pair_by, given_at, stored_at}
use Rattle.rules.specs.Patterns.{on_bit, hit_bit, on_at, hit_at, and_match, or_match, match_of, event_by, hides_by, highest_of, highest_match}
use Rattle.rules.specs.Interrupts.{fate_of, after_fate, came, was_lost, first_of, first, served, pending, requests, requester, int_of, ieo_of, place_of, lines_of, relined, vector_of, counter_status}
use Rattle.rules.specs.Interrupts.{port_status, priority_status, highest_at, port_vector, with_status, vector_for, acknowledged, acknowledge, pending_counter, vector_read, current_vector}
use Rattle.rules.specs.Step.{lines_at, event_at, turned, counter_turn, caught_at, catchers, matched_by, pattern_turn, settled, step_of, reported, clock_of, ran_of}
use Rattle.basics.specs.Iterate.{iterate}
use Rattle.rules.specs.Access.{port_command, counter_command, read_of, reads_byte, writes_byte, after_read, master_written, kept_by, config_written, port_commanded, counter_commanded}
use Rattle.rules.specs.Access.{data_written, written_of}
use Rattle.rules.specs.Sound.{four_bits, no_later, err_only, hidden_only, sound_source, cip_only, half_only, frozen_only, pulse_only, sound_counter}
use Rattle.rules.specs.Sound.{catcher_only, catcher_set, sound_port, pmf_only, same_source, same_counter, same_port, same_pattern, same_sources}
use Rattle.rules.specs.Sound.{same_transfer, held_only, room_only, bytes_only, unfinished_only, pair_only, front_only, sound_transfer, same_transfers, sound_transfer_at, sound_transfers}
use Rattle.rules.specs.Sound.{same_counters, same_ports, same_patterns, same_vectors, same_of, reset_only, sound_sources, sound_counters, sound_port_at, sound_ports, sound_patterns, sound_version}
use Rattle.rules.specs.Sound.{same_lines, sound_but_lines, sound_lines, sound_of}
use Rattle.rules.specs.Events.{unknown, no_register, too_large, held, no_byte, no_room, code_of, write_effect, read_effect, outside_set, pins_effect, clocks_effect}
use Rattle.rules.specs.Events.{acknowledge_effect, iei_effect, effect_of, relit, answer_of, outcome_of, event_of}

-- P1 to P10, and those of W-202, W-203, W-205, W-206 and W-211; in version 1 the same but for handshakes and that mode, with its own pulse;
-- and the places of P6, in both. Each is computed, with every definition of `rules` open.
pub examples : Right fresh_of (p1 ∷ p2 ∷ p3 ∷ p4 ∷ p5 ∷ p6 ∷ p7 ∷ p8 ∷ p9 ∷ p10 ∷ w202 ∷ w203 ∷ w203pair ∷ w205 ∷ w205linked ∷ w206 ∷ w206asks ∷ w206up
    ∷ w211 ∷ w211number ∷ w211refused ∷ [])
    × Right old_of (p1 ∷ p2 ∷ p3 ∷ p4 ∷ p5 ∷ p6 ∷ p7 ∷ p8 ∷ p9 ∷ p10 ∷ w202 ∷ w205old ∷ w205linked_old ∷ w211old ∷ [])
    × (places_each fresh_of p6 ≡ w208) × (places_each old_of p6 ≡ w208)
unfolding answered_from answers_each expected places_each byte_of every any byte_in with_byte reset_of port_kind kind_in kind_of vis
    port_on counter_on kept read_only later_port_mode later_handshake later_priority later_config later_counter_mode port_of later ip_cleared commanded
    status_of depth irf_of ore_of ready_of is_line ackin_at available_of offers_at shown_at direction_at special_at lined joined shifted held_at put_at
    asked_if works_at can_move falls asks_in taken_at asks_out left_at moves_at moves_of served_by pair_by given_at stored_at reads_byte writes_byte
    kept_by same_transfer held_only room_only bytes_only unfinished_only pair_only front_only sound_transfer
    same_transfers sound_transfer_at sound_transfers no_byte no_room
    takes loaded terminal_of count_of pulse_of output_of link_of reach_of clocks clocked_by turn_of frozen_by triggered_by commanded_by thawed
    shown enabled_by pin_bit path_bit catches caught_bit seen_bit pins_of path_of catches_at caught_of seen_of level_of standing
    value_at pins_at path_at seen_at data_at output_bit cleared_bit put_of unprotected written_data on_bit hit_bit on_at hit_at
    and_match or_match match_of event_by hides_by highest_of highest_match fate_of after_fate came was_lost first_of first served pending requests
    requester int_of ieo_of place_of lines_of relined vector_of
    counter_status port_status priority_status highest_at port_vector with_status vector_for acknowledged acknowledge pending_counter vector_read current_vector
    lines_at event_at turned counter_turn caught_at catchers matched_by pattern_turn settled step_of reported clock_of iterate
    ran_of port_command counter_command read_of after_read master_written config_written port_commanded counter_commanded
    data_written written_of four_bits no_later err_only hidden_only sound_source cip_only half_only frozen_only pulse_only sound_counter catcher_only
    catcher_set sound_port pmf_only same_source same_counter same_port same_pattern same_sources same_counters same_ports
    same_patterns same_vectors same_of reset_only sound_sources sound_counters sound_port_at sound_ports sound_patterns sound_version
    same_lines sound_but_lines sound_lines sound_of
    unknown no_register too_large held code_of write_effect read_effect outside_set pins_effect clocks_effect acknowledge_effect iei_effect
    effect_of relit answer_of outcome_of event_of sums nums reports_added
examples = (
  (refl, (refl, (refl, (refl, (refl, (refl, (refl, (refl, (refl, (refl, (refl, (refl, (refl, (refl, (refl, (refl, (refl, (refl, (refl, (refl, (refl, tt))))))))))))))))))))),
  (refl, (refl, (refl, (refl, (refl, (refl, (refl, (refl, (refl, (refl, (refl, (refl, (refl, (refl, tt)))))))))))))),
  refl,
  refl,
)
