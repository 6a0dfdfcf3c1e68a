-- All that the rules compute with: `unfolding computes` opens it.
use Rattle.rules.specs.Lists as lists
use Rattle.rules.specs.Table as table
use Rattle.rules.specs.WellFormed as wellformed
use Rattle.rules.specs.Snapshot as snapshot
use Rattle.rules.specs.Draws as draws
use Rattle.rules.specs.Moves as moves
use Rattle.rules.specs.Turns as turns
use Rattle.rules.specs.Places as places
use Rattle.rules.specs.Reshapes as reshapes
use Rattle.rules.specs.Schedule as schedule
use Rattle.rules.specs.Cut as cut
use Rattle.rules.specs.SeatCheck as seatcheck
use Rattle.rules.specs.Calls as calls

unfoldable pub computes : Unit {0}
unfolding lists.◌and◌ lists.◌or◌ lists.all_of lists.every lists.any lists.count lists.keep lists.is_empty lists.has lists.distinct lists.strike lists.insert lists.sort lists.equal table.is_some table.at table.stands table.holds_at table.put table.remove table.each table.update table.keys_where table.keys_of table.count_where wellformed.rising wellformed.good_list wellformed.good_ids wellformed.good_option wellformed.good_settings wellformed.good_place wellformed.good_machine wellformed.good_committee wellformed.good_boundary wellformed.good_rotation wellformed.rotation_before wellformed.good_seat wellformed.good_quiet wellformed.may_have_halves wellformed.good_reshape wellformed.well_formed snapshot.rows_words snapshot.section snapshot.id_words snapshot.flag_of snapshot.value_of snapshot.settings_words snapshot.place_words snapshot.machine_words snapshot.committee_words snapshot.boundary_words snapshot.rotation_words snapshot.kind_word snapshot.seat_words snapshot.reshape_words snapshot.words_of snapshot.word snapshot.read_rows snapshot.read_section snapshot.option_of snapshot.read_settings snapshot.place_of snapshot.read_machine snapshot.read_committee snapshot.read_boundary snapshot.read_rotation snapshot.read_seat snapshot.read_reshape snapshot.read_board snapshot.board_of snapshot.digits snapshot.bytes_of snapshot.value_of_bytes snapshot.read_words snapshot.words_of_bytes snapshot.snapshot_of snapshot.read_snapshot snapshot.snapshot_answer draws.and_then draws.draw_index draws.exchange draws.shuffle_from draws.shuffle draws.draw_from moves.pool_of moves.members_of moves.place moves.join moves.quit moves.put_on moves.take_off moves.for_all moves.may_join moves.has_party moves.is_party moves.open_rotation moves.drop_first moves.drop_rotations moves.entrants_on moves.abort_rotations moves.is_kind moves.give_up_seat moves.watch moves.overlaps moves.committees_fit moves.bounds_stand moves.height_of turns.checked turns.drawn turns.alone turns.in_turn turns.batch turns.pool_draw places.tick places.is_scheduled_split places.is_carved places.leave_seat places.leave_from_seat places.leave_from places.leave_turn places.leave places.in_flight places.may_rotate places.victim_fit places.rotate_turn places.rotate places.is_resolved places.has_seats_free places.retire places.close places.resolved places.resolve places.time_out reshapes.family_free reshapes.admission_faults reshapes.admit reshapes.admit_split reshapes.seated_members reshapes.keepers_of reshapes.seat_all reshapes.draw_keepers reshapes.admit_merge reshapes.has_seat reshapes.mark_seat_ready reshapes.has_side reshapes.quieted reshapes.mark_quiet reshapes.awaits_cohort reshapes.watch_all reshapes.cohort_turn reshapes.draw_cohort reshapes.cohort_of reshapes.released reshapes.lapse schedule.unscheduled schedule.is_quiet schedule.scheduled schedule.drain_or_schedule schedule.seated_there schedule.ready_for schedule.split_gate schedule.pass_gate schedule.halve schedule.schedule_split schedule.schedule_splits schedule.merge_gate schedule.schedule_merge schedule.schedule_merges cut.is_terminal cut.due cut.recast cut.fits cut.cut_faults cut.settle cut.cohort_for cut.settle_child cut.cut_split_of cut.cut_split cut.cut_splits cut.others cut.rejoin cut.cut_merge_of cut.cut_merge cut.cut_merges seatcheck.members_are_there seatcheck.has_cohort_seat seatcheck.is_listed seatcheck.machines_are_listed seatcheck.cohorts_watch seatcheck.parties_on seatcheck.parties_fit seatcheck.rotations_fit seatcheck.is_in_one_half seatcheck.scheduled_fit seatcheck.families_apart seatcheck.reshapes_stand seatcheck.seat_check calls.answer_to
computes = tt
