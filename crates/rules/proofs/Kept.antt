-- Each step's board is well-formed if the one before was.
use mathlib.Core.Path.{◌≡◌}
use mathlib.Core.Bool.{true}
use Rattle.rules.specs.Board.{Board}
use Rattle.rules.specs.WellFormed.{well_formed}
use Rattle.rules.specs.Calls.{Call, tick, admit_split, admit_merge, mark_seat_ready, mark_quiet, draw_cohort, lapse, schedule_splits, schedule_merges, cut_splits, cut_merges, leave, rotate, resolve, time_out, answer_to}
use Rattle.rules.proofs.KeptBoard.{Good, good_of_lem, of_good}
use Rattle.rules.proofs.KeptPlaces.{good_tick, good_leave, good_rotate, good_resolve, good_time_out}
use Rattle.rules.proofs.KeptReshapes.{good_admit_split, good_admit_merge, good_mark_seat_ready, good_mark_quiet, good_draw_cohort, good_lapse}
use Rattle.rules.proofs.KeptSchedule.{good_schedule_merges, good_schedule_splits}
use Rattle.rules.proofs.KeptCut.{good_cut_splits, good_cut_merges}

pub good_kept : (c : Call) (b : Board) → Good b → Good (answer_to c b).board
unfolding answer_to
good_kept tick b = good_tick b
good_kept (admit_split t) b = good_admit_split t b
good_kept (admit_merge t draws) b = good_admit_merge t draws b
good_kept (mark_seat_ready t x) b = good_mark_seat_ready t x b
good_kept (mark_quiet t side) b = good_mark_quiet t side b
good_kept (draw_cohort t draws) b = good_draw_cohort t draws b
good_kept (lapse t) b = good_lapse t b
good_kept (schedule_splits draws) b = good_schedule_splits draws b
good_kept schedule_merges b = good_schedule_merges b
good_kept cut_splits b = good_cut_splits b
good_kept cut_merges b = good_cut_merges b
good_kept (leave x draws) b = good_leave x draws b
good_kept (rotate s v draws) b = good_rotate s v draws b
good_kept resolve b = good_resolve b
good_kept time_out b = good_time_out b

pub well_formed_kept : (c : Call) (b : Board) → well_formed b ≡ true → well_formed (answer_to c b).board ≡ true
well_formed_kept c b h = of_good (good_kept c b (good_of_lem b h))
