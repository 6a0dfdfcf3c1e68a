-- Demand 3, its first sentence: a board that passes the seat check still passes after any series of calls.
use mathlib.Core.Path.{◌≡◌}
use mathlib.Core.List.{List, [], ◌∷◌}
use mathlib.Core.Bool.{true}
use Rattle.rules.specs.Board.{Board}
use Rattle.rules.specs.WellFormed.{well_formed}
use Rattle.rules.specs.SeatCheck.{seat_check}
use Rattle.rules.specs.Calls.{Call, tick, admit_split, admit_merge, mark_seat_ready, mark_quiet, draw_cohort, lapse, schedule_splits, schedule_merges, cut_splits, cut_merges, leave, rotate, resolve, time_out, answer_to}
use Rattle.rules.specs.Series.{next, after}
use Rattle.rules.proofs.Tests.{all_parts}
use Rattle.rules.proofs.Kept.{well_formed_kept}
use Rattle.rules.proofs.Seats.{Seats}
use Rattle.rules.proofs.SeatsFormed.{formed}
use Rattle.rules.proofs.SeatsPlaces.{tick_kept, leave_kept, rotate_kept, resolve_kept, time_out_kept}
use Rattle.rules.proofs.SeatsReshapes.{mark_seat_ready_kept, mark_quiet_kept, draw_cohort_kept, lapse_kept, schedule_splits_kept, schedule_merges_kept}
use Rattle.rules.proofs.SeatsFrame.{admit_split_kept, admit_merge_kept}
use Rattle.rules.proofs.SeatsCut.{cut_splits_kept, cut_merges_kept}
use Rattle.rules.proofs.SeatsTest.{seat_clauses→, seat_clauses←}

-- every call keeps the counts of the seat check
pub seats_kept : (c : Call) (b : Board) → well_formed b ≡ true → Seats b → Seats (answer_to c b).board
unfolding answer_to
seats_kept tick b w h = tick_kept b h
seats_kept (admit_split t) b w h = admit_split_kept t b (formed b w) h
seats_kept (admit_merge t draws) b w h = admit_merge_kept t draws b (formed b w) h
seats_kept (mark_seat_ready t x) b w h = mark_seat_ready_kept t x b h
seats_kept (mark_quiet t side) b w h = mark_quiet_kept t side b h
seats_kept (draw_cohort t draws) b w h = draw_cohort_kept t draws b (formed b w) h
seats_kept (lapse t) b w h = lapse_kept t b (formed b w) h
seats_kept (schedule_splits draws) b w h = schedule_splits_kept draws b h
seats_kept schedule_merges b w h = schedule_merges_kept b (formed b w) h
seats_kept cut_splits b w h = cut_splits_kept b (formed b w) h
seats_kept cut_merges b w h = cut_merges_kept b (formed b w) h
seats_kept (leave x draws) b w h = leave_kept x draws b (formed b w) h
seats_kept (rotate s v draws) b w h = rotate_kept s v draws b (formed b w) h
seats_kept resolve b w h = resolve_kept b h
seats_kept time_out b w h = time_out_kept b h

pub seat_check_formed : (b : Board) → seat_check b ≡ true → well_formed b ≡ true
unfolding seat_check
seat_check_formed b h = (all_parts _ h).0

pub seat_check_kept : (c : Call) (b : Board) → seat_check b ≡ true → seat_check (next c b) ≡ true
seat_check_kept c b h = let w = seat_check_formed b h in seat_clauses← (next c b) (well_formed_kept c b w) (seats_kept c b w (seat_clauses→ b h))

-- 'start from a board that passes the seat check and make any series of step calls, refused ones included. It still passes'
pub seat_check_kept_by_all : (calls : List Call) (b : Board) → seat_check b ≡ true → seat_check (after calls b) ≡ true
unfolding after
seat_check_kept_by_all [] b h = h
seat_check_kept_by_all (c ∷ calls) b h = seat_check_kept_by_all calls (next c b) (seat_check_kept c b h)
