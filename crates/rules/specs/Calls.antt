-- A call: one of the fifteen steps with its arguments and its draws.
use Rattle.std.specs.Prelude.{ℕ, List}
use Rattle.types.specs.Numbers.{Shard, Id}
use Rattle.rules.specs.Board.{Board}
use Rattle.rules.specs.Turns.{Result}
use Rattle.rules.specs.Places as places
use Rattle.rules.specs.Reshapes as reshapes
use Rattle.rules.specs.Schedule as schedule
use Rattle.rules.specs.Cut as cut

pub data Call : Type 0 where
  tick : Call
  admit_split : Shard → Call
  admit_merge : Shard → List ℕ → Call
  mark_seat_ready : Shard → Id → Call
  mark_quiet : Shard → ℕ → Call
  draw_cohort : Shard → List ℕ → Call
  lapse : Shard → Call
  schedule_splits : List ℕ → Call
  schedule_merges : Call
  cut_splits : Call
  cut_merges : Call
  leave : Id → List ℕ → Call
  rotate : Shard → Id → List ℕ → Call
  resolve : Call
  time_out : Call

unfoldable pub answer_to : Call → Board → Result
answer_to tick b = places.tick b
answer_to (admit_split t) b = reshapes.admit_split t b
answer_to (admit_merge t draws) b = reshapes.admit_merge t draws b
answer_to (mark_seat_ready t x) b = reshapes.mark_seat_ready t x b
answer_to (mark_quiet t side) b = reshapes.mark_quiet t side b
answer_to (draw_cohort t draws) b = reshapes.draw_cohort t draws b
answer_to (lapse t) b = reshapes.lapse t b
answer_to (schedule_splits draws) b = schedule.schedule_splits draws b
answer_to schedule_merges b = schedule.schedule_merges b
answer_to cut_splits b = cut.cut_splits b
answer_to cut_merges b = cut.cut_merges b
answer_to (leave x draws) b = places.leave x draws b
answer_to (rotate s v draws) b = places.rotate s v draws b
answer_to resolve b = places.resolve b
answer_to time_out b = places.time_out b
