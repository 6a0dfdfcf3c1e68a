-- A series of exported calls on lent words.
use Rattle.std.specs.Prelude.{ℕ, List, [], ◌∷◌}
use Rattle.rules.specs.Places as places
use Rattle.rules.specs.Reshapes as reshapes
use Rattle.rules.specs.Schedule as schedule
use Rattle.rules.specs.Cut as cut
use Rattle.rules.specs.Calls.{Call, tick, admit_split, admit_merge, mark_seat_ready, mark_quiet, draw_cohort, lapse, schedule_splits, schedule_merges, cut_splits, cut_merges, leave, rotate, resolve, time_out}
use Rattle.roster.specs.Exported.{ExportedStep}

-- what the contract of each export says of the words before and after, its number and its results
unfoldable pub Contract : Call → List ℕ → List ℕ → ℕ → List ℕ → Type 0
Contract tick = ExportedStep places.tick
Contract (admit_split t) = ExportedStep (reshapes.admit_split t)
Contract (admit_merge t draws) = ExportedStep (reshapes.admit_merge t draws)
Contract (mark_seat_ready t x) = ExportedStep (reshapes.mark_seat_ready t x)
Contract (mark_quiet t side) = ExportedStep (reshapes.mark_quiet t side)
Contract (draw_cohort t draws) = ExportedStep (reshapes.draw_cohort t draws)
Contract (lapse t) = ExportedStep (reshapes.lapse t)
Contract (schedule_splits draws) = ExportedStep (schedule.schedule_splits draws)
Contract schedule_merges = ExportedStep schedule.schedule_merges
Contract cut_splits = ExportedStep cut.cut_splits
Contract cut_merges = ExportedStep cut.cut_merges
Contract (leave x draws) = ExportedStep (places.leave x draws)
Contract (rotate s v draws) = ExportedStep (places.rotate s v draws)
Contract resolve = ExportedStep places.resolve
Contract time_out = ExportedStep places.time_out

-- calls made one after another, refused ones included: each finds the words that the one before it left
pub data Made : List Call → List ℕ → List ℕ → Type 0 where
  begun : {ws : List ℕ} → Made [] ws ws
  called : {c : Call} {cs : List Call} {before between after : List ℕ} (number : ℕ) (results : List ℕ) → Contract c before between number results → Made cs between after → Made (c ∷ cs) before after
