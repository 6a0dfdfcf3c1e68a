-- A reshape by its row, the seats that are counted, and what its drain asks for.
use Rattle.std.specs.Prelude.{◌≡◌, ℕ, ◌<◌, Bool, cond, length, nat_eq, slice_index_or}
use Rattle.types.specs.Numbers.{Shard}
use Rattle.rules.specs.Lists.{◌and◌}
use Rattle.rules.specs.Table.{is_some}
use Rattle.rules.specs.Board.{Seat, Reshape, Board}
use Rattle.rules.specs.Moves.{bounds_stand}
use Rattle.rules.specs.Schedule.{is_quiet}
use Rattle.board.specs.Held.{no_reshape}
use Rattle.drains.specs.declared.Whose.{Whose}
use Rattle.drains.specs.declared.Whose.TheVariants.{All, Of}
use Rattle.drains.specs.declared.Plan.{Plan}
use Rattle.drains.specs.declared.Plan.TheVariants.{Stamp, Wait, Schedule, Unbounded}

-- the reshape of t stands at row i
pub record RowOf (t : Shard) (i : ℕ) (b : Board) : Type 0 where
  pub inside : i < length b.reshapes
  pub named : (slice_index_or b.reshapes i no_reshape).key ≡ t

abbrev pub counts_seat : Whose → Seat → Bool
counts_seat All q = q.ready
counts_seat (Of c) q = nat_eq q.child c.0 and q.ready

-- 'the first time, drain-by ... and nothing is scheduled. Later, if quiet': 5 where a boundary is missing
abbrev pub plan_of : Shard → Reshape → Board → Plan
plan_of t r b = cond (is_some r.drain_by) (cond (is_quiet r) (cond (bounds_stand r.kind t b) Schedule Unbounded) Wait) Stamp
