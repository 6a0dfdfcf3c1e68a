-- A step over several shards, on its way: what is done, what is left, and the board in between.
use Rattle.std.specs.Prelude.{ℕ, ◌≤◌, ◌≡◌, List, length, drop, Result, Ok, Err}
use Rattle.types.specs.Numbers.{Shard}
use Rattle.types.specs.declared.Answer.{Answer}
use Rattle.rules.specs.Board.{Board}
use Rattle.rules.specs.Turns.{Turn, in_turn, batch}
use Rattle.board.specs.Held.{Holds}
use Rattle.pool.specs.declared.Turn as step

-- a turn handles its shard or not, and its reader is not past a place, whatever the words hold
abbrev pub Within : ℕ → Result step.Turn Answer → Type 0
Within most (Ok t) = (t.handled ≤ 1) × (t.left.at ≤ most)
Within most (Err a) = Unit {0}

-- the first i shards have had their turns, with these counts; the words hold the board that they left, which has what each turn keeps
pub record Underway (turn : Shard → List ℕ → Board → Turn) (Keeps : Board → Type 0) (shards : List Shard) (draws : List ℕ) (b : Board) (i handled at : ℕ) (now : List ℕ) : Type 0 where
  pub board : Board
  pub holds : Holds now board
  pub kept : Keeps board
  pub read : at ≤ length draws
  pub rest : batch turn shards draws b ≡ in_turn turn (drop i shards) handled at (drop at draws) board
