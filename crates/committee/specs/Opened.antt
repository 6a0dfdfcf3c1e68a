-- A rotation opened: where it goes, and the board after.
use Rattle.std.specs.Prelude.{ℕ, ◌≤◌, ◌<◌, ◌≡◌, length, Option, MatchOption}
use Rattle.types.specs.Numbers.{Shard, Id}
use Rattle.types.specs.Places.{drawn_to}
use Rattle.rules.specs.Board.{Rotation, Board, most_rotations, on_rotations, epoch_of}
use Rattle.rules.specs.WellFormed.{rotation_before}
use Rattle.rules.specs.Moves.{put_on, open_rotation}
use Rattle.rules.specs.Places.{new_rotation}
use Rattle.tables.specs.Rows.{first_where}

-- k is the row that a rotation of the shard and the victim goes to
pub record Goes (s : Shard) (v : Id) (b : Board) (k : ℕ) : Type 0 where
  pub free : length b.rotations < most_rotations
  pub place : (p : Rotation) → p.shard ≡ s → p.victim ≡ v → k ≡ first_where (rotation_before p) b.rotations

-- r is that row; or every row is taken
abbrev pub RowFor : Shard → Id → Board → Option ℕ → Type 0
RowFor s v b r = MatchOption r (most_rotations ≤ length b.rotations) (Goes s v b)

-- x is seated on the shard, as the entrant that the victim waits for
abbrev pub opened : Shard → Id → Id → Board → Board
opened s v x b = on_rotations (open_rotation (new_rotation s v x b)) (put_on s (drawn_to s (epoch_of b)) x b)
