-- A rotation aborted: what becomes of its entrant.
use Rattle.std.specs.Prelude.{cond}
use Rattle.types.specs.Numbers.{Shard}
use Rattle.types.specs.Places.{is_seated_on}
use Rattle.rules.specs.Board.{Rotation, Board}
use Rattle.rules.specs.Moves.{take_off, pooled_from, is_on}

-- it is off the shard, where the rotation is the shard's
abbrev pub entrant_left : Shard → Rotation → Board → Board
entrant_left s r b = cond (is_on s r) (take_off s (pooled_from (is_seated_on s)) r.entrant b) b
