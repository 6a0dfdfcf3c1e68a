-- Who of the children's members goes to the pool, and the board of a merge's cut.
use Rattle.std.specs.Prelude.{cond}
use Rattle.types.specs.Numbers.{Shard, Id, Height}
use Rattle.types.specs.Places.{pooled}
use Rattle.rules.specs.Table.{Table, stands, keys_of}
use Rattle.rules.specs.Board.{merge, Seat, Reshape, Board}
use Rattle.rules.specs.Moves.{place, for_all}
use Rattle.rules.specs.Cut.{recast, others, rejoin}

-- pooled, unless it is a keeper
abbrev pub pooled_unless : Table Seat → Id → Board → Board
pooled_unless keepers x b = cond (stands x keepers) b (place x pooled b)

-- the board of a merge's cut
abbrev pub cut_board : Shard → Reshape → Height → Board → Board
cut_board t r height b = for_all (rejoin t r.seats) (keys_of r.seats) (for_all (λ x. place x pooled) (others t r.seats b) (recast merge t height b))
