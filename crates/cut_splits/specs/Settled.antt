-- In which order a child's committee is filled, and the board of the cut.
use Rattle.std.specs.Prelude.{ℕ, ◌-◌, List, [], ◌∷◌, cond, eqb, ltb, length, get_or}
use Rattle.types.specs.Numbers.{Shard, Id, Height}
use Rattle.types.specs.Shards.{left_of, right_of}
use Rattle.rules.specs.Table.{Entry, Table}
use Rattle.rules.specs.Board.{split, Seat, Reshape, Board}
use Rattle.rules.specs.Cut.{recast, settle_child}
use Rattle.board.specs.Held.{no_seat}
use Rattle.reshapes.specs.declared.Side.{Side}
use Rattle.reshapes.specs.declared.Side.TheVariants.{Left, Right}

abbrev pub child_of : Side → Shard → Shard
child_of Left t = left_of t
child_of Right t = right_of t

abbrev pub seat_for : Shard → Entry Seat → List Id
seat_for c e = cond (eqb e.val.child c) (e.key ∷ []) []

-- whom a child takes in turn k: one of its half, and after the half one with a seat, where the seat is the child's
abbrev pub turn_of : Shard → List Id → Table Seat → ℕ → List Id
turn_of c half seats k = cond (ltb k (length half)) (get_or half k 0 ∷ []) (seat_for c (get_or seats (k - length half) no_seat))

-- the board of a split's cut
abbrev pub cut_board : Shard → Reshape → Height → Board → Board
cut_board t r height b = settle_child t (right_of t) r.right r.seats (settle_child t (left_of t) r.left r.seats (recast split t height b))
