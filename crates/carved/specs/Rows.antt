-- The seat check's clause on scheduled splits, at one row.
use Rattle.std.specs.Prelude.{Bool, not}
use Rattle.rules.specs.Lists.{◌and◌, ◌or◌, every, any}
use Rattle.rules.specs.Table.{Entry}
use Rattle.rules.specs.Board.{Reshape, Board}
use Rattle.rules.specs.Moves.{is_on}
use Rattle.rules.specs.Places.{is_scheduled_split}
use Rattle.rules.specs.SeatCheck.{is_in_one_half}

abbrev pub split_fits : Board → Entry Reshape → Bool
split_fits b e = not (is_scheduled_split e.val) or (not (any (is_on e.key) b.rotations) and every (is_in_one_half e.key e.val) b.machines)
