-- The seat check's clauses on reshapes, at one row.
use Rattle.std.specs.Prelude.{Bool, not}
use Rattle.rules.specs.Lists.{◌and◌, any}
use Rattle.rules.specs.Table.{Entry, Table, keys_of}
use Rattle.rules.specs.Board.{Reshape, Board}
use Rattle.rules.specs.Moves.{overlaps, committees_fit, bounds_stand}

-- held against those after it
abbrev pub is_family_apart : Entry Reshape → Table Reshape → Bool
is_family_apart e later = not (any (overlaps e.key) (keys_of later))

abbrev pub reshape_stands : Board → Entry Reshape → Bool
reshape_stands b e = committees_fit e.val.kind e.key b and bounds_stand e.val.kind e.key b
