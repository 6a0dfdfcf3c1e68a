-- The seat check's clauses on members and cohorts, at one row.
use Rattle.std.specs.Prelude.{List, Bool, not}
use Rattle.types.specs.Numbers.{Shard, Id}
use Rattle.types.specs.Places.{is_seated_on, observes}
use Rattle.types.specs.declared.Place.{Place}
use Rattle.rules.specs.Lists.{◌or◌, every}
use Rattle.rules.specs.Table.{Entry, keys_of}
use Rattle.rules.specs.Board.{split, Reshape, Board}
use Rattle.rules.specs.Moves.{says, is_kind}

abbrev pub is_here : Shard → Place → Bool
is_here s p = is_seated_on s p or observes s p

abbrev pub committee_is_there : Board → Entry (List Id) → Bool
committee_is_there b e = every (says (is_here e.key) b) e.val

abbrev pub cohort_watches : Board → Entry Reshape → Bool
cohort_watches b e = not (is_kind split e.val) or every (says (observes e.key) b) (keys_of e.val.seats)
