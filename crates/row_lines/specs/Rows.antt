-- The rows of a roster's tables, in words.
use Rattle.std.specs.Prelude.{ℕ, Bool, cond, List, ◌++◌, Option}
use Rattle.types.specs.Places.{is_seated_on, observes}
use Rattle.types.specs.declared.Epoch.{Epoch}
use Rattle.types.specs.declared.Place.{Place}
use Rattle.lines.specs.Numeral.{numeral}
use Rattle.phrases.specs.Texts.{bytes, named, column, either, epoch_or}
use Rattle.phrases.specs.Places.{place_text, member_text}
use Rattle.row_lines.specs.declared.Progress.{Progress}

-- a member of a committee of the shard, and where it is
unfoldable pub member_row_text : ℕ → ℕ → Place → ℕ → List ℕ
member_row_text shard id place wait =
    numeral 22 id
    ++ bytes "  "
    ++ cond (is_seated_on shard place) (member_text wait place) (cond (observes shard place) (member_text wait place) (bytes "not here: " ++ place_text place))

unfoldable pub rotation_text : ℕ → ℕ → ℕ → ℕ → List ℕ
rotation_text shard victim entrant opened = column "  shard " 5 shard ++ column "  victim " 20 victim ++ column "  entrant " 20 entrant ++ column "  opened " 10 opened

unfoldable pub seat_text : ℕ → ℕ → Bool → List ℕ
seat_text id child ready = numeral 14 id ++ column "  seat on " 5 child ++ either ready "  ready" "  waiting"

unfoldable pub boundary_text : ℕ → ℕ → ℕ → ℕ → List ℕ
boundary_text shard height formed live = column "  shard " 5 shard ++ column " height " 20 height ++ column " formed " 10 formed ++ column " live " 10 live

-- the epochs that a boundary may lack
unfoldable pub ends_text : Option Epoch → Option Epoch → List ℕ
ends_text terminal admitted =
    epoch_or (bytes "              terminal ") 10 terminal (bytes "              terminal          -")
    ++ epoch_or (bytes " admitted ") 10 admitted (bytes " admitted          -")

unfoldable pub reshape_text : Bool → ℕ → ℕ → List ℕ
reshape_text merge target admitted = either merge "merge to shard " "split of shard " ++ numeral 0 target ++ named ", admitted at " admitted

-- a split has one side, a merge two
unfoldable pub quiet_text : Bool → Bool → Bool → List ℕ
quiet_text merge left right =
    cond left
    (cond right (bytes "; quiet") (either merge "; quiet on side 0, not yet on 1" "; quiet"))
    (either right "; quiet on side 1, not yet on 0" "; not quiet yet")

unfoldable pub progress_text : Progress → List ℕ
progress_text p =
    epoch_or (bytes "drains by ") 0 p.drain_by (bytes "no drain stamp yet")
    ++ quiet_text p.merge p.left p.right
    ++ epoch_or (bytes "; terminal ") 0 p.terminal (bytes "; not scheduled yet")
