-- Who may be halved.
use Rattle.std.specs.Prelude.{◌≡◌, List, true, false}
use Rattle.types.specs.Numbers.{Shard, Id}
use Rattle.rules.specs.Lists.{has}
use Rattle.rules.specs.Board.{Board}
use Rattle.rules.specs.Moves.{entrants_on}

-- none of them is the entrant of a rotation on the shard
abbrev pub Stay : Shard → List Id → Board → Type 0
Stay t ids b = (y : Id) → has y ids ≡ true → has y (entrants_on t b.rotations) ≡ false
