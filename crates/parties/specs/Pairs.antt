-- Rotations two by two: each is held against those after it.
use Rattle.std.specs.Prelude.{List, Bool, not, eqb}
use Rattle.types.specs.Places.{is_seated_on}
use Rattle.rules.specs.Lists.{◌and◌, ◌or◌, every}
use Rattle.rules.specs.Board.{Rotation, Board}
use Rattle.rules.specs.Moves.{says, has_party}

-- on one shard, with a party of both
abbrev pub share_party : Rotation → Rotation → Bool
share_party p q = has_party p.shard p.victim q or has_party p.shard p.entrant q

abbrev pub apart : Rotation → List Rotation → Bool
apart p = every (λ q. not (share_party p q))

-- two parties, of no later rotation there, and both seated there
abbrev pub fits_before : Board → Rotation → List Rotation → Bool
fits_before b r later = not (eqb r.entrant r.victim) and apart r later and says (is_seated_on r.shard) b r.victim and says (is_seated_on r.shard) b r.entrant
