-- Whom a step draws among.
use Rattle.std.specs.Prelude.{List, [], ◌∷◌, Bool, cond, not, eqb}
use Rattle.types.specs.Numbers.{Shard, Id}
use Rattle.types.specs.Places.{is_seated_on, is_ready}
use Rattle.rules.specs.Lists.{◌and◌, keep, has}
use Rattle.rules.specs.Board.{Rotation, Board}
use Rattle.rules.specs.Moves.{says, members_of, is_on, entrants_on}

-- which of the members that are seated on the shard; those who stay when its rotations are aborted are entrants of none
pub data Members : Type 0 where
  Ready : Members
  Waiting : Members
  Staying : Members

-- the entrant of a rotation on the shard
abbrev pub is_entrant : Shard → Id → Rotation → Bool
is_entrant s x r = is_on s r and eqb r.entrant x

abbrev pub is_gathered : Members → Shard → Board → Id → Bool
is_gathered Ready s b x = says (is_seated_on s) b x and says is_ready b x
is_gathered Waiting s b x = says (is_seated_on s) b x and not (says is_ready b x)
is_gathered Staying s b x = says (is_seated_on s) b x and not (has x (entrants_on s b.rotations))

-- one id, if it is wanted
abbrev pub taken : Members → Shard → Board → Id → List Id
taken w s b x = cond (is_gathered w s b x) (x ∷ []) []

abbrev pub gathered : Members → Shard → Board → List Id
gathered w s b = keep (is_gathered w s b) (members_of s b)
