-- Which of a shard's rotations are counted.
use Rattle.std.specs.Prelude.{Bool, not}
use Rattle.types.specs.Numbers.{Shard}
use Rattle.types.specs.Places.{is_ready}
use Rattle.rules.specs.Lists.{◌and◌}
use Rattle.rules.specs.Board.{Rotation, Board}
use Rattle.rules.specs.Moves.{says, is_on}
use Rattle.committee.specs.declared.reads.Counted.{Counted}
use Rattle.committee.specs.declared.reads.Counted.TheVariants.{Open, InFlight}

abbrev pub counts : Counted → Shard → Board → Rotation → Bool
counts Open s b r = is_on s r
counts InFlight s b r = is_on s r and not (says is_ready b r.entrant)
