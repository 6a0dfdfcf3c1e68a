-- The place of a machine that leaves a shard.
use Rattle.types.specs.Places.{is_seated_on, observes, pooled, short}
use Rattle.types.specs.declared.Place.{Place}
use Rattle.rules.specs.Moves.{pooled_from}
use Rattle.moves.specs.declared.Exit.{Exit}
use Rattle.moves.specs.declared.Exit.TheVariants.{Short, FromSeat, FromWatch, Anyhow}

abbrev pub exit_of : Exit → Place → Place
exit_of Short = short
exit_of (FromSeat s) = pooled_from (is_seated_on s.0)
exit_of (FromWatch s) = pooled_from (observes s.0)
exit_of Anyhow = pooled
