-- What a reshape waits for, counted.
use Rattle.std.specs.Prelude.{ℕ, ◌≡◌, Bool, eqb, length, Option, Some, None}
use Rattle.std.proofs.Math.Option as definitions
use Rattle.types.specs.Numbers.{Shard}
use Rattle.types.specs.Places.{is_seated_on, is_ready}
use Rattle.types.specs.declared.Epoch.{Epoch}
use Rattle.types.specs.declared.Place.{Place}
use Rattle.rules.specs.Lists.{◌and◌, count}
use Rattle.rules.specs.Board.{Seat, Board}
use Rattle.rules.specs.Moves.{says}
use Rattle.rules.specs.Schedule.{seated_there}
use Rattle.waits.specs.declared.Members.{Members}

abbrev pub is_for : Shard → Seat → Bool
is_for c q = eqb q.child c

-- seated there, and ready
abbrev pub is_ready_on : Shard → Place → Bool
is_ready_on s p = is_seated_on s p and is_ready p

-- an epoch that may be missing, as the definitions have it
abbrev pub epoch_of : Option Epoch → definitions.Option ℕ
epoch_of (Some e) = definitions.some e.0
epoch_of None = definitions.none

-- the members seated on a shard, and those of them that are ready
pub record Mustered (s : Shard) (b : Board) (r : Members) : Type 0 where
  pub seated : r.seated ≡ length (seated_there s b)
  pub ready : r.ready ≡ count (says is_ready b) (seated_there s b)
