-- The reshape that a cut carries out, and when a machine may come to a shard.
use Rattle.std.specs.Prelude.{ℕ, ◌≡◌, [], ◌∷◌, true, false, get_or}
use Rattle.std.proofs.Math.Option.{some}
use Rattle.types.specs.Numbers.{Shard, Id}
use Rattle.types.specs.Places.{is_seated_on}
use Rattle.types.specs.declared.Place.{Place}
use Rattle.rules.specs.Table.{at}
use Rattle.rules.specs.Board.{Reshape, Board}
use Rattle.rules.specs.Moves.{may_join}
use Rattle.board.specs.Held.{no_reshape}

-- the reshape at a row
abbrev pub reshape_in : ℕ → Board → Reshape
reshape_in i b = (get_or b.reshapes i no_reshape).val

-- a machine that is not seated on the shard may join it
abbrev pub MayCome : Shard → Id → Board → Type 0
MayCome c x b = (p : Place) → at x b.machines ≡ some p → is_seated_on c p ≡ false → may_join c (x ∷ []) b ≡ true
