-- A split's halves and its gate, as the code has them.
use Rattle.std.specs.Prelude.{ℕ, ◌≡◌, List, true, false, length, get_or, take, drop, Option, MatchOption}
use Rattle.std.proofs.Math.Option.{some}
use Rattle.types.specs.Numbers.{Shard, Id}
use Rattle.rules.specs.Table.{at}
use Rattle.rules.specs.Board.{Reshape, Board}
use Rattle.rules.specs.Reshapes.{half_up}
use Rattle.rules.specs.Schedule.{split_gate}
use Rattle.board.specs.Held.{no_reshape}
use Rattle.drains.specs.Plans.{RowOf}

abbrev pub lefts : List Id → List Id
lefts ids = take (half_up (length ids)) ids

abbrev pub rights : List Id → List Id
rights ids = drop (half_up (length ids)) ids

-- i is the row of the shard's reshape, which passes the gate
pub record Opens (t : Shard) (ids : List Id) (b : Board) (i : ℕ) : Type 0 where
  pub row : RowOf t i b
  pub opens : split_gate t (lefts ids) (rights ids) (get_or b.reshapes i no_reshape).val b ≡ true

-- so it is of a row that is told; where none is told, no reshape of the shard passes it
abbrev pub Gate : Shard → List Id → Board → Option ℕ → Type 0
Gate t ids b r = MatchOption r ((q : Reshape) → at t b.reshapes ≡ some q → split_gate t (lefts ids) (rights ids) q b ≡ false) (Opens t ids b)
