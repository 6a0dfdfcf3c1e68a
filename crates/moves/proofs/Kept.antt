-- The moves off a shard leave a board well-formed.
use mathlib.Core.Path.{◌≡◌}
use mathlib.Core.Bool.{true}
use Rattle.types.specs.Numbers.{Shard, Id}
use Rattle.types.specs.Places.{is_seated_on, observes}
use Rattle.rules.specs.Board.{Kind, Board}
use Rattle.rules.specs.WellFormed.{well_formed}
use Rattle.rules.specs.Moves.{place, take_off, give_up_seat}
use Rattle.rules.proofs.KeptBoard.{good_of_lem, of_good}
use Rattle.rules.proofs.KeptMoves.{Keeps, keeps_pooled, keeps_short, keeps_pooled_from, good_place_lem, good_take_off, good_give_up_seat}
use Rattle.moves.specs.declared.Exit.{Exit}
use Rattle.moves.specs.declared.Exit.TheVariants.{Short, FromSeat, FromWatch, Anyhow}
use Rattle.moves.specs.Exits.{exit_of}

keeps_exit : (how : Exit) → Keeps (exit_of how)
keeps_exit Short = keeps_short
keeps_exit (FromSeat s) = keeps_pooled_from (is_seated_on s.0)
keeps_exit (FromWatch s) = keeps_pooled_from (observes s.0)
keeps_exit Anyhow = keeps_pooled

module _ (b : Board) (ok : well_formed b ≡ true) (x : Id) where
  pub placed_well : (how : Exit) → well_formed (place x (exit_of how) b) ≡ true
  placed_well how = of_good (good_place_lem x (exit_of how) (keeps_exit how) (good_of_lem b ok))

  pub taken_well : (how : Exit) (s : Shard) → well_formed (take_off s (exit_of how) x b) ≡ true
  taken_well how s = of_good (good_take_off s (exit_of how) (keeps_exit how) x (good_of_lem b ok))

  pub given_up_well : (k : Kind) (t : Shard) → well_formed (give_up_seat k t x b) ≡ true
  given_up_well k t = of_good (good_give_up_seat k t x (good_of_lem b ok))
