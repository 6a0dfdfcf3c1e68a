use borrow.Author.Tests.{not-true, not-false}
use Rattle.steps.proofs.Public.{held_wide}
use Rattle.wellformed.proofs.Told.{not_held}
use Rattle.seats.proofs.Checked.{no_board, board_told}
use Rattle.seats.proofs.seat_check.Goals as goal

pub returns-then-not-well_formed : goal.returns-then-not-well_formed
returns-then-not-well_formed c = no_board _ (not_held _ _ c.well_formed-2.ensures (not-true _ c.if-not-well_formed.true-raw))

pub seat_check_held-requires : goal.seat_check_held-requires
seat_check_held-requires c = held_wide _ (c.well_formed-2.ensures.yes (not-false _ c.if-not-well_formed.false-raw))

pub returns : goal.returns
returns c = let w = c.well_formed-2.ensures.yes (not-false _ c.if-not-well_formed.false-raw) in board_told _ _ w (c.seat_check_held.ensures w.board w.holds w.good)
