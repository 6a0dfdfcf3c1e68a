use Rattle.types.specs.Places.{set_to_watch}
use Rattle.rules.specs.Board.{epoch_of}
use Rattle.rules.specs.Moves.{place, join}
use Rattle.board.proofs.Keyed.{committees_rise, reshapes_rise, seats_rise}
use Rattle.joining.proofs.Placed.{placed_rise, placed_may}
use Rattle.cohorts.proofs.Watches.{watched}
use Rattle.cohorts.proofs.watch.watch.Goals as goal

pub returns : goal.returns
unfolding place join
returns c = λ b h ok l named m room n.
    let p = c.set_to_watch.ensures b h ok in
    let a = c.args in
    let j = c.join.ensures _ p (placed_rise a.id.0 (set_to_watch a.target.0 (epoch_of b)) b (committees_rise b ok)) (placed_may a.id.0 (set_to_watch a.target.0 (epoch_of b)) b _ _ m) in
    watched _ b _ _ _ _ named (c.open_seat.ensures _ j (reshapes_rise b ok) l (seats_rise b ok _ l) room n)
