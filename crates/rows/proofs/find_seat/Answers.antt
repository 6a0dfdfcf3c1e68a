use Rattle.board.specs.Held.{no_seat}
use Rattle.board.proofs.Keyed.{seats_rise}
use Rattle.rows.proofs.Searches.{finds}
use Rattle.rows.proofs.find_seat.Goals as goal

pub returns-clause-found : goal.returns-clause-found
returns-clause-found c = λ b h ok l. finds _ no_seat _ _ (c.find.ensures.found b h l (seats_rise b ok _ l))
