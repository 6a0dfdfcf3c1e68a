use Rattle.board.specs.Held.{no_seat}
use Rattle.rows.proofs.Searches.{finds}
use Rattle.rows.proofs.Asked.{finds_stands}
use Rattle.striking.proofs.has_seat.Goals as goal

pub returns : goal.returns
returns c = λ b h l rise. rw c.is_some.ensures (finds_stands _ no_seat _ _ rise (finds _ no_seat _ _ (c.find.ensures.found b h l rise)))
