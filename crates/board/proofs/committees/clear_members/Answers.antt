use mathlib.Core.List.{[]}
use native.Mathlib.Omega.{arith}
use lib.ListN.{get_or}
use Rattle.rules.specs.Board.{most_members}
use Rattle.rules.specs.Snapshot.{id_words}
use Rattle.tables.proofs.Typed.{emptied_as}
use Rattle.board.specs.Held.{no_committee}
use Rattle.board.proofs.Widths.{id_wide}
use Rattle.board.proofs.OfCommittees.{members_lent, members_back, members_room}
use Rattle.board.proofs.committees.clear_members.Goals as goal

pub returns : goal.returns
returns c = λ b h l.
    let j = c.args.j in
    members_back _ b h j l (λ m. []) _ (emptied_as id_words 1 id_wide most_members (get_or b.committees j no_committee).val _ _ (members_lent _ b h j l) (members_room _ b h j l) c.empty.ensures) (omega arith)
