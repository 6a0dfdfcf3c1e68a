use mathlib.Core.List.{[]}
use native.Mathlib.Omega.{arith}
use lib.ListN.{get_or}
use Rattle.rules.specs.Board.{most_half}
use Rattle.rules.specs.Snapshot.{id_words}
use Rattle.tables.proofs.Typed.{emptied_as}
use Rattle.board.specs.Held.{no_reshape}
use Rattle.board.proofs.Widths.{id_wide}
use Rattle.reshapes.specs.Changes.{half_of}
use Rattle.reshapes.proofs.OfReshapes.{half_lent, half_back, half_room}
use Rattle.reshapes.proofs.halves.clear.Goals as goal

pub returns : goal.returns
returns c = λ b h l.
    let i = c.args.i in
    let s = c.args.side in
    let e = rw c.half_at.ensures at c.empty.ensures in
    rw c.half_at.ensures (half_back _ b h i l s (λ l. []) _ (emptied_as id_words 1 id_wide most_half (half_of s (get_or b.reshapes i no_reshape).val) _ _ (half_lent _ b h i l s) (half_room _ b h i l s) e) (omega arith))
