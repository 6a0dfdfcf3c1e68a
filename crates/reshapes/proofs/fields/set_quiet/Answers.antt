use lib.ListN.{get_or}
use Rattle.rules.specs.Table.{entry}
use Rattle.board.specs.Held.{no_reshape}
use Rattle.board.proofs.Sections.{reshapes, word_stored}
use Rattle.reshapes.specs.Changes.{with_quiet_on, quiet_at}
use Rattle.reshapes.proofs.OfReshapes.{quiet_changed, quieted, quiet_below}
use Rattle.reshapes.proofs.fields.set_quiet.Goals as goal

pub returns : goal.returns
returns c = λ b h l.
    let i = c.args.i in
    let s = c.args.side in
    let x = get_or b.reshapes i no_reshape in
    rw c.quiet_at.ensures
    (quiet_changed _ b h i l s _ (word_stored reshapes _ b h i no_reshape l (entry x.key (with_quiet_on s x.val)) (quiet_at s) 1 (quiet_below s) (quieted x s)))
