use mathlib.Core.Path.{refl}
use lib.ListN.{get_or}
use Rattle.rules.specs.Table.{entry}
use Rattle.rules.specs.Moves.{with_drain_by}
use Rattle.board.specs.Held.{no_reshape}
use Rattle.board.proofs.Sections.{reshapes, row_lent, row_back}
use Rattle.reshapes.proofs.OfReshapes.{field_changed}
use Rattle.reshapes.proofs.fields.set_drain_by.Goals as goal

pub returns : goal.returns
returns c = λ b h l.
    let i = c.args.i in
    let x = get_or b.reshapes i no_reshape in
    let f = with_drain_by c.args.by.0 in
    field_changed _ b h i l f _ (row_back reshapes _ b h i no_reshape l (entry x.key (f x.val)) _ (c.store_drain.ensures x (row_lent reshapes _ b h i no_reshape l))) refl refl refl
