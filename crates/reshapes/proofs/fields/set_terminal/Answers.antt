use mathlib.Core.Path.{refl}
use lib.ListN.{get_or}
use Rattle.rules.specs.Table.{entry}
use Rattle.reshapes.specs.Changes.{at_terminal}
use Rattle.board.specs.Held.{no_reshape}
use Rattle.board.proofs.Sections.{reshapes, row_lent, row_back}
use Rattle.reshapes.proofs.OfReshapes.{field_changed}
use Rattle.reshapes.proofs.fields.set_terminal.Goals as goal

pub returns : goal.returns
returns c = λ b h l.
    let i = c.args.i in
    let x = get_or b.reshapes i no_reshape in
    let f = at_terminal c.args.terminal.0 in
    field_changed _ b h i l f _ (row_back reshapes _ b h i no_reshape l (entry x.key (f x.val)) _ (c.store_terminal.ensures x (row_lent reshapes _ b h i no_reshape l))) refl refl refl
