use mathlib.Core.Path.{ap, ◌∙◌}
use lib.ListN.{set}
use Rattle.rules.specs.Table.{entry}
use Rattle.rules.specs.Board.{most_reshapes}
use Rattle.board.specs.Layout.{reshape_row}
use Rattle.board.specs.Held.{no_reshape, roomy_reshape}
use Rattle.board.proofs.Sections.{reshapes, row_lent, row_back}
use Rattle.board.proofs.Fitting.{set_room, every_set, held_reshapes}
use Rattle.reshapes.specs.Changes.{kind_of, newly_admitted}
use Rattle.reshapes.proofs.OfReshapes.{roomy_new}
use Rattle.reshapes.proofs.fields.fill.Goals as goal

pub returns : goal.returns
returns c = λ b h l z.
    let a = c.args in
    let y = entry a.target.0 (newly_admitted (kind_of a.merging) a.admitted.0) in
    let r = row_lent reshapes _ b h a.i no_reshape l ∙ ap reshape_row z in
    held_reshapes _ b h _ (set b.reshapes a.i y) (row_back reshapes _ b h a.i no_reshape l y _ (c.store_new.ensures r))
    (set_room most_reshapes b.reshapes a.i y h.fits.reshapes) (every_set roomy_reshape b.reshapes a.i y h.fits.lists (roomy_new a.target.0 (kind_of a.merging) a.admitted.0))
