use mathlib.Core.Path.{◌∙◌}
use lib.ListN.{set}
use Rattle.rules.specs.Table.{entry}
use Rattle.rules.specs.Board.{most_bounds}
use Rattle.rules.specs.Moves.{new_boundary}
use Rattle.board.specs.Held.{no_boundary}
use Rattle.board.proofs.Sections.{bounds, row_back}
use Rattle.board.proofs.Fitting.{set_room, held_bounds}
use Rattle.shards.proofs.bounds.renew.Goals as goal

pub returns : goal.returns
returns c = λ b h l.
    let a = c.args in
    let y = entry a.shard.0 (new_boundary a.height.0 a.epoch.0) in
    held_bounds _ b h _ (set b.bounds a.i y) (row_back bounds _ b h a.i no_boundary l y _ (c.copy_from_slice.ensures.after ∙ c.new_row.ensures)) (set_room most_bounds b.bounds a.i y h.fits.bounds)
