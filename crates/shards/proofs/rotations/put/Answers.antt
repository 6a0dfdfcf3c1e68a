use mathlib.Core.Path.{◌∙◌}
use lib.ListN.{set}
use Rattle.rules.specs.Board.{most_rotations}
use Rattle.board.specs.Held.{no_rotation}
use Rattle.board.proofs.Sections.{rotations, row_back}
use Rattle.board.proofs.Fitting.{set_room, held_rotations}
use Rattle.shards.specs.Rotations.{rotation_of}
use Rattle.shards.proofs.rotations.put.Goals as goal

pub returns : goal.returns
returns c = λ b h l.
    let a = c.args in
    held_rotations _ b h _ (set b.rotations a.i (rotation_of a.r))
    (row_back rotations _ b h a.i no_rotation l (rotation_of a.r) _ (c.copy_from_slice.ensures.after ∙ c.row.ensures))
    (set_room most_rotations b.rotations a.i (rotation_of a.r) h.fits.rotations)
