use Rattle.unpacking.proofs.unpack_board.Goals as goal

pub returns : goal.returns
returns c = λ b e good. (c.unpack_sections.ensures.whole b e good).0
