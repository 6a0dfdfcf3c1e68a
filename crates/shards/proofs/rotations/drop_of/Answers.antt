use mathlib.Core.Bool.{not}
use native.Mathlib.Omega.{arith}
use lib.Dec.{eqb}
use Rattle.rules.specs.Moves.{drop_rotations}
use Rattle.tables.proofs.Drops.{keep_most}
use Rattle.board.proofs.Sections.{rotations, section_dropped}
use Rattle.board.proofs.Fitting.{held_rotations}
use Rattle.shards.proofs.OfRotations.{rotation_key}
use Rattle.shards.proofs.rotations.drop_of.Goals as goal

pub returns : goal.returns
unfolding drop_rotations
returns c = λ b h.
    let s = c.args.shard.0 in
    held_rotations _ b h _ (drop_rotations s b.rotations) (section_dropped rotations _ b h (λ r. r.shard) rotation_key s _ c.drop_rows.ensures)
    (omega (arith, keep_most (λ r. not (eqb r.shard s)) b.rotations, h.fits.rotations))
