use native.Mathlib.Omega.{arith}
use lib.ListN.{get_or, length-take}
use Rattle.board.specs.Held.{no_reshape}
use Rattle.halving.proofs.Gates.{gate_is}
use Rattle.halving.proofs.Halves.{lent_rest, lent_front}
use Rattle.halving.proofs.passes_gate.Goals as goal

pub slice_bounds-is_half_ready-end : goal.slice_bounds-is_half_ready-end
slice_bounds-is_half_ready-end c = rw length-take (omega (arith, c.left_size-n.ensures))

pub is_half_ready-left-requires : goal.is_half_ready-left-requires
is_half_ready-left-requires c = (c.requires.0, c.requires.1, rw length-take (omega (arith, c.requires.3)))

pub returns : goal.returns
returns c = λ b h ok l.
    let a = c.args in
    let n = c.left_size-n.ensures in
    gate_is _ a.ids.now b (get_or b.reshapes a.i no_reshape).val _ _ _ _ (lent_front a.ids.now _ n) (lent_rest a.ids.now _ n)
    (rw c.left.ensures at (c.is_half_ready-left.ensures b h ok l)) (rw c.right.ensures at (c.is_half_ready.ensures b h ok l))
