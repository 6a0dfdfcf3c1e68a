use Prim.Native.Nat.{◌≤◌}
use mathlib.Core.Path.{ap, ◌∙◌}
use native.Mathlib.Omega.{arith}
use lib.ListN.{length, length-replicate}
use Rattle.wiping.proofs.Room.{wiped_length, wiped_on, wiped_all}
use Rattle.wiping.proofs.wipe.Goals as goal

pub overflow_add-e : goal.overflow_add-e
overflow_add-e c = omega (arith, c.loop-t.invariant.room, wiped_length c.loop-t.invariant)

pub loop-t-smaller : goal.loop-t-smaller
loop-t-smaller c = let w = c.loop-t.invariant in omega (arith, w.room, wiped_length w)

pub loop-t-preserved : goal.loop-t-preserved
loop-t-preserved c = let w = c.loop-t.invariant in wiped_on _ _ w (omega arith) (omega (arith, w.room, wiped_length w)) c.wipe_piece.ensures

pub returns : goal.returns
returns c =
    let w = c.loop-t.invariant in
    let n : length c.args.t.now ≤ length c.loop-t.t = omega (arith, wiped_length w) in
    wiped_all (wiped_on _ _ w (omega (arith, w.room, wiped_length w)) (omega (arith, wiped_length w)) c.clear.ensures) n

pub shape_of-t : goal.shape_of-t
shape_of-t c = ap length (returns c) ∙ length-replicate _ 0
