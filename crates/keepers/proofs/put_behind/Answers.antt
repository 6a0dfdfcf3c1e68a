use native.Mathlib.Omega.{arith}
use lib.ListN.{length-set}
use Rattle.keepers.proofs.Drawing.{none_behind, one_behind, all_behind, share_behind}
use Rattle.keepers.proofs.put_behind.Goals as goal

pub loop-i-init : goal.loop-i-init
loop-i-init c = (omega arith, omega arith, none_behind _ _ _ c.requires.0)

pub shape_of-out-then-waiting-i : goal.shape_of-out-then-waiting-i
shape_of-out-then-waiting-i c = c.loop-i.invariant.2.long

pub returns-then-waiting-i : goal.returns-then-waiting-i
returns-then-waiting-i c = let q = c.loop-i.invariant.2 in (q.long, omega arith, all_behind _ _ _ c.requires.0 q c.args.share (omega arith) (omega arith))

pub loop-i-preserved : goal.loop-i-preserved
loop-i-preserved c =
    let q = c.loop-i.invariant.2 in
    let l = c.requires.1 in
    let o = q.long in
    (omega arith, rw length-set (omega arith), one_behind _ _ _ c.requires.0 q (omega arith) (omega arith))

pub shape_of-out : goal.shape_of-out
shape_of-out c = c.loop-i.invariant.2.long

pub returns : goal.returns
returns c = let q = c.loop-i.invariant.2 in (q.long, omega arith, share_behind _ _ _ c.requires.0 q c.args.share (omega arith))
