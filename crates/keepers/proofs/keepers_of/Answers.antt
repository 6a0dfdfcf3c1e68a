use mathlib.Core.Path.{sym}
use Prim.Native.Nat.{◌≤◌}
use native.Mathlib.Omega.{arith}
use lib.ListN.{length, drop}
use lib.Seq.{length-take-le, take-append-le}
use Rattle.keepers.proofs.Drawing.{keepers_are}
use Rattle.keepers.proofs.keepers_of.Goals as goal

pub slice_bounds-gather_seated-end-2 : goal.slice_bounds-gather_seated-end-2
slice_bounds-gather_seated-end-2 c = sym (length-take-le 96 c.args.out.now c.requires.4)

pub gather_seated-counts-requires : goal.gather_seated-counts-requires
gather_seated-counts-requires c = let p = c.requires in (p.0, length-take-le 96 c.args.out.now p.4, p.3)

pub slice_bounds-draw_share-end-2 : goal.slice_bounds-draw_share-end-2
slice_bounds-draw_share-end-2 c = let e = c.gather_seated-counts.ensures in sym (length-take-le _ _ (omega (arith, e.0, e.2)))

pub returns-clause-tells : goal.returns-clause-tells
returns-clause-tells c = λ b h ok.
    let e = c.gather_seated-counts.ensures in
    let k = c.gather_seated-counts.result.ready in
    let ready = c.gather_seated-counts.new.ready in
    let l : k ≤ length ready = omega (arith, e.0, e.1) in
    let g = e.3 b h ok in
    rw (keepers_are _ _ b _) (rw (take-append-le k ready (drop 96 c.args.out.now) l, g.0, g.1) at c.draw_share.ensures.tells)
