use Prim.Native.Nat.{◌<◌}
use mathlib.Core.Path.{refl, ap, sym, ◌∙◌}
use mathlib.Core.List.{◌++◌, append-nil}
use native.Mathlib.Omega.{arith}
use lib.ListN.{length, take}
use Rattle.rules.specs.Board.{epoch_of}
use Rattle.pool.proofs.Pools.{keys_none}
use Rattle.batches.specs.Targets.{is_wanted}
use Rattle.batches.proofs.Wanted.{one_more}
use Rattle.batches.proofs.targets.Goals as goal

pub loop-i-init : goal.loop-i-init
loop-i-init c = (
  omega arith,
  c.rows_within-n.ensures.0,
  omega arith,
  c.requires.1,
  λ b h.
      let n = c.count.ensures b h in
      (c.rows_within-n.ensures.1 (rw n h.fits.reshapes) ∙ n, c.epoch-epoch.ensures b h, refl),
)

pub loop-i-preserved : goal.loop-i-preserved
loop-i-preserved c =
    let a = c.loop-i in
    let t = c.take_up-k.ensures in (
      omega arith,
      a.invariant.1,
      omega (arith, t.0),
      t.1,
      λ b h.
          let v = a.invariant.4 b h in
          let l : a.i < length b.reshapes = omega (arith, v.0, c.loop-i-test.true) in
          (v.0, v.1, one_more c.args.which b _ v.1 a.i l (take a.k a.out) _ (t.2 b h l) v.2),
    )

pub shape_of-out : goal.shape_of-out
shape_of-out c = c.loop-i.invariant.3 ∙ sym c.requires.1

pub returns : goal.returns
returns c =
    let a = c.loop-i in (
      omega arith,
      a.invariant.3,
      λ b h.
          let v = a.invariant.4 b h in
          sym (append-nil (take a.k a.out))
          ∙ ap (λ l. take a.k a.out ++ l) (sym (keys_none (is_wanted c.args.which (epoch_of b)) b.reshapes a.i (omega (arith, v.0, c.loop-i-test.false)))) ∙ v.2,
    )
