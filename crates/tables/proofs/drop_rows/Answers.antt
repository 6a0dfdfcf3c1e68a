use mathlib.Core.Path.{refl, ◌∙◌}
use native.Mathlib.Omega.{arith}
use native.Mathlib.Nat.{mul-le-mul_right}
use lib.ListN.{length-set}
use Rattle.tables.specs.Rows.{words_in}
use Rattle.tables.proofs.Tables.{counted, scaled}
use Rattle.tables.proofs.Drops.{tried_none, tried_more, tried_at, tried_all}
use Rattle.tables.proofs.drop_rows.Goals as goal

pub loop-i-init : goal.loop-i-init
loop-i-init c =
    let a = c.args in (
      omega arith,
      omega arith,
      c.rows_within-n.ensures.0,
      refl,
      λ rs e l.
          let n = counted words_in a.w (λ r. r.wide) a.cap rs _ e in
          let m = c.rows_within-n.ensures.1 (omega arith) in
          (omega arith, tried_none a.cap a.x rs _ e l),
    )

pub keep_row-k-requires : goal.keep_row-k-requires
keep_row-k-requires c =
    let a = c.args in
    omega (arith, scaled c.loop-i.i a.cap a.w (omega (arith, c.loop-i.invariant.2)))

pub loop-i-preserved : goal.loop-i-preserved
loop-i-preserved c =
    let l = c.loop-i in
    let a = c.args in
    let k = c.keep_row-k in (
      omega (arith, k.ensures.0),
      omega arith,
      l.invariant.2,
      k.auto.t ∙ l.invariant.3,
      λ rs e m.
          let s = l.invariant.4 rs e m in
          (s.0, tried_more a.cap a.x rs _ l.i l.k s.1 (omega (arith, s.0, c.loop-i-test.true)) _ _ (omega arith) k.ensures.1 k.ensures.2),
    )

pub overflow_mul-a : goal.overflow_mul-a
overflow_mul-a c =
    let a = c.args in
    omega (arith, mul-le-mul_right {m = c.loop-i.k} {n = a.cap} a.w (omega (arith, c.loop-i.invariant.2)))

pub overflow_add-a : goal.overflow_add-a
overflow_add-a c =
    let a = c.args in
    omega (arith, mul-le-mul_right {m = c.loop-i.k} {n = a.cap} a.w (omega (arith, c.loop-i.invariant.2)))

pub overflow_mul-e : goal.overflow_mul-e
overflow_mul-e c =
    let a = c.args in
    omega (arith, mul-le-mul_right {m = c.rows_within-n.result} {n = a.cap} a.w (omega (arith, c.loop-i.invariant.2)))

pub overflow_add-e : goal.overflow_add-e
overflow_add-e c =
    let a = c.args in
    omega (arith, mul-le-mul_right {m = c.rows_within-n.result} {n = a.cap} a.w (omega (arith, c.loop-i.invariant.2)))

pub slice_bounds-clear-start : goal.slice_bounds-clear-start
slice_bounds-clear-start c =
    let a = c.args in
    omega (arith, mul-le-mul_right {m = c.loop-i.k} {n = c.rows_within-n.result} a.w (omega arith))

pub slice_bounds-clear-end : goal.slice_bounds-clear-end
slice_bounds-clear-end c =
    let a = c.args in
    omega (arith, mul-le-mul_right {m = c.rows_within-n.result} {n = a.cap} a.w (omega (arith, c.loop-i.invariant.2)))

pub bounds-t-0 : goal.bounds-t-0
bounds-t-0 c = omega (arith, c.t-2-1.given)

pub shape_of-t : goal.shape_of-t
shape_of-t c = simp length-set (omega (arith, c.t-2-1.given, c.loop-i.invariant.3))

pub returns : goal.returns
returns c = λ rs e l.
    let a = c.args in
    let s = c.loop-i.invariant.4 rs e l in
    tried_all a.cap a.x rs _ _ _ _ (tried_at a.cap a.x rs _ _ _ _ (omega arith) s.1) s.0 l c.clear.ensures
