use mathlib.Core.Path.{◌∙◌}
use native.Mathlib.Omega.{arith}
use native.Mathlib.Nat.{mul-le-mul_right}
use Rattle.tables.specs.Rows.{words_in}
use Rattle.tables.proofs.Tables.{counted, empty_already, emptied}
use Rattle.tables.proofs.empty.Goals as goal

pub returns-then-n-eq0 : goal.returns-then-n-eq0
returns-then-n-eq0 c = λ rs e l.
    let a = c.args in
    let n = counted words_in a.w (λ r. r.wide) a.cap rs _ e in
    let m = c.rows_within-n.ensures.1 (omega arith) in
    empty_already words_in a.w (λ r. r.wide) a.cap rs _ e (omega (arith, c.if-n-eq0.true))

pub overflow_mul-e : goal.overflow_mul-e
overflow_mul-e c =
    let a = c.args in omega (arith, mul-le-mul_right {m = c.rows_within-n.result} {n = a.cap} a.w c.rows_within-n.ensures.0)

pub overflow_add-e : goal.overflow_add-e
overflow_add-e c =
    let a = c.args in omega (arith, mul-le-mul_right {m = c.rows_within-n.result} {n = a.cap} a.w c.rows_within-n.ensures.0)

pub slice_bounds-clear-end : goal.slice_bounds-clear-end
slice_bounds-clear-end c =
    let a = c.args in omega (arith, mul-le-mul_right {m = c.rows_within-n.result} {n = a.cap} a.w c.rows_within-n.ensures.0)

pub returns : goal.returns
returns c = λ rs e l.
    let a = c.args in
    let n = counted words_in a.w (λ r. r.wide) a.cap rs _ e in
    let m = c.rows_within-n.ensures.1 (omega arith) in
    emptied words_in a.w (λ r. r.wide) a.cap rs _ e _ _ (m ∙ n) l c.clear.ensures
