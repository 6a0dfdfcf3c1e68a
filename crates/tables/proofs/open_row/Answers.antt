use mathlib.Core.Path.{refl}
use native.Mathlib.Omega.{arith}
use native.Mathlib.Nat.{mul-le-mul_right}
use lib.ListN.{get_or}
use Rattle.tables.specs.Rows.{words_in}
use Rattle.tables.proofs.Tables.{counted, open_words, open_last, scaled}
use Rattle.tables.proofs.open_row.Goals as goal

pub returns-then-cap-n : goal.returns-then-cap-n
returns-then-cap-n c = λ rs z e l h o. let a = c.args in absurd (omega (arith, counted words_in a.w (λ r. r.wide) a.cap rs _ e, c.if-cap-n.true))

pub returns-then-n-j : goal.returns-then-n-j
returns-then-n-j c = λ rs z e l h o. let a = c.args in absurd (omega (arith, counted words_in a.w (λ r. r.wide) a.cap rs _ e, c.if-n-j.true))

pub returns-then-j-n : goal.returns-then-j-n
returns-then-j-n c = λ rs z e l h o.
    let a = c.args in
    open_last words_in a.w (λ r. r.wide) a.cap rs _ e a.j _ l (omega (arith, counted words_in a.w (λ r. r.wide) a.cap rs _ e, c.if-j-n.true)) refl z o

pub overflow_mul-a : goal.overflow_mul-a
overflow_mul-a c =
    let a = c.args in
    omega (arith, mul-le-mul_right a.w c.if-n-j.false, scaled (get_or a.t.now 0 0) a.cap a.w c.if-cap-n.false)

pub overflow_add-a : goal.overflow_add-a
overflow_add-a c =
    let a = c.args in
    omega (arith, mul-le-mul_right a.w c.if-n-j.false, scaled (get_or a.t.now 0 0) a.cap a.w c.if-cap-n.false)

pub overflow_mul-e : goal.overflow_mul-e
overflow_mul-e c =
    let a = c.args in
    omega (arith, scaled (get_or a.t.now 0 0) a.cap a.w c.if-cap-n.false)

pub overflow_add-e : goal.overflow_add-e
overflow_add-e c =
    let a = c.args in
    omega (arith, scaled (get_or a.t.now 0 0) a.cap a.w c.if-cap-n.false)

pub open_gap-requires : goal.open_gap-requires
open_gap-requires c =
    let a = c.args in
    omega (arith, mul-le-mul_right a.w c.if-n-j.false, scaled (get_or a.t.now 0 0) a.cap a.w c.if-cap-n.false)

pub returns : goal.returns
returns c = λ rs z e l h o.
    let a = c.args in
    open_words words_in a.w (λ r. r.wide) a.cap rs _ e a.j _ l h z o c.open_gap.ensures
