use native.Mathlib.Omega.{arith}
use native.Mathlib.Nat.{mul-le-mul_right}
use lib.ListN.{get_or}
use Rattle.tables.specs.Rows.{words_in}
use Rattle.tables.proofs.Tables.{counted, remove_words, scaled, no_row}
use Rattle.tables.proofs.remove_row.Goals as goal

pub returns-then-cap-n : goal.returns-then-cap-n
returns-then-cap-n c = λ rs e l h. absurd (omega (arith, counted words_in c.args.w (λ r. r.wide) c.args.cap rs _ e, c.if-cap-n.true))

pub returns-then-n-j : goal.returns-then-n-j
returns-then-n-j c = λ rs e l h. absurd (omega (arith, counted words_in c.args.w (λ r. r.wide) c.args.cap rs _ e, c.if-n-j.true))

pub overflow_mul-a : goal.overflow_mul-a
overflow_mul-a c = omega (arith, scaled c.args.j (get_or c.args.t.now 0 0) c.args.w c.if-n-j.false, mul-le-mul_right c.args.w c.if-cap-n.false)

pub overflow_add-a : goal.overflow_add-a
overflow_add-a c = omega (arith, scaled c.args.j (get_or c.args.t.now 0 0) c.args.w c.if-n-j.false, mul-le-mul_right c.args.w c.if-cap-n.false)

pub overflow_mul-e : goal.overflow_mul-e
overflow_mul-e c = omega (arith, scaled c.args.j (get_or c.args.t.now 0 0) c.args.w c.if-n-j.false, mul-le-mul_right c.args.w c.if-cap-n.false)

pub overflow_add-e : goal.overflow_add-e
overflow_add-e c = omega (arith, scaled c.args.j (get_or c.args.t.now 0 0) c.args.w c.if-n-j.false, mul-le-mul_right c.args.w c.if-cap-n.false)

pub close_gap-requires : goal.close_gap-requires
close_gap-requires c = omega (arith, scaled c.args.j (get_or c.args.t.now 0 0) c.args.w c.if-n-j.false, mul-le-mul_right c.args.w c.if-cap-n.false)

pub returns : goal.returns
returns c = λ rs e l h.
    let a = c.args in
    remove_words words_in a.w (λ r. r.wide) a.cap rs _ e a.j _ (no_row a.w) h l c.close_gap.ensures
