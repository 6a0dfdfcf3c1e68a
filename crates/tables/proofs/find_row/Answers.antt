use Prim.Native.Nat.{◌+◌, ◌/◌, ◌<◌}
use mathlib.Core.Path.{sym, ◌∙◌}
use native.Mathlib.Omega.{arith}
use lib.ListN.{length}
use Rattle.tables.specs.Rows.{words_in, key_in}
use Rattle.tables.proofs.Tables.{counted, row_key, scaled, no_row}
use Rattle.tables.proofs.Keys.{row_above, row_under, finds_here, finds_nowhere}
use Rattle.tables.proofs.find_row.Goals as goal

pub loop-n-init : goal.loop-n-init
loop-n-init c = (
  omega (arith, c.rows_within-n.ensures.0),
  λ rs e l r.
      let a = c.args in
      let n = counted words_in a.w (λ x. x.wide) a.cap rs _ e in
      let m = c.rows_within-n.ensures.1 (omega arith) in
      (omega arith, λ i h q. (omega arith, omega arith)),
)

pub overflow_mul-there : goal.overflow_mul-there
overflow_mul-there c =
    let l = c.loop-n in
    let a = c.args in
    omega (arith, scaled (l.lo + l.n / 2) a.cap a.w (omega (arith, l.invariant.0)))

pub overflow_add-there : goal.overflow_add-there
overflow_add-there c =
    let l = c.loop-n in
    let a = c.args in
    omega (arith, scaled (l.lo + l.n / 2) a.cap a.w (omega (arith, l.invariant.0)))

pub bounds-t-mid : goal.bounds-t-mid
bounds-t-mid c =
    let l = c.loop-n in
    let a = c.args in
    omega (arith, scaled (l.lo + l.n / 2) a.cap a.w (omega (arith, l.invariant.0)))

pub returns-then-there-k-clause-found : goal.returns-then-there-k-clause-found
returns-then-there-k-clause-found c = λ rs e m r.
    let l = c.loop-n in
    let a = c.args in
    let t = l.invariant.1 rs e m r in
    let h : l.lo + l.n / 2 < length rs = omega (arith, t.0) in
    let q = row_key words_in a.w (λ x. x.wide) a.cap rs _ e (l.lo + l.n / 2) (no_row a.w) h m (omega arith) in
    sym (finds_here key_in rs (l.lo + l.n / 2) (no_row a.w) a.k r h (sym q ∙ c.if-there-k.true))

pub loop-n-preserved-then-there-k-2 : goal.loop-n-preserved-then-there-k-2
loop-n-preserved-then-there-k-2 c =
    let l = c.loop-n in
    let a = c.args in (
      omega (arith, l.invariant.0),
      λ rs e m r.
          let t = l.invariant.1 rs e m r in
          let h : l.lo + l.n / 2 < length rs = omega (arith, t.0) in
          let q = row_key words_in a.w (λ x. x.wide) a.cap rs _ e (l.lo + l.n / 2) (no_row a.w) h m (omega arith) in
          (omega (arith, t.0), λ i n p. (omega (arith, row_above key_in rs (l.lo + l.n / 2) i (no_row a.w) a.k r h n p (omega (arith, q, c.if-there-k-2.true))), omega (arith, (t.1 i n p).1))),
    )

pub loop-n-preserved : goal.loop-n-preserved
loop-n-preserved c =
    let l = c.loop-n in
    let a = c.args in (
      omega (arith, l.invariant.0),
      λ rs e m r.
          let t = l.invariant.1 rs e m r in
          let h : l.lo + l.n / 2 < length rs = omega (arith, t.0) in
          let q = row_key words_in a.w (λ x. x.wide) a.cap rs _ e (l.lo + l.n / 2) (no_row a.w) h m (omega arith) in
          (omega (arith, t.0), λ i n p. ((t.1 i n p).0, row_under key_in rs (l.lo + l.n / 2) i (no_row a.w) a.k r h n p (omega (arith, q, c.if-there-k-2.false, c.if-there-k.false)))),
    )

pub returns-clause-found : goal.returns-clause-found
returns-clause-found c = λ rs e m r.
    let l = c.loop-n in
    let a = c.args in
    sym (finds_nowhere key_in rs (no_row a.w) a.k (λ i n p. let t = (l.invariant.1 rs e m r).1 i n p in omega (arith, t.0, t.1)))
