use Prim.Native.Nat.{◌+◌, ◌-◌, ◌/◌, ◌<◌}
use native.Mathlib.Omega.{arith}
use lib.Dec.{leb}
use lib.ListN.{length}
use Rattle.tables.specs.Rows.{words_in, key_in}
use Rattle.tables.proofs.Tables.{counted, row_key, scaled, no_row}
use Rattle.tables.proofs.Keys.{first_most, place_above, place_under}
use Rattle.tables.proofs.place_of.Goals as goal

pub loop-lo-init : goal.loop-lo-init
loop-lo-init c = (
  omega arith,
  c.rows_within-hi.ensures.0,
  λ rs e l r.
      let a = c.args in
      let n = counted words_in a.w (λ x. x.wide) a.cap rs _ e in
      let m = c.rows_within-hi.ensures.1 (omega arith) in
      (omega arith, omega arith, omega (arith, first_most (λ x. leb a.k (key_in x)) rs)),
)

pub bounds-t-mid : goal.bounds-t-mid
bounds-t-mid c =
    let l = c.loop-lo in
    let a = c.args in
    omega (arith, scaled (l.lo + (l.hi - l.lo) / 2) a.cap a.w (omega (arith, l.invariant.1)))

pub loop-lo-preserved-then-t-mid : goal.loop-lo-preserved-then-t-mid
loop-lo-preserved-then-t-mid c =
    let l = c.loop-lo in
    let a = c.args in (
      omega arith,
      l.invariant.1,
      λ rs e m r.
          let t = l.invariant.2 rs e m r in
          let h : l.lo + (l.hi - l.lo) / 2 < length rs = omega (arith, t.0) in
          let q = row_key words_in a.w (λ x. x.wide) a.cap rs _ e (l.lo + (l.hi - l.lo) / 2) (no_row a.w) h m (omega arith) in
          (t.0, omega (arith, place_above key_in rs (l.lo + (l.hi - l.lo) / 2) (no_row a.w) a.k r h (omega (arith, q, c.if-t-mid.true))), t.2),
    )

pub loop-lo-preserved : goal.loop-lo-preserved
loop-lo-preserved c =
    let l = c.loop-lo in
    let a = c.args in (
      omega arith,
      omega arith,
      λ rs e m r.
          let t = l.invariant.2 rs e m r in
          let h : l.lo + (l.hi - l.lo) / 2 < length rs = omega (arith, t.0) in
          let q = row_key words_in a.w (λ x. x.wide) a.cap rs _ e (l.lo + (l.hi - l.lo) / 2) (no_row a.w) h m (omega arith) in
          (omega arith, t.1, place_under key_in rs (l.lo + (l.hi - l.lo) / 2) (no_row a.w) a.k h (omega (arith, q, c.if-t-mid.false))),
    )

pub returns : goal.returns
returns c = (omega arith, λ rs e m r. let t = c.loop-lo.invariant.2 rs e m r in omega (arith, t.1, t.2))
