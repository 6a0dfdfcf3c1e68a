use Prim.Native.Nat.{◌-◌}
use native.Mathlib.Omega.{arith}
use native.Mathlib.Nat.{mul-le-mul_right}
use borrow.Author.Tests.{eq-eqb, ne_eqb}
use Rattle.tables.proofs.keep_row.Goals as goal

pub shift_down-requires : goal.shift_down-requires
shift_down-requires c =
    let a = c.args in
    omega (arith, mul-le-mul_right {m = a.i - a.k} {n = a.i} a.w (omega arith))

pub returns-then-key-x : goal.returns-then-key-x
returns-then-key-x c = (omega arith, rw (eq-eqb _ _ c.if-key-x.true) (omega arith), c.shift_down.ensures)

pub returns : goal.returns
returns c = (omega arith, rw (ne_eqb _ _ c.if-key-x.false) (omega arith), c.shift_down.ensures)
