use Prim.Native.Nat.{◌+◌, ◌-◌, ◌*◌}
use mathlib.Core.Path.{◌≡◌}
use native.Mathlib.Omega.{arith}
use Rattle.differences.proofs.row_at.Goals as goal

pub returns : goal.returns
returns c =
    let a = c.args in
    let z : 1 + a.i * a.w + a.w - (1 + a.i * a.w) ≡ a.w = omega arith in
    rw z
