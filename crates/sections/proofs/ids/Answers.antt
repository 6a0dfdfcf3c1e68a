use lib.ListN.{get_or}
use mathlib.Core.Path.{◌≡◌, sym}
use Prim.Native.Nat.{◌+◌, ◌-◌}
use native.Mathlib.Omega.{arith}
use Rattle.sections.proofs.Rooms.{ids_there, ids_past}
use Rattle.sections.proofs.ids.Goals as goal

pub returns-then-t-n : goal.returns-then-t-n
returns-then-t-n c = sym (ids_past c.args.t.now (omega (arith, c.number_at-n.ensures)))

pub returns : goal.returns
returns c =
    let t = c.args.t.now in
    let z : get_or t 0 0 + 1 - 1 ≡ get_or t 0 0 = omega arith in
    rw (c.number_at-n.ensures, z) (sym (ids_there t (omega (arith, c.number_at-n.ensures))))
