use Prim.Native.Nat.{◌+◌, ◌-◌}
use mathlib.Core.Path.{◌≡◌}
use native.Mathlib.Omega.{arith}
use Rattle.sections.specs.Tables.{words_at}
use Rattle.sections.proofs.Section.table.Goals as goal

pub returns-in-Some : goal.returns-in-Some
unfolding words_at
returns-in-Some c =
    let s = c.in-Some.s in
    let z : s.at + s.size - s.at ≡ s.size = omega arith in
    rw (← c.in-Some.ensures.place, z)

pub returns-in-None : goal.returns-in-None
unfolding words_at
returns-in-None c = rw (← c.in-None.ensures.place)
