use mathlib.Core.Path.{ap}
use native.Mathlib.Omega.{arith}
use lib.Dec.{eqb}
use Rattle.unpacking.proofs.Bytes.{total}
use Rattle.reading.proofs.Bytes.{bytes_as}
use Rattle.reading.proofs.Boards.{pass_none, pass_tells, pass_odd}
use Rattle.reading.proofs.is_snapshot.Goals as goal

pub returns-then-bytes-ne0 : goal.returns-then-bytes-ne0
returns-then-bytes-ne0 c = pass_odd c.args.bytes.now (λ z. omega arith)

pub returns-in_default : goal.returns-in_default
returns-in_default c =
    let g = c.args.bytes.now in
    let h = bytes_as g (omega arith) (λ i. omega (arith, c.type_inv.bytes i)) in
    pass_none g _ h (rw c.in_default.is at (c.sections_end.ensures _ h))

pub returns : goal.returns
returns c =
    let g = c.args.bytes.now in
    let h = bytes_as g (omega arith) (λ i. omega (arith, c.type_inv.bytes i)) in
    pass_tells g _ h _ (c.in-Some.ensures _ h) _ _ (c.head_ok.ensures _ h) (ap (eqb c.in-Some.end) (omega (arith, total h)))
