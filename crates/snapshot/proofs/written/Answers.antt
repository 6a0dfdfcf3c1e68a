use borrow.Author.Tests.{not-true, not-false}
use native.Mathlib.Omega.{arith}
use Rattle.snapshot.proofs.Writes.{held_size, write_refused, write_short, write_done}
use Rattle.snapshot.proofs.written.Goals as goal

pub returns-then-not-well_formed : goal.returns-then-not-well_formed
returns-then-not-well_formed c = λ long. let a = c.args in write_refused a.board.now a.snapshot.now long c.well_formed-2.ensures (not-true _ c.if-not-well_formed.true-raw)

pub packed_size-size-requires : goal.packed_size-size-requires
packed_size-size-requires c = held_size (c.well_formed-2.ensures.yes (not-false _ c.if-not-well_formed.false-raw))

pub returns-then-snapshot-size : goal.returns-then-snapshot-size
returns-then-snapshot-size c = λ long. let a = c.args in write_short a.board.now a.snapshot.now long c.well_formed-2.ensures c.packed_size-size.result (not-false _ c.if-not-well_formed.false-raw) c.packed_size-size.ensures.0 c.if-snapshot-size.true

pub put_board-requires : goal.put_board-requires
put_board-requires c = (held_size (c.well_formed-2.ensures.yes (not-false _ c.if-not-well_formed.false-raw)), omega (arith, c.packed_size-size.ensures.0, c.if-snapshot-size.false))

pub returns : goal.returns
returns c = λ long. let a = c.args in write_done a.board.now a.snapshot.now long c.well_formed-2.ensures c.packed_size-size.result (not-false _ c.if-not-well_formed.false-raw) c.packed_size-size.ensures.0 c.if-snapshot-size.false c.put_board.ensures
