use native.Mathlib.Omega.{arith}
use borrow.Author.Tests.{not-true, not-false}
use Rattle.reading.proofs.Boards.{read_refused, read_short, read_done}
use Rattle.reading.proofs.read_board.Goals as goal

pub returns-then-not-is_snapshot : goal.returns-then-not-is_snapshot
returns-then-not-is_snapshot c = read_refused _ _ _ c.is_snapshot.ensures (not-true _ c.if-not-is_snapshot.true-raw)

pub returns-then-board-lt-BOARD_SIZE : goal.returns-then-board-lt-BOARD_SIZE
returns-then-board-lt-BOARD_SIZE c = read_short _ c.args.board.now (c.is_snapshot.ensures.yes (not-false _ c.if-not-is_snapshot.false-raw)) (omega arith)

pub returns : goal.returns
returns c = let p = c.is_snapshot.ensures.yes (not-false _ c.if-not-is_snapshot.false-raw) in
    read_done _ _ _ p c.if-board-lt-BOARD_SIZE.false (c.unpack_board.ensures p.board p.bytes p.good)
