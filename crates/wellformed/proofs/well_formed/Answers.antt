use native.Mathlib.Omega.{arith}
use Rattle.word_tests.proofs.Decides.{words_all}
use Rattle.wellformed.proofs.Sections.{words_other, words_are}
use Rattle.wellformed.proofs.Decided.{tells}
use Rattle.wellformed.proofs.well_formed.Goals as goal

pub returns-then-board-ne-BOARD_SIZE : goal.returns-then-board-ne-BOARD_SIZE
returns-then-board-ne-BOARD_SIZE c = tells c.args.board.now _ (words_all c.args.board.now (λ i. omega (arith, c.type_inv.board i))) (words_other _ c.if-board-ne-BOARD_SIZE.true)

pub returns : goal.returns
returns c = tells c.args.board.now _ (words_all c.args.board.now (λ i. omega (arith, c.type_inv.board i)))
    (words_are _ _ _ _ _ c.if-board-ne-BOARD_SIZE.false c.settings_ok.ensures c.table_ok.ensures.told c.shards_ok.ensures c.underway_ok.ensures)
