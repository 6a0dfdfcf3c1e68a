use lib.ListN.{take}
use native.Mathlib.Omega.{arith}
use Rattle.packing.proofs.Lefts.{room, last}
use Rattle.packing.proofs.Puts.{words_put, nested_start}
use Rattle.packing.proofs.Nesteds.{lay_head, lay_start, lay_fits, lay_turn, lay_end, laying_at}
use Rattle.packing.proofs.put_rows.Goals as goal

pub put_words-next-requires : goal.put_words-next-requires
put_words-next-requires c = let a = c.args in room (take 1 a.t.now) _ (nested_start a.k a.cap a.t.now a.out.now a.at c.requires.1)

pub loop-i-init : goal.loop-i-init
loop-i-init c = let a = c.args in
    laying_at (omega arith) (omega arith)
    (lay_start a.k a.cap a.t.now a.out.now a.at c.width-w.result c.count-n.result c.requires.0 c.width-w.ensures c.count-n.ensures c.requires.1 (words_put c.put_words-next.ensures))

pub put_row-next-requires : goal.put_row-next-requires
put_row-next-requires c = lay_fits c.loop-i.invariant (omega arith)

pub loop-i-preserved : goal.loop-i-preserved
loop-i-preserved c = laying_at (omega arith) (omega arith) (lay_turn c.loop-i.invariant (omega arith) c.put_row-next.ensures)

pub returns : goal.returns
returns c = let a = c.args in
    let l = lay_head a.k a.cap a.t.now a.out.now a.at c.width-w.result c.count-n.result c.requires.0 c.width-w.ensures c.count-n.ensures c.requires.1 (words_put c.put_words-next.ensures) in
    last _ l (lay_end c.loop-i.invariant (omega arith))
