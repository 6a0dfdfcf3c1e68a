use mathlib.Core.Path.{refl}
use native.Mathlib.Omega.{arith}
use Rattle.unpacking.proofs.Sections.{count_none, table_many, table_none, table_read}
use Rattle.unpacking.proofs.unpack_table.Goals as goal

pub returns-in_err-rows : goal.returns-in_err-rows
returns-in_err-rows c = λ ws h. let a = c.args in rw c.from_residual.ensures (count_none a.k a.cap a.at ws a.out.now _ _ (omega (arith, c.requires.1)) (c.in_err-rows.ensures ws h))

pub returns-then-cap-count : goal.returns-then-cap-count
returns-then-cap-count c = λ ws h.
    let a = c.args in
    table_many a.k a.w a.cap _ a.at c.in_ok-rows.rows ws a.out.now _ c.requires.0 c.requires.1 c.unpack_words.auto.out refl (c.in_ok-rows.ensures ws h) _ c.if-cap-count.true

pub returns-in_err-next : goal.returns-in_err-next
returns-in_err-next c = λ ws h.
    let a = c.args in
    rw c.from_residual-in_err-next.ensures
    (table_none a.k a.w a.cap _ a.at c.in_ok-rows.rows ws a.out.now _ c.requires.0 c.requires.1 c.unpack_words.auto.out refl (c.in_ok-rows.ensures ws h) _ _ (c.in_err-next.ensures ws h))

pub returns : goal.returns
returns c = λ ws h.
    let a = c.args in
    table_read a.k a.w a.cap _ a.at c.in_ok-rows.rows ws a.out.now _ c.requires.0 c.requires.1 c.unpack_words.auto.out refl (c.in_ok-rows.ensures ws h) c.in_ok-next.next _ _ c.if-cap-count.false
    c.unpack_rows.auto.out c.wipe.ensures (c.in_ok-next.ensures ws h)
