use Rattle.unpacking.proofs.Rows.{reshape_read, head_none, seats_none, left_none}
use Rattle.unpacking.proofs.unpack_reshape.Goals as goal

pub returns-in_err-seats : goal.returns-in_err-seats
returns-in_err-seats c = λ ws h. rw c.from_residual.ensures (head_none ws c.args.out.now _ _ c.args.at c.requires (c.in_err-seats.ensures ws h))

pub returns-in_err-left : goal.returns-in_err-left
returns-in_err-left c = λ ws h.
    rw c.from_residual-in_err-left.ensures
    (seats_none ws c.args.out.now _ _ c.args.at c.requires c.unpack_words.auto.out _ (c.in_ok-seats.ensures ws h) _ (c.in_err-left.ensures ws h))

pub returns-in_err-right : goal.returns-in_err-right
returns-in_err-right c = λ ws h.
    rw c.from_residual-in_err-right.ensures
    (left_none ws c.args.out.now _ _ c.args.at c.requires c.unpack_words.auto.out _ (c.in_ok-seats.ensures ws h) _ c.unpack_list.auto.out _ (c.in_ok-left.ensures ws h) _ (c.in_err-right.ensures ws h))

pub returns : goal.returns
returns c = λ ws h.
    reshape_read ws c.args.out.now _ _ _ _ c.args.at c.in_ok-seats.seats c.in_ok-left.left c.in_ok-right.right c.unpack_list-3.result c.requires c.unpack_words.auto.out
    c.unpack_list.auto.out c.unpack_list-2.auto.out c.unpack_list-3.auto.out (c.in_ok-seats.ensures ws h) (c.in_ok-left.ensures ws h) (c.in_ok-right.ensures ws h) (c.unpack_list-3.ensures ws h)
