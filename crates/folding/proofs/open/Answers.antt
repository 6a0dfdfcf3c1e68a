use mathlib.Core.List.{[]}
use Prim.Native.Nat.{ℕ}
use mathlib.Core.Path.{ap}
use Rattle.rules.specs.Table.{entry}
use native.Mathlib.Omega.{arith}
use Rattle.rules.specs.Board.{on_committees}
use Rattle.tables.specs.Rows.{insert_at}
use Rattle.board.proofs.Fitting.{insert_length, held_as}
use Rattle.folding.proofs.Free.{one_opened}
use Rattle.folding.proofs.open.Goals as goal

pub returns-then-n-ge-MOST_COMMITTEES : goal.returns-then-n-ge-MOST_COMMITTEES
returns-then-n-ge-MOST_COMMITTEES c = λ b h l m. absurd (omega (arith, c.count-n.ensures b h, l, c.if-n-ge-MOST_COMMITTEES.true))

pub returns-then-n-j : goal.returns-then-n-j
returns-then-n-j c = λ b h l m. absurd (omega (arith, c.count-n.ensures b h, m, c.if-n-j.true))

pub returns-then-n-j-2 : goal.returns-then-n-j-2
returns-then-n-j-2 c = λ b h l m.
    let n = c.count-n.ensures b h in
    held_as _ _ _ (ap (λ (k : ℕ). on_committees (λ t. insert_at t k (entry c.args.shard.0 [])) b) c.if-n-j-2.true) (c.open.ensures b h l (omega (arith, n)))

pub returns : goal.returns
returns c = λ b h l m.
    let a = c.args in
    let count = c.count-n in
    let n = count.ensures b h in
    let e = entry a.shard.0 [] in
    one_opened b _ count.result a.j e e (omega (arith, n))
    (c.replace.ensures _ (c.open.ensures b h l (omega (arith, n)))
    (omega (arith, n, insert_length b.committees count.result e (omega (arith, n)))))
