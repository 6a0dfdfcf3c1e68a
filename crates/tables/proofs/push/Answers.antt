use native.Mathlib.Omega.{arith}
use lib.ListN.{length-set}
use Rattle.tables.proofs.Ids.{id_count, push_words}
use Rattle.tables.proofs.push.Goals as goal

pub returns-then-cap-n : goal.returns-then-cap-n
returns-then-cap-n c = λ l e h. absurd (omega (arith, id_count c.args.cap l _ e, c.if-cap-n.true))

pub bounds-t-0-2 : goal.bounds-t-0-2
bounds-t-0-2 c = simp length-set (omega arith)

pub returns : goal.returns
returns c = λ l e h. push_words c.args.cap l _ e _ h
