use native.Mathlib.Omega.{arith}
use Rattle.tables.proofs.Ids.{id_count}
use Rattle.tables.proofs.Sifted.{cut_words}
use Rattle.tables.proofs.cut.Goals as goal

pub returns-then-cap-all : goal.returns-then-cap-all
returns-then-cap-all c = λ l e h k. absurd (omega (arith, id_count c.args.cap l _ e, c.if-cap-all.true))

pub returns-then-all-n : goal.returns-then-all-n
returns-then-all-n c = λ l e h k. absurd (omega (arith, id_count c.args.cap l _ e, c.if-all-n.true))

pub returns : goal.returns
returns c = λ l e h k. let a = c.args in cut_words a.cap l h _ _ _ _ e (id_count a.cap l _ e) k c.clear.ensures
