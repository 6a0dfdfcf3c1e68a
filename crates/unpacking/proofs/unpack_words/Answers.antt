use Prim.Native.Nat.{ℕ, ◌+◌}
use mathlib.Core.Path.{sym, subst}
use native.Mathlib.Omega.{arith}
use Rattle.std.specs.Prelude.{Some}
use lib.ListN.{length}
use Rattle.unpacking.specs.Parts.{PartRead, plain, Wide}
use Rattle.unpacking.proofs.Parts.{words_read, words_none}
use Rattle.unpacking.proofs.unpack_words.Goals as goal

pub returns-then-total-at : goal.returns-then-total-at
returns-then-total-at c = λ ws h. words_none h c.args.at (length c.args.out.now) _ (omega arith)

pub returns-then-total-at-2 : goal.returns-then-total-at-2
returns-then-total-at-2 c = λ ws h. words_none h c.args.at (length c.args.out.now) _ (omega arith)

pub returns : goal.returns
returns c = λ ws h. let a = c.args in
    subst (λ (n : ℕ). PartRead plain (Wide (length a.out.now)) ws c.get_words.new.out a.at (Some (a.at + n))) (sym c.get_words.auto.out)
    (words_read h a.at (length a.out.now) _ (omega arith) c.get_words.ensures.1)
