use mathlib.Core.Path.{◌∙◌}
use native.Mathlib.Omega.{arith}
use Rattle.id_lists.proofs.Places.{below_count, read_at}
use Rattle.id_lists.proofs.WordsAtWords.word.Goals as goal

pub overflow_add-self : goal.overflow_add-self
overflow_add-self c = omega (arith, below_count _ _ _ c.requires, c.args.self.now.there, c.type_inv.self)

pub overflow_mul-self : goal.overflow_mul-self
overflow_mul-self c = omega (arith, below_count _ _ _ c.requires, c.args.self.now.there, c.type_inv.self)

pub word_at-requires : goal.word_at-requires
word_at-requires c = omega (arith, below_count _ _ _ c.requires, c.args.self.now.there)

pub returns : goal.returns
returns c = c.word_at.ensures ∙ read_at _ c.args.self.now.at c.args.i c.args.self.now.bytes.now (below_count _ _ _ c.requires)
